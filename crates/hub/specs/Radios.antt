-- "Radios by name": who has which radio, and how a radio moves. On a hub without radios none of it counts.
use Rattle.std.specs.Prelude.{ℕ, zero, suc, ◌+◌, ◌-◌, ◌%◌, Bool, true, cond, not, ◌&&◌, List, [], ◌∷◌, ◌++◌, eqb, get_or, length, set, take, replicate}
use Rattle.hub.specs.declared.opening.Opening.{Opening}
use Rattle.hub.specs.declared.record.PartySlot.{PartySlot}
use Rattle.hub.specs.declared.record.PlaceSlot.{PlaceSlot}
use Rattle.hub.specs.declared.record.Pool.{Pool}
use Rattle.hub.specs.Answers.{Printed}
use Rattle.hub.specs.Basics.{all_from, among, count}
use Rattle.hub.specs.Phases.{has_radio, is_permit}
use Rattle.hub.specs.Record.{phases_of, places_of}
use Rattle.hub.specs.Ring.{PLACES}

-- How many radios the store has room for.
abbrev pub STORE : ℕ
STORE = 32

-- An opening keeps 32 bytes for its radios: what is not given is 0.
unfoldable pub padded : List ℕ → List ℕ
padded l = take STORE (l ++ replicate STORE 0)

-- The radios of an opening: the first K.
unfoldable pub radios_of : Opening → List ℕ
radios_of o = take o.permits (padded o.radios)

-- No two are alike.
unfoldable pub differ : List ℕ → Bool
differ [] = true
differ (x ∷ l) = not (among l x) && differ l

-- How often b is in a list.
abbrev pub occurs : ℕ → List ℕ → ℕ
occurs b l = count (eqb b) l

-- Is one list a rearrangement of the other: equally long, and every byte in both equally often?
unfoldable pub rearranged : List ℕ → List ℕ → Bool
rearranged l m =
    eqb (length l) (length m) && all_from (λ b. eqb (occurs b l) (occurs b m)) 0 256

-- The radio with party p, and at the place of ticket t.
unfoldable pub hand_of : Pool → ℕ → ℕ
hand_of q p = get_or q.hands p 0

unfoldable pub laid_at : Pool → ℕ → ℕ
laid_at q t = get_or q.laid (t % PLACES) 0

-- The n radios of a ring from index i on.
unfoldable pub ring_from : List ℕ → ℕ → ℕ → List ℕ
ring_from l i zero = []
ring_from l i (suc n) = get_or l (i % STORE) 0 ∷ ring_from l (suc i) n

-- The stored radios, the first to be taken first.
abbrev pub stored_in : Pool → List ℕ
stored_in q = ring_from q.store q.first q.stored

-- The radios of those elements of a list that have one.
unfoldable pub shown : {A : Type 0} → (A → Bool) → List A → List ℕ → List ℕ
shown has [] rs = []
shown has (x ∷ l) [] = []
shown has (x ∷ l) (r ∷ rs) = cond (has x) (r ∷ shown has l rs) (shown has l rs)

-- The radios with parties, at places and in the store.
unfoldable pub radios_in : List PartySlot → List PlaceSlot → Pool → List ℕ
radios_in slots places q =
    shown has_radio (phases_of slots) q.hands
    ++ (shown is_permit (places_of places) q.laid ++ stored_in q)

-- Radio r goes to party p, to the place of ticket t, to the store's end.
abbrev pub hand_to : ℕ → ℕ → Pool → Pool
hand_to p r q =
    record {
      hands = set q.hands p r;
      laid = q.laid;
      store = q.store;
      first = q.first;
      stored = q.stored;
    }

abbrev pub lay_at : ℕ → ℕ → Pool → Pool
lay_at t r q =
    record {
      hands = q.hands;
      laid = set q.laid (t % PLACES) r;
      store = q.store;
      first = q.first;
      stored = q.stored;
    }

abbrev pub put_back : ℕ → Pool → Pool
put_back r q =
    record {
      hands = q.hands;
      laid = q.laid;
      store = set q.store ((q.first + q.stored) % STORE) r;
      first = q.first;
      stored = q.stored + 1;
    }

-- The store's first radio goes to party p.
abbrev pub fetch : ℕ → Pool → Pool
fetch p q =
    record {
      hands = set q.hands p (get_or q.store (q.first % STORE) 0);
      laid = q.laid;
      store = q.store;
      first = (q.first + 1) % STORE;
      stored = q.stored - 1;
    }

-- The way of the radio when party p is answered y: the answer alone decides.
unfoldable pub moved : Printed → ℕ → Pool → Pool
moved y p q =
    let c = y.code in
    let t = y.number in
    cond (eqb c 0x36) (fetch p q)
    (cond (among (0x38 ∷ 0x2D ∷ []) c) (put_back (hand_of q p) q)
    (cond (among (0x29 ∷ 0x2B ∷ []) c) (lay_at t (hand_of q p) q)
    (cond (among (0x25 ∷ 0x31 ∷ []) c) (hand_to p (laid_at q t) q)
    (cond (eqb c 0x2A) (hand_to y.woken (hand_of q p) q)
    (cond (eqb c 0x33) (put_back (laid_at q t) q) q)))))

-- Nothing moves on a hub without radios.
unfoldable pub pool_after : Bool → Printed → ℕ → Pool → Pool
pool_after named y p q = cond named (moved y p q) q
