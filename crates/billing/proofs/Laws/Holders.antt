-- Whoever is given a link is a party below n. From what the hub promises alone: an answer that gives
-- a link adds a holder to the ledger's phases, which are the record's, and in a record that fits the
-- parties from n up are free, so that none of them is the one added.
use Prim.Native.Nat.{ℕ, ◌+◌, ◌%◌, ◌≤◌, ◌<◌}
use mathlib.Core.Path.{◌≡◌, refl, sym, ap, ◌∙◌}
use mathlib.Core.Bool.{Bool, true, false, cond, ◌&&◌, ◌||◌}
use mathlib.Core.List.{List, [], ◌∷◌, ◌++◌}
use native.Mathlib.Decide.{ℕ_discrete, dec_le}
use native.Mathlib.Omega.{arith}
use borrow.Author.Tests.{lt-ltb, le-ltb, eq-eqb, ne_eqb}
use lib.Dec.{ltb, eqb}
use lib.ListN.{length, set, length-set, length-replicate, get_or-eq_default}
use lib.Seq.{get_or-set_same, get_or-set_other, set_out, set-set}
use Rattle.hub.specs.declared.answers.Answer.{Answer}
use Rattle.hub.specs.declared.moves.Call.{Call}
use Rattle.hub.specs.declared.opening.Opening.{Opening}
use Rattle.hub.specs.declared.record.Hub.{Hub}
use Rattle.hub.specs.declared.record.Phase.{Phase}
use Rattle.hub.specs.Answers.{printed}
use Rattle.hub.specs.Basics.{among, bit, count, weight, all_from}
use Rattle.hub.specs.Calls.{called}
use Rattle.hub.specs.Demand3.{Accounts, Demand3, ReachedFits}
use Rattle.hub.specs.Fits.{fits, figures_fit, kinds_fit, party_fits, place_fits, place_listed, state_fits, ticket_fits}
use Rattle.hub.specs.Ledger.{Ledger, opened, ledger, enter, succeeded, phase_in, phase_after, phases_after}
use Rattle.hub.specs.Ledger.{gives, takes}
use Rattle.hub.specs.Look.{look}
use Rattle.hub.specs.Opening.{fresh, opening}
use Rattle.hub.specs.Phases.{is_free, is_one_of, holds}
use Rattle.hub.specs.Record.{PARTIES, read_slot}
use Rattle.hub.specs.Ring.{PLACES}
use Rattle.hub.specs.Schedule.{Entry, run, entries}
use Rattle.hub.proofs.Demand3.{in-range, demand3, every-record-fits}
use Rattle.hub.proofs.Laws.Bools.{first, second, if-true, if-false}
use Rattle.hub.proofs.Laws.Lists.{weight-set}
use Rattle.hub.proofs.Laws.Opening.{kept-opening}
use Rattle.hub.proofs.Laws.Phases.{one_of}
use Rattle.hub.proofs.Laws.Ranges.{one-true}
use Rattle.hub.proofs.Laws.Slots.{read-phase}
use Rattle.billing.specs.Counting.{receiver_of}
use Rattle.billing.proofs.Laws.Counting.{to-party, to-woken, to-nobody}
use Rattle.billing.proofs.Laws.Lines.{granting}
use Rattle.billing.proofs.Laws.Sums.{bit-true, bit-false}

-- A phase that holds nothing is put in: no holder more.
dropped : (l : List Phase) (p : ℕ) (y : Phase) → holds y ≡ false
    → count holds (set l p y) ≤ count holds l
dropped l p y e = go (dec_le (length l) p)
  where
    go : Dec (length l ≤ p) → count holds (set l p y) ≤ count holds l
    go (yes h) = rw (set_out l p y h) (omega arith)
    go (no h) =
        omega (
          arith,
          weight-set (λ (f : Phase). bit (holds f)) l p y Phase.Free (omega arith),
          bit-false e,
        )

-- The same, where the phase that is then read there holds nothing.
unseen : (l : List Phase) (p : ℕ) (y : Phase) → holds (phase_in (set l p y) p) ≡ false
    → count holds (set l p y) ≤ count holds l
unseen l p y e = go (dec_le (length l) p)
  where
    go : Dec (length l ≤ p) → count holds (set l p y) ≤ count holds l
    go (yes h) = rw (set_out l p y h) (omega arith)
    go (no h) = dropped l p y (ap holds (sym (get_or-set_same l p y Phase.Free (omega arith))) ∙ e)

free-holds-none : (f : Phase) → is_free f ≡ true → holds f ≡ false
unfolding is_one_of
free-holds-none f e = ap holds (one_of Phase.Free f e)

-- In a record that fits the parties from n up are free.
free-beyond : (h : Hub) → fits h ≡ true → (p : ℕ) → h.control.opening.parties ≤ p → p < PARTIES
    → is_free (read_slot h.slots p).phase ≡ true
unfolding fits state_fits party_fits
free-beyond h e p n b =
    let state = first (state_fits h) (kinds_fit h.control.opening) e in
    let figures = figures_fit h.control.opening h.control.figures h.control.oldest in
    let parties = all_from (party_fits h) 0 PARTIES in
    let places = all_from (place_fits h) h.control.oldest PLACES in
    let all =
    second figures parties (first (figures && parties) places (first (figures && parties && places) _ state)) in
    let f = (read_slot h.slots p).phase in
    let there = ltb p h.control.opening.parties || is_free f in
    let tickets = ticket_fits h.control.figures h.control.oldest f in
    let listed = place_listed f (look h p).seat.place in
    absent (ltb p h.control.opening.parties) (le-ltb p _ n)
    (first there tickets
    (first (there && tickets) listed
    (first (there && tickets && listed) _
    (one-true (party_fits h) 0 PARTIES p all (omega arith) (omega arith)))))
  where
    absent : (a : Bool) {b : Bool} → a ≡ false → a || b ≡ true → b ≡ true
    absent true e i = let z : ◌≡◌ {A = ℕ} 0 1 = cc in absurd (omega arith)
    absent false e i = i

-- A call and its answer, as a bystander sees them.
abbrev entry : Hub → Call → Entry
entry h c = record { call = c; answer = printed (called h c).answer }

-- One call more.
more-run : (h : Hub) (cs : List Call) (c : Call) → run h (cs ++ (c ∷ [])) ≡ (called (run h cs) c).hub
unfolding run
more-run h [] c = refl
more-run h (d ∷ cs) c = more-run (called h d).hub cs c

more-entries : (h : Hub) (e : Ledger) (cs : List Call) (c : Call)
    → ledger e (entries h (cs ++ (c ∷ []))) ≡ enter (ledger e (entries h cs)) (entry (run h cs) c)
unfolding run ledger entries
more-entries h e [] c = refl
more-entries h e (d ∷ cs) c = more-entries (called h d).hub (enter e (entry h d)) cs c

-- What an entry that is no refusal does to the ledger.
module _ (e : Ledger) (x : Entry) (s : 0x20 ≤ x.answer.code) where
  entered : {A : Type 0} (f : Ledger → A)
      → f (enter e x) ≡ f (succeeded x.call.op x.call.party x.answer e)
  unfolding enter
  entered f =
      ap f (if-false (ltb x.answer.code 0x20) e _ (le-ltb x.answer.code 0x20 s))

  gave-more : (enter e x).gave ≡ e.gave + gives x.answer.code
  gave-more = entered (λ d. d.gave)

  took_more : (enter e x).took ≡ e.took + takes x.answer.code
  took_more = entered (λ d. d.took)

  -- Only a 2A moves anybody else.
  one-moved : (x.answer.code ≡ 0x2A → ⊥)
      → (y : Phase) × ((enter e x).phases ≡ set e.phases x.call.party y)
  unfolding phases_after
  one-moved n =
      (_, entered (λ d. d.phases) ∙ unmoved _ _ _ _ _ (ne_eqb x.answer.code 0x2A n))
    where
      unmoved : (b : Bool) (u l : List Phase) (p : ℕ) (y : Phase) → b ≡ false
          → set (cond b u l) p y ≡ set l p y
      unmoved b u l p y i = rw i

  two-moved : x.answer.code ≡ 0x2A
      → (y : Phase)
      × ((enter e x).phases
      ≡ set (set e.phases x.answer.woken Phase.Holding) x.call.party y)
      × (holds y ≡ false)
  unfolding phases_after phase_after is_one_of
  two-moved i =
      (_, entered (λ d. d.phases) ∙ moved _ _ _ _ _ (eq-eqb x.answer.code 0x2A i), rw i)
    where
      moved : (b : Bool) (u l : List Phase) (p : ℕ) (y : Phase) → b ≡ true
          → set (cond b u l) p y ≡ set u p y
      moved b u l p y i = rw i

-- A refusal does nothing to it.
refused-same : (e : Ledger) (x : Entry) → x.answer.code < 0x20 → enter e x ≡ e
unfolding enter
refused-same e x k = if-true (ltb x.answer.code 0x20) e _ (lt-ltb x.answer.code 0x20 k)

size-kept : (e : Ledger) (x : Entry) → length (enter e x).phases ≡ length e.phases
unfolding enter phases_after
size-kept e x =
    go (ltb x.answer.code 0x20) _
    (length-set (cond (eqb x.answer.code 0x2A) _ e.phases) x.call.party _
    ∙ other (eqb x.answer.code 0x2A) x.answer.woken Phase.Holding)
  where
    other : (b : Bool) (p : ℕ) (y : Phase)
        → length (cond b (set e.phases p y) e.phases) ≡ length e.phases
    other true p y = length-set e.phases p y
    other false p y = refl

    go : (b : Bool) (d : Ledger) → length d.phases ≡ length e.phases
        → length (cond b e d).phases ≡ length e.phases
    go true d i = refl
    go false d i = i

-- A record and a ledger in the course of a schedule.
module _ (o : Opening) (a : (opening o).answer ≡ Answer.Opened) where
  pub record Standing (h : Hub) (e : Ledger) : Type 0 where
    pub calls : List Call
    pub hub : h ≡ run (opening o).hub calls
    pub ledger : e ≡ ledger (opened o) (entries (opening o).hub calls)
    pub opening : h.control.opening ≡ o
    pub size : length e.phases ≡ PARTIES

  pub start : Standing (opening o).hub (opened o)
  unfolding run entries ledger fresh
  start =
      record {
        calls = [];
        hub = refl;
        ledger = refl;
        opening = ap (λ (h : Hub). h.control.opening) (in-range o a).hub;
        size = length-replicate {A = Phase} PARTIES Phase.Free;
      }

  pub onward : {h : Hub} {e : Ledger} → Standing h e → (c : Call)
      → Standing (called h c).hub (enter e (entry h c))
  onward {h} {e} s c =
      record {
        calls = s.calls ++ (c ∷ []);
        hub =
            ap (λ (g : Hub). (called g c).hub) s.hub
            ∙ sym (more-run (opening o).hub s.calls c);
        ledger =
            (λ i. enter (s.ledger i) (entry (s.hub i) c))
            ∙ sym (more-entries (opening o).hub (opened o) s.calls c);
        opening = kept-opening h _ _ ∙ s.opening;
        size = size-kept e (entry h c) ∙ s.size;
      }

  module _ {h : Hub} {e : Ledger} (s : Standing h e) where
    pub accounts : Accounts o.permits e h
    unfolding Demand3
    accounts = rw (s.hub, s.ledger) (demand3 o a s.calls)

    -- Its holders, and the parties from n up.
    pub balance : count holds e.phases + e.took ≡ e.gave
    balance = omega (arith, accounts.holders, accounts.held_whole)

    beyond : (p : ℕ) → o.parties ≤ p → holds (phase_in e.phases p) ≡ false
    unfolding ReachedFits is_one_of
    beyond p n = go (dec_le PARTIES p)
      where
        go : Dec (PARTIES ≤ p) → holds (phase_in e.phases p) ≡ false
        go (yes k) =
            ap holds (get_or-eq_default e.phases Phase.Free {n = p} (omega (arith, s.size)))
        go (no k) =
            ap (λ (l : List Phase). holds (phase_in l p)) (sym accounts.phases)
            ∙ ap holds (sym (read-phase h.slots p))
            ∙ free-holds-none (read_slot h.slots p).phase
            (free-beyond h (ap fits s.hub ∙ every-record-fits o a s.calls) p
            (omega (arith, ap (λ (o : Opening). o.parties) s.opening)) (omega arith))

  -- One call more.
  module _ {h : Hub} {e : Ledger} (s : Standing h e) (c : Call) where
    abbrev seen : Entry
    seen = entry h c

    abbrev code : ℕ
    code = seen.answer.code

    abbrev next : Standing (called h c).hub (enter e seen)
    next = onward s c

    -- A holder more, where the answer gives a link.
    risen : 0x20 ≤ code → gives code ≡ 1 → takes code ≡ 0
        → count holds (enter e seen).phases ≡ count holds e.phases + 1
    risen k g t = omega (arith, balance s, balance next, gave-more e seen k, took_more e seen k)

    party-below : 0x20 ≤ code → (code ≡ 0x2A → ⊥) → gives code ≡ 1 → takes code ≡ 0
        → c.party < o.parties
    party-below k n g t = go (dec_le o.parties c.party)
      where
        go : Dec (o.parties ≤ c.party) → c.party < o.parties
        go (no i) = omega arith
        go (yes i) =
            let m = one-moved e seen k n in
            let z =
            unseen e.phases c.party m.0
            (ap (λ (l : List Phase). holds (phase_in l c.party)) (sym m.1) ∙ beyond next c.party i) in
            absurd (omega (arith, risen k g t, ap (count holds) m.1))

    woken-below : code ≡ 0x2A → seen.answer.woken < o.parties
    woken-below i = go (dec_le o.parties q) (ℕ_discrete q p)
      where
        q : ℕ
        q = seen.answer.woken

        p : ℕ
        p = c.party

        k : 0x20 ≤ code
        k = omega arith

        up : count holds (enter e seen).phases ≡ count holds e.phases + 1
        up = risen k (ap gives i) (ap takes i)

        go : Dec (o.parties ≤ q) → Dec (q ≡ p) → q < o.parties
        go (no j) d = omega arith
        go (yes j) (yes d) =
            let m = two-moved e seen k i in
            let z = dropped e.phases p m.0 m.2 in
            absurd
            (omega (
              arith,
              up,
              ap (count holds)
                  (m.1
                  ∙ ap (λ (r : ℕ). set (set e.phases r Phase.Holding) p m.0) d
                  ∙ set-set e.phases p Phase.Holding m.0),
            ))
        go (yes j) (no d) =
            let m = two-moved e seen k i in
            let w = set e.phases q Phase.Holding in
            let y = dropped w p m.0 m.2 in
            let z =
            unseen e.phases q Phase.Holding
            (ap holds (sym (get_or-set_other w p q m.0 Phase.Free d))
            ∙ ap (λ (l : List Phase). holds (phase_in l q)) (sym m.1)
            ∙ beyond next q j) in
            absurd (omega (arith, up, ap (count holds) m.1))

    -- What a line is worth in the count of links, the ledger has given.
    line-worth : granting o.parties code c.party (seen.answer.woken % 256) + e.gave
        ≡ (enter e seen).gave
    line-worth = go (ℕ_discrete code 0x21) (ℕ_discrete code 0x25) (ℕ_discrete code 0x2A)
      where
        n : ℕ
        n = o.parties

        -- The party that gets it, if it is below n.
        one : (r : ℕ) → receiver_of code c.party (seen.answer.woken % 256) ≡ r → 0x20 ≤ code
            → gives code ≡ 1 → r < n
            → granting n code c.party (seen.answer.woken % 256) + e.gave ≡ (enter e seen).gave
        one r i k g b =
            omega (
              arith,
              gave-more e seen k,
              ap (λ (q : ℕ). bit (ltb q n)) i,
              bit-true (lt-ltb r n b),
            )

        none : gives code ≡ 0 → (enter e seen).gave ≡ e.gave
        none g = on (dec_le 0x20 code)
          where
            on : Dec (0x20 ≤ code) → (enter e seen).gave ≡ e.gave
            on (yes k) = omega (arith, gave-more e seen k)
            on (no k) = ap (λ (d : Ledger). d.gave) (refused-same e seen (omega arith))

        go : Dec (code ≡ 0x21) → Dec (code ≡ 0x25) → Dec (code ≡ 0x2A)
            → granting n code c.party (seen.answer.woken % 256) + e.gave ≡ (enter e seen).gave
        go (yes i) j k =
            one c.party (to-party code c.party _ (ap (among (0x21 ∷ 0x25 ∷ [])) i)) (omega arith)
            (ap gives i) (party-below (omega arith) (λ z. omega arith) (ap gives i) (ap takes i))
        go (no i) (yes j) k =
            one c.party (to-party code c.party _ (ap (among (0x21 ∷ 0x25 ∷ [])) j)) (omega arith)
            (ap gives j) (party-below (omega arith) (λ z. omega arith) (ap gives j) (ap takes j))
        go (no i) (no j) (yes k) =
            let b = woken-below k in
            one (seen.answer.woken % 256) (to-woken code c.party _ k) (omega arith) (ap gives k)
            (omega (arith, (in-range o a).parties.1))
        go (no i) (no j) (no k) =
            omega (
              arith,
              none (rw (ne_eqb code 0x21 i, ne_eqb code 0x25 j, ne_eqb code 0x2A k)),
              ap (λ (q : ℕ). bit (ltb q n)) (to-nobody code c.party (seen.answer.woken % 256) i j k),
              bit-false (le-ltb 0xFF n (omega (arith, (in-range o a).parties.1))),
            )

  -- Over all calls from there on.
  abbrev pub worth_in : Entry → ℕ
  worth_in x = granting o.parties x.answer.code x.call.party (x.answer.woken % 256)

  pub all-given : {h : Hub} {e : Ledger} → Standing h e → (cs : List Call)
      → weight worth_in (entries h cs) + e.gave ≡ (ledger e (entries h cs)).gave
  unfolding weight entries ledger
  all-given s [] = omega arith
  all-given {h = h} {e = e} s (c ∷ cs) =
      omega (
        arith,
        line-worth s c,
        all-given {h = (called h c).hub} {e = enter e (record { call = c; answer = printed (called h c).answer })}
            (onward s c) cs,
      )

-- And what the ledger has taken is what the 26 and 27 are worth; no refusal is.
pub takes_low : (c : ℕ) → c < 0x20 → takes c ≡ 0
takes_low c h = rw (ne_eqb c 0x26 (λ i. omega arith), ne_eqb c 0x27 (λ i. omega arith))

line-returned : (e : Ledger) (x : Entry) → takes x.answer.code + e.took ≡ (enter e x).took
line-returned e x = go (dec_le 0x20 x.answer.code)
  where
    go : Dec (0x20 ≤ x.answer.code) → takes x.answer.code + e.took ≡ (enter e x).took
    go (yes k) = omega (arith, took_more e x k)
    go (no k) =
        let h : x.answer.code < 0x20 = omega arith in
        omega (arith, takes_low x.answer.code h, ap (λ (d : Ledger). d.took) (refused-same e x h))

pub all-returned : (e : Ledger) (xs : List Entry)
    → weight (λ (x : Entry). takes x.answer.code) xs + e.took ≡ (ledger e xs).took
unfolding weight ledger
all-returned e [] = omega arith
all-returned e (x ∷ xs) = omega (arith, line-returned e x, all-returned (enter e x) xs)
