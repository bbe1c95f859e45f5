-- The function that a shell calls, with an operation, a party and the record's fields, whatever it answers.
use mathlib.Core.Path.{◌≡◌, refl}
use Prim.Native.Nat.{ℕ, ◌<◌, ◌^◌}
use mathlib.Core.List.{[], ◌∷◌, List}
use seplogic.Ra.Ura.{Ura}
use mir.Syntax.{w8}
use mir.Val.{Val, Vals, of_list, vint}
use base.Logic.{ent, snd∗, ex_e, id⊢}
use base.Fml.{ftrue}
use types.Logic.{Logic, sem}
use contract.Monad.{fact}
use contract.Notation as Notation
use types.Kit.{
  Item,
  Goal,
  Soaks,
  Sq,
  ‵,
  raw,
  some,
  later,
  ◌⊛◌,
  ◌$◌,
  ◌∵◌,
  !,
  qed,
  move,
  drop,
  use1,
  split,
  join,
  pick,
  fjoin,
  frame,
  await,
  done,
}
use denote.RattleType.{RattleType, Valss, flat, mirs}
use denote.Laws.{Is, Typed, shows, valss}
use denote.Plain.{uint_Makes}
use denote.Array.{Array, Array-Makes}
use denote.Builtin.{u8, ArrayOf}
use denote.Exit.{yes}
use denote.Signature.{Signature, plain}
use denote.Steps.{facts, heard, owned, nothing}
use denote.Struct.Declared.{fields}
use denote.Struct.Laws as LL
use denote.Struct.Struct.{typeds}
use denote.Enum.Laws as EL
use denote.Triple.Statement.{Contract}
use denote.Triple.Clauses.{Clauses, Ended, ensured, lasts, closing}
use denote.Triple.Spec.{triple_of}
use Rattle.hub.specs.declared.moves.Op.{Op}
use Rattle.hub.specs.declared.record.Hub.{Hub}
use Rattle.hub.specs.contracts.moves.Op as O
use Rattle.hub.proofs.moves.Op.TheLaws as O'
use Rattle.hub.specs.contracts.record.Control as Control
use Rattle.hub.proofs.record.Control.TheLaws as Control'
use Rattle.hub.specs.contracts.record.Hub as T
use Rattle.hub.proofs.record.Hub.TheLaws as T'
use Rattle.hub.specs.contracts.record.PartySlot as PartySlot
use Rattle.hub.proofs.record.PartySlot.TheLaws as PartySlot'
use Rattle.hub.specs.contracts.record.PlaceSlot as PlaceSlot
use Rattle.hub.proofs.record.PlaceSlot.TheLaws as PlaceSlot'

-- its signature; R is the type of what it answers
abbrev pub signature : RattleType → Signature
signature R = record {
  lifetimes = 0;
  outlives = [];
  params =
      plain (λ _. O.the_row)
      ∷ plain (λ _. u8)
      ∷ ArrayOf (plain (λ _. PlaceSlot.the_row)) (λ _. tt) 256
      ∷ ArrayOf (plain (λ _. PartySlot.the_row)) (λ _. tt) 32
      ∷ plain (λ _. Control.the_row)
      ∷ [];
  result = plain (λ _. R);
}

abbrev pub ended : RattleType → Ended
ended R = record {
  signature = signature R;
  kept = (yes, (yes, (yes, (yes, (yes, tt)))));
}

-- the machine's value of a record, and those of its fields
abbrev pub hub_val : Hub → Val
hub_val = LL.val T.the_type T'.the_laws

abbrev pub held : Hub → Valss (fields T.the_type)
held h = valss (fields T.the_type) (LL.spells (T.the_type).parts T'.the_laws) ((T.the_type).to h)

abbrev pub field_vals : Hub → Vals
field_vals h = of_list (flat (fields T.the_type) (held h))

-- what it ensures if it answers D
module _ {M : Type 1} (𝓤 : Ura M) (R : RattleType) (D : Hub → Op → ℕ → R.Denot) where
  open Notation.connectives 𝓤 use {⌜◌⌝, ⊤ₛ}

  abbrev pub core_clauses : Clauses 𝓤 (ended R)
  core_clauses = λ κs a. record {
    ghost = Unit {0};
    requires = λ g. ⊤ₛ;
    ensures = λ g r e. ⌜ r ≡ D ((T.struct).make a.1.1 tt) a.0 a.1.0 ⌝;
  }

module _ {M : Type 1} {𝓤 : Ura M} (𝓛 : Logic 𝓤) where
  -- the values of the fields are of their types
  pub typed :
      (h : Hub) → Is T.the_row h (hub_val h ∷ []) → Typed (mirs (fields T.the_type)) (flat (fields T.the_type) (held h))
  typed h is =
      typeds 𝓛 (fields T.the_type) (LL.lawfuls 𝓛 (T.the_type).parts T'.the_laws)
      ((T.the_type).to h) (held h) (LL.owed T.the_type T'.the_laws h _ is)

module _ {M : Type 1} {𝓤 : Ura M} (𝓛 : Logic 𝓤) (R : RattleType) (D : Hub → Op → ℕ → R.Denot) where
  abbrev pub Core : Contract 𝓤
  Core = triple_of 𝓛 (signature R) (closing 𝓛 (ended R) (core_clauses 𝓤 R D))

  answered :
      (h : Hub) (a : Op) (n : ℕ) (r : R.Denot)
      → ent 𝓤 (ensured 𝓛 (ended R) (core_clauses 𝓤 R D) tt (a, (n, (T.struct).as_values h)) tt r)
      (fact 𝓤 (r ≡ D h a n))
  answered h a n r =
      ex_e 𝓤 _ (λ ws.
      snd∗ 𝓤 (sem 𝓛 (lasts (ended R) tt (a, (n, (T.struct).as_values h)) ws)) (fact 𝓤 (r ≡ D h a n)))

module _ {M : Type 1} {𝓤 : Ura M} (𝓛 : Logic 𝓤) (R : RattleType)
    (D : Hub → Op → ℕ → R.Denot) where
  -- the call with operation a, whose machine value is u, and party n, on the fields of h
  open 𝓛 use {H}

  abbrev pub to-core : Op → Val → Hub → ℕ → (Core 𝓛 R D).Ghost
  to-core a u h n = ((tt, tt, tt, (a, (n, (T.struct).as_values h)), (u ∷ [], (vint w8 n ∷ [], held h))), tt)

  pub goes-core :
      (a : Op) (u : Val) (h : Hub) (n : ℕ) → Is O.the_row a (u ∷ []) → n < 2 ^ 8 → Is T.the_row h (hub_val h ∷ [])
      → ent 𝓤 (sem 𝓛 ftrue) ((Core 𝓛 R D).pre (to-core a u h n))
  goes-core a u h n is-op fits is =
      let e = LL.owed T.the_type T'.the_laws h _ is in
      qed 𝓛 (‵ ftrue ∷ []) ∵
      owned ! Control.the_row (Is Control.the_row) (LL.makes Control.the_type Control'.the_plain 𝓛)
      h.control _ e.1.1.0 $ fjoin ! $
      owned ! (Array PartySlot.the_row 32) (Is (Array PartySlot.the_row 32))
      (Array-Makes 𝓛 PartySlot.the_row (LL.makes PartySlot.the_type PartySlot'.the_plain 𝓛) 32)
      h.slots _ e.1.0 $ fjoin ! $
      owned ! (Array PlaceSlot.the_row 256) (Is (Array PlaceSlot.the_row 256))
      (Array-Makes 𝓛 PlaceSlot.the_row (LL.makes PlaceSlot.the_type PlaceSlot'.the_plain 𝓛) 256)
      h.places _ e.0 $ fjoin ! $
      owned ! u8 (Is u8) (uint_Makes 𝓛 w8) n _ (refl, fits) $ fjoin ! $
      owned ! O.the_row (Is O.the_row) (EL.makes O.the_type O'.the_plain 𝓛) a _ is-op $ fjoin ! $
      nothing ! $ join ! $ frame ! $ done !

  -- once it has returned v
  pub answers :
      (a : Op) (u : Val) (h : Hub) (n : ℕ) (v : Val) (Γ : List (Item 𝓤)) (G : Goal 𝓤 H) → Soaks G
      → ((r : R.Denot) → r ≡ D h a n → Is R r (v ∷ []) → Sq 𝓛 Γ G)
      → Sq 𝓛 (raw ((Core 𝓛 R D).post (to-core a u h n) v) ∷ Γ) G
  answers a u h n v Γ G z k =
      use1 𝓛 (later (some (λ (r : R.Denot). (‵ ftrue ⊛ ‵ (R.own_val r (v ∷ [])))
      ⊛ raw (ensured 𝓛 (ended R) (core_clauses 𝓤 R D) tt (a, (n, (T.struct).as_values h)) tt r)))) (id⊢ 𝓤 _) $
      await ! z $ pick ! (λ r. split ! $ move ! (1 ∷ []) $
      use1 𝓛 (raw (fact 𝓤 (r ≡ D h a n))) (answered 𝓛 R D h a n r) $ heard ! (r ≡ D h a n) (λ e.
      split ! $ drop ! $ facts ! R (Is R) (shows 𝓛 R) r (v ∷ []) (λ is. k r e is)))
