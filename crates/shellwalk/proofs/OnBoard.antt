-- A function that has the record by value, an operation and a party, and answers what a shell over that record leaves.
use mathlib.Core.Path.{◌≡◌, refl}
use Prim.Native.Nat.{ℕ, ◌<◌, ◌^◌}
use mathlib.Core.List.{[], ◌∷◌, List}
use seplogic.Ra.Ura.{Ura}
use mir.Syntax.{w8}
use mir.Val.{Val, vint}
use base.Logic.{SProp, ent, emp, via, fst∗}
use base.Fml.{ftrue}
use types.Logic.{Logic, sem}
use contract.Monad.{Fun, Mono}
use contract.Notation as Notation
use types.Kit.{Sq, prop, ‵, ◌$◌, ◌∵◌, !, qed, keep, use0, fjoin, suffices, frame, done}
use denote.RattleType.{RattleType, owns}
use denote.Laws.{Is}
use denote.Plain.{uint_vals, uint_Tells, uint_Makes}
use denote.Builtin.{u8}
use denote.Exit.{yes}
use denote.Signature.{Signature, plain}
use denote.Steps.{owned, nothing}
use denote.Struct.Laws as LL
use denote.Enum.Laws as EL
use denote.Triple.Clauses.{Clauses, Ended, closing}
use denote.Triple.Spec.{Meets}
use denote.Triple.Walked.{says, Stays, stay_none, walk_of, Goes-none, ends_at, walked, walk_Meets}
use Rattle.hub.specs.declared.answers.Answer.{Answer}
use Rattle.hub.specs.declared.moves.Op.{Op}
use Rattle.hub.specs.declared.record.Hub.{Hub}
use Rattle.hub.specs.Answers.{printed}
use Rattle.hub.specs.contracts.moves.Op as O
use Rattle.hub.proofs.moves.Op.TheLaws as O'
use Rattle.hub.specs.contracts.record.Hub as T
use Rattle.hub.proofs.record.Hub.TheLaws as T'
use Rattle.shellwalk.proofs.OverFields.{hub_val}

-- its signature; R is the type of what it answers
abbrev pub signature : RattleType → Signature
signature R = record {
  lifetimes = 0;
  outlives = [];
  params = plain (λ _. T.the_row) ∷ plain (λ _. O.the_row) ∷ plain (λ _. u8) ∷ [];
  result = plain (λ _. R);
}

abbrev pub ended : RattleType → Ended
ended R = record { signature = signature R; kept = (yes, (yes, (yes, tt))) }

abbrev stayed : (R : RattleType) → Stays (ended R).signature.params (ended R).kept
stayed R =
    let o = stay_none (λ _. O.the_row) yes in
    (stay_none (λ _. T.the_row) yes, (o, (stay_none (λ _. u8) yes, tt)))

abbrev pub op_val : Op → Val
op_val = EL.val O.the_type O'.the_laws

-- what it ensures if it answers D, in which the hub's answer is
module _ {M : Type 1} (𝓤 : Ura M) (R : RattleType) (answer : R.Denot → Answer) (D : Hub → Op → ℕ → R.Denot) where
  open Notation.connectives 𝓤 use {⌜◌⌝, ⊤ₛ}

  abbrev pub clauses : Clauses 𝓤 (ended R)
  clauses = λ κs a. record {
    ghost = Unit {0};
    requires = λ g. ⊤ₛ;
    ensures = λ g r e.
        ⌜ (r ≡ D a.0 a.1.0 a.1.1.0)
        × (printed (answer r) ≡ printed (answer (D a.0 a.1.0 a.1.1.0))) ⌝;
  }

module _ {M : Type 1} {𝓤 : Ura M} (𝓛 : Logic 𝓤) (R : RattleType)
    (answer : R.Denot → Answer) (D : Hub → Op → ℕ → R.Denot) where
  module _ (h : Hub) (a : Op) (n : ℕ) where
    abbrev bound : (walk_of 𝓛 (ended R) (stayed R) (clauses 𝓤 R answer D)).Ghost
    bound = ((tt, tt, tt, (h, (a, (n, tt))), (hub_val h ∷ [], (op_val a ∷ [], (vint w8 n ∷ [], tt)))), tt)

    abbrev pub AtEnd : Val → SProp 𝓤
    AtEnd = (walk_of 𝓛 (ended R) (stayed R) (clauses 𝓤 R answer D)).post bound

    pub reaches :
        Is T.the_row h (hub_val h ∷ []) → Is O.the_row a (op_val a ∷ []) → n < 2 ^ 8 → (v : Val)
        → ent 𝓤 (emp 𝓤) (sem 𝓛 (R.own_val (D h a n) (v ∷ []))) → ent 𝓤 (emp 𝓤) (AtEnd v)
    reaches is is-op fits v has =
        qed 𝓛 [] ∵
        suffices ! _ (ends_at 𝓛 (ended R) (stayed R) (clauses 𝓤 R answer D) bound v (D h a n)
        (tt, (tt, (tt, tt))) (tt, (tt, (tt, tt)))) $ says ! (refl, refl) $ nothing ! $ frame ! $
        nothing ! $ owned ! u8 (Is u8) (uint_Makes 𝓛 w8) n _ (refl, fits) $ fjoin ! $
        owned ! O.the_row (Is O.the_row) (EL.makes O.the_type O'.the_plain 𝓛) a _ is-op $ fjoin ! $
        owned ! T.the_row (Is T.the_row) (LL.makes T.the_type T'.the_plain 𝓛) h _ is $ fjoin ! $ frame ! $
        use0 𝓛 (‵ (R.own_val (D h a n) (v ∷ []))) has $ done !

  -- so a function that reaches it meets the contract
  pub meets :
      (run : Fun 𝓤) → ((vs : List Val) → Mono 𝓤 (run vs))
      → ((h : Hub) (a : Op) (n : ℕ) → Is T.the_row h (hub_val h ∷ []) → Is O.the_row a (op_val a ∷ []) → n < 2 ^ 8
      → Sq 𝓛 [] (prop (run (hub_val h ∷ op_val a ∷ vint w8 n ∷ []) (AtEnd h a n))))
      → Meets 𝓛 (signature R) run (closing 𝓛 (ended R) (clauses 𝓤 R answer D))
  meets run mono walk =
      let t = Goes-none 𝓛 0 (λ _. T.the_row) yes (λ κs x f. refl) in
      let o = Goes-none 𝓛 0 (λ _. O.the_row) yes (λ κs x f. refl) in
      let b = Goes-none 𝓛 0 (λ _. u8) yes (λ κs x f. refl) in
      walk_Meets 𝓛 (ended R) (stayed R) (t, (o, (b, tt))) (clauses 𝓤 R answer D) run mono
      (walked 𝓛 (ended R) (stayed R) (clauses 𝓤 R answer D) run
      (λ κs. (LL.vals T.the_type T'.the_laws, (EL.vals O.the_type O'.the_laws, (uint_vals w8, tt))))
      (λ κs. (LL.tells T.the_type T'.the_laws, (EL.tells O.the_type O'.the_laws, (uint_Tells w8, tt))))
      (λ κs qs bounds y g are. via 𝓤 _ (fst∗ 𝓤 _ (emp 𝓤))
      (qed 𝓛 (‵ ftrue
      ∷ ‵ (owns (T.the_row ∷ O.the_row ∷ u8 ∷ []) y
      (hub_val y.0 ∷ [], (op_val y.1.0 ∷ [], (vint w8 y.1.1.0 ∷ [], tt)))) ∷ []) ∵ keep ! [] $
      walk y.0 y.1.0 y.1.1.0 are.0 are.1.0 are.1.1.0.1)))
