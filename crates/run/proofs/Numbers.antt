-- Each end of a run has a number of its own.
use Prim.Native.Nat.{ℕ}
use mathlib.Core.Path.{◌≡◌, refl, sym, ap, ◌∙◌}
use mathlib.Core.Bool.{cond}
use mathlib.Core.List.{List, [], ◌∷◌}
use lib.Dec.{eqb}
use Rattle.hub.specs.declared.answers.Refusal.{Refusal}
use Rattle.run.specs.Run.{OwnNumbers, Ran, ran_code}
use Rattle.run.specs.declared.RunError.{RunError}
use Rattle.std.specs.Prelude.{Ok, Err}

ends : List Ran
ends =
    Err RunError.BadOpening
    ∷ Err RunError.Malformed
    ∷ Err RunError.NoRoom
    ∷ Err (RunError.NotOpened Refusal.Unfit)
    ∷ Err (RunError.NotOpened Refusal.BadPermits)
    ∷ Err (RunError.NotOpened Refusal.BadParties)
    ∷ Err (RunError.NotOpened Refusal.NoSuchParty)
    ∷ Err (RunError.NotOpened Refusal.NotFree)
    ∷ Err (RunError.NotOpened Refusal.Exhausted)
    ∷ Err (RunError.NotOpened Refusal.Full)
    ∷ Err (RunError.NotOpened Refusal.AtRest)
    ∷ Err (RunError.NotOpened Refusal.NotWaiting)
    ∷ Err (RunError.NotOpened Refusal.NotCancellable)
    ∷ Err (RunError.NotOpened Refusal.NotHolding)
    ∷ Err (RunError.NotOpened Refusal.SameRadios)
    ∷ Err (RunError.NotOpened Refusal.MiscountedKinds)
    ∷ Err (RunError.NotOpened Refusal.UnknownKind)
    ∷ Err (RunError.NotOpened Refusal.NoDesk)
    ∷ []

-- The first end of a list that has this number; done if none has.
numbered : ℕ → List Ran → Ran
numbered c [] = Ok tt
numbered c (r ∷ rs) = cond (eqb (ran_code r) c) r (numbered c rs)

found : (r : Ran) → numbered (ran_code r) ends ≡ r
unfolding ends numbered
found (Err RunError.BadOpening) = refl
found (Err RunError.Malformed) = refl
found (Err RunError.NoRoom) = refl
found (Ok u) = refl
found (Err (RunError.NotOpened Refusal.Unfit)) = refl
found (Err (RunError.NotOpened Refusal.BadPermits)) = refl
found (Err (RunError.NotOpened Refusal.BadParties)) = refl
found (Err (RunError.NotOpened Refusal.NoSuchParty)) = refl
found (Err (RunError.NotOpened Refusal.NotFree)) = refl
found (Err (RunError.NotOpened Refusal.Exhausted)) = refl
found (Err (RunError.NotOpened Refusal.Full)) = refl
found (Err (RunError.NotOpened Refusal.AtRest)) = refl
found (Err (RunError.NotOpened Refusal.NotWaiting)) = refl
found (Err (RunError.NotOpened Refusal.NotCancellable)) = refl
found (Err (RunError.NotOpened Refusal.NotHolding)) = refl
found (Err (RunError.NotOpened Refusal.SameRadios)) = refl
found (Err (RunError.NotOpened Refusal.MiscountedKinds)) = refl
found (Err (RunError.NotOpened Refusal.UnknownKind)) = refl
found (Err (RunError.NotOpened Refusal.NoDesk)) = refl

pub own-numbers : OwnNumbers
unfolding OwnNumbers
own-numbers r q e = sym (found r) ∙ ap (λ (c : ℕ). numbered c ends) e ∙ found q
