-- How a run ends: each ending is what the definition says where its tests went that way.
use Prim.Native.Nat.{ℕ, suc, ◌*◌, ◌/◌, ◌≤◌, ◌<◌}
use mathlib.Core.Path.{◌≡◌, refl, sym, ap, subst, ◌∙◌}
use mathlib.Core.Bool.{Bool, true, false}
use mathlib.Core.List.{List, [], ◌∷◌, ◌++◌}
use borrow.Author.Tests.{le-leb, lt-leb}
use native.Mathlib.Omega.{arith}
use lib.ListN.{length, drop}
use Rattle.hub.specs.Basics.{up_to32}
use Rattle.latch.specs.declared.moves.LatchCall.{LatchCall}
use Rattle.latch.specs.declared.opening.LatchRefusal.{LatchRefusal}
use Rattle.latch.specs.declared.record.Latch.{Latch}
use Rattle.latched.specs.Claims.{ReachedFits}
use Rattle.latch.specs.Opening.{Start, fresh, made, opening_if, opening, up_to200}
use Rattle.latched.proofs.Claims.{every-record-fits}
use Rattle.latchbatch.specs.Batch.{Lasting, answered, call_for, calls_in, frames_of}
use Rattle.latchrun.specs.declared.LatchRunError.{LatchRunError}
use Rattle.run.specs.Bytes.{well_formed}
use Rattle.latchrun.specs.Bytes.{calls_of, is_call}
use Rattle.latchrun.specs.Run.{LatchRan, written, run_if, run_of}
use Rattle.std.specs.Prelude.{Err, Ok}

-- All calls of the bytes are those that are answered.
all-calls : (l : List ℕ) → calls_in (length l / 2) l ≡ calls_of l
unfolding calls_in calls_of
all-calls [] = refl
all-calls (c ∷ []) = refl
all-calls (c ∷ p ∷ l) =
    ap (λ (n : ℕ). calls_in n (c ∷ p ∷ l)) (half (length l))
    ∙ ap (λ (cs : List LatchCall). call_for c p ∷ cs) (all-calls l)
  where
    half : (n : ℕ) → suc (suc n) / 2 ≡ suc (n / 2)
    half n = omega arith

-- The two tests of an opening passed, and the record that it made.
record Passed (c n : ℕ) (a b : Bool) (h : Latch) : Type 0 where
  parties : a ≡ true
  count : b ≡ true
  made : h ≡ fresh c n

module _ (c n : ℕ) (calls out : List ℕ) where
  abbrev Ends : LatchRan → List ℕ → Type 0
  Ends r l = (r ≡ (run_of c n calls out).ran) × (l ≡ (run_of c n calls out).out)

  pub refused : (why : LatchRefusal) → Err why ≡ made (opening c n) → Ends (Err (LatchRunError.NotOpened why)) out
  unfolding opening_if run_if
  refused why e = go (up_to32 n) (up_to200 c) _ _ e
    where
      go : (a b w m : Bool) → Err why ≡ made (opening_if a b c n)
          → (Err (LatchRunError.NotOpened why) ≡ (run_if a b w m c n calls out).ran)
          × (out ≡ (run_if a b w m c n calls out).out)
      go false b w m e = (cc, refl)
      go true false w m e = (cc, refl)
      go true true w m e = absurd cc

  module _ (h : Latch) (e : Ok h ≡ made (opening c n)) where
    passed : Passed c n (up_to32 n) (up_to200 c) h
    unfolding opening_if
    passed = go (up_to32 n) (up_to200 c) e
      where
        go : (a b : Bool) → Ok h ≡ made (opening_if a b c n) → Passed c n a b h
        go false b z = absurd cc
        go true false z = absurd cc
        go true true z = record { parties = refl; count = refl; made = cc }

    accepted : (opening c n).start ≡ Start.Opened
    unfolding opening_if
    accepted = rw (passed.parties, passed.count) refl

    same-latch : (opening c n).latch ≡ h
    unfolding opening_if
    same-latch = rw (passed.parties, passed.count) (sym passed.made)

    pub malformed : well_formed is_call calls ≡ false → Ends (Err LatchRunError.Malformed) out
    unfolding run_if
    malformed w = rw (passed.parties, passed.count, w) (refl, refl)

    pub no_room : well_formed is_call calls ≡ true → length out / 7 < length calls / 2 → Ends (Err LatchRunError.NoRoom) out
    unfolding run_if
    no_room w l = rw (passed.parties, passed.count, w, lt-leb _ _ l) (refl, refl)

    -- The record needs no check.
    pub lasting : Lasting h
    unfolding ReachedFits
    lasting = subst Lasting same-latch (every-record-fits c n accepted)

    pub done : (l : List ℕ) → well_formed is_call calls ≡ true → length calls / 2 ≤ length out / 7
        → l ≡ answered h (length calls / 2) calls out → Ends (Ok tt) l
    unfolding run_if
    done l w m f =
        rw (passed.parties, passed.count, w, le-leb _ _ m) (
          refl,
          f ∙ ap (λ (cs : List LatchCall). frames_of h cs ++ drop (7 * (length calls / 2)) out) (all-calls calls)
              ∙ ap (λ (h : Latch). written h calls out) passed.made,
        )
