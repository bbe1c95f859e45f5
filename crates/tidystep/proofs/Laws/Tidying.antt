-- The tidying's loops in one: while places can be skipped it skips, then it retires. What is left of both, from any
-- turn on, comes to the same.
use Prim.Native.Nat.{ℕ, zero, suc, ◌+◌, ◌-◌, ◌≤◌, ◌<◌}
use mathlib.Core.Path.{◌≡◌, refl, sym, ap, subst, ◌∙◌}
use mathlib.Core.Bool.{Bool, true, false, ◌&&◌}
use native.Mathlib.Omega.{arith}
use borrow.Author.Tests.{lt-ltb, ltb-true}
use lib.Dec.{ltb}
use Rattle.hub.specs.Ring.{Ring, read_seat, write_seat, can_skip, can_retire, skip, skipped, retire, retired}
use Rattle.hub.proofs.Laws.Bools.{first, second}
use Rattle.hub.proofs.Laws.Seats.{same-seat}
use Rattle.hub.proofs.Laws.Ring.{skip-yes, skip-no, retire-yes, retire-no}
use Rattle.transition.specs.Tidied.{reclaimed_by}
use Rattle.transition.proofs.Laws.Loops.{skip-none, retire-none}
use Rattle.tidystep.specs.declared.TidyStep.{TidyStep}
use Rattle.tidystep.specs.Step.{tidy_step}

-- Of n turns of each loop from r₀ so many are left at r.
pub record Partway (n : ℕ) (r₀ r : Ring) (skips retires : ℕ) : Type 0 where
  pub few : skips ≤ retires
  pub low : r.oldest + retires ≤ r₀.oldest + n
  pub same : retire retires (skip skips r) ≡ reclaimed_by n r₀

pub tidying : (n : ℕ) (r : Ring) → Partway n r r n n
tidying n r = record { few = omega arith; low = omega arith; same = refl }

one_less : (k : ℕ) → 0 < k → k ≡ suc (k - 1)
one_less k l = omega arith

module _ (r : Ring) where
  -- Can it be skipped, with so many turns left?
  abbrev can_skip_in : ℕ → Bool
  can_skip_in k = ltb 0 k && can_skip r

  skip-off : (k : ℕ) → can_skip_in k ≡ false → skip k r ≡ r
  skip-off zero e = skip-none r
  skip-off (suc k) e =
      skip-no k r (ap (λ (b : Bool). b && can_skip r) (sym (lt-ltb 0 (suc k) (omega arith))) ∙ e)

  retire-off : (k : ℕ) → can_retire r ≡ false → retire k r ≡ r
  retire-off zero e = retire-none r
  retire-off (suc k) e = retire-no k r e

-- The turn that is decided at a ring.
abbrev pub step_at : Ring → ℕ → ℕ → TidyStep
step_at r skips retires =
    tidy_step (read_seat r.places r.resumed) (read_seat r.places r.oldest)
    (record { resumed = r.resumed; oldest = r.oldest; skips = skips; retires = retires })

-- The ring that a turn leaves.
abbrev after_step : Ring → TidyStep → Ring
after_step r d =
    record { resumed = d.left.resumed; oldest = d.left.oldest; places = write_seat r.places d.ticket d.seat }

module _ (n : ℕ) (r₀ r : Ring) (skips retires : ℕ) (t : Partway n r₀ r skips retires) where
  skips-on : can_skip_in r skips ≡ true → Partway n r₀ (skipped r) (skips - 1) retires
  skips-on e =
      let some = ltb-true 0 skips (first (ltb 0 skips) (can_skip r) e) in
      record {
        few = omega (arith, t.few);
        low = t.low;
        same =
            ap (retire retires)
            (sym (ap (λ (k : ℕ). skip k r) (one_less skips some)
            ∙ skip-yes (skips - 1) r (second (ltb 0 skips) (can_skip r) e)))
            ∙ t.same;
      }

  module _ (e : can_skip_in r skips ≡ false) where
    all-skipped : retire retires r ≡ reclaimed_by n r₀
    all-skipped = ap (retire retires) (sym (skip-off r skips e)) ∙ t.same

    retires-on : 0 < retires → can_retire r ≡ true → Partway n r₀ (retired r) 0 (retires - 1)
    retires-on l f =
        record {
          few = omega arith;
          low = omega (arith, t.low);
          same =
              ap (retire (retires - 1)) (skip-none (retired r))
              ∙ sym (ap (λ (k : ℕ). retire k r) (one_less retires l) ∙ retire-yes (retires - 1) r f)
              ∙ all-skipped;
        }

    stops : can_retire r ≡ false → Partway n r₀ r 0 0
    stops f =
        record {
          few = omega arith;
          low = omega (arith, t.low);
          same = retire-none (skip 0 r) ∙ skip-none r ∙ sym (retire-off r retires f) ∙ all-skipped;
        }

  -- A turn leads on, and leaves less to do.
  abbrev Onward : TidyStep → Type 0
  Onward d = Partway n r₀ (after_step r d) d.left.skips d.left.retires × (d.left.skips + d.left.retires < skips + retires)

  is-onward : 0 < retires → Onward (step_at r skips retires)
  unfolding tidy_step
  is-onward l = go (can_skip_in r skips) refl (can_retire r) refl
    where
      go : (a : Bool) → can_skip_in r skips ≡ a → (b : Bool) → can_retire r ≡ b → Onward (step_at r skips retires)
      go true ea b eb =
          let some = ltb-true 0 skips (first (ltb 0 skips) (can_skip r) ea) in
          rw ea (skips-on ea, omega arith)
      go false ea true eb = rw (ea, eb) (retires-on ea l eb, omega arith)
      go false ea false eb = rw (ea, eb, same-seat r.places r.oldest) (stops ea eb, omega arith)

  pub steps_on : 0 < retires → (d : TidyStep) → d ≡ step_at r skips retires → Onward d
  steps_on l d e = subst Onward (sym e) (is-onward l)

  pub tidying-ends : retires ≤ 0 → r ≡ reclaimed_by n r₀
  tidying-ends l =
      sym (skip-none r)
      ∙ sym (retire-none (skip 0 r))
      ∙ (λ j. retire (none retires l j) (skip (none skips (omega (arith, t.few)) j) r))
      ∙ t.same
    where
      none : (k : ℕ) → k ≤ 0 → 0 ≡ k
      none k l = omega arith
