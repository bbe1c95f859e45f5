-- The tidying's loops with k turns at most: what is left of each, from any turn on, comes to the
-- same. With 256 turns they are the tidying, with none they leave the ring.
use Prim.Native.Nat.{ℕ, zero, suc, ◌+◌, ◌-◌, ◌≤◌, ◌<◌}
use mathlib.Core.Path.{◌≡◌, refl, sym, ap, subst, ◌∙◌}
use mathlib.Core.Bool.{Bool, true, false, true≢false, ◌&&◌, ◌||◌}
use native.Mathlib.Omega.{arith}
use borrow.Author.Tests.{ltb-true}
use lib.Dec.{ltb}
use Rattle.hub.specs.declared.record.Place.{Place}
use Rattle.hub.specs.declared.record.PlaceSlot.{PlaceSlot}
use Rattle.hub.specs.Phases.{is_cancelled, is_done}
use Rattle.hub.specs.Record.{empty_seat, with_place}
use Rattle.hub.specs.Ring.{PLACES, Ring, read_place, read_seat, write_seat, can_skip, skipped, skip}
use Rattle.hub.specs.Ring.{can_retire, retired, retire}
use Rattle.hub.proofs.Laws.Bools.{first}
use Rattle.transition.specs.Tidied.{reclaimed_by}
use Rattle.hub.proofs.Laws.Ring.{skip-yes, skip-no, retire-yes, retire-no}

pub reclaimed-none : (r : Ring) → reclaimed_by 0 r ≡ r
unfolding skip retire
reclaimed-none r = refl

-- A loop that goes on while a test holds, at most so many turns: what is common to both.
module _ (loop : ℕ → Ring → Ring) (test : Ring → Bool) (next : Ring → Ring)
    (none : (r : Ring) → loop 0 r ≡ r)
    (yes : (n : ℕ) (r : Ring) → test r ≡ true → loop (suc n) r ≡ loop n (next r))
    (no : (n : ℕ) (r : Ring) → test r ≡ false → loop (suc n) r ≡ r) where
  -- After n of k turns from r₀ the ring is r.
  pub record Turning (k : ℕ) (r₀ r : Ring) (n : ℕ) : Type 0 where
    pub few : n ≤ k
    pub same : loop (k - n) r ≡ loop k r₀

  begun : (k : ℕ) (r : Ring) → Turning k r r 0
  begun k r = record { few = omega arith; same = ap (λ (j : ℕ). loop j r) (whole k) }
    where
      whole : (k : ℕ) → k - 0 ≡ k
      whole k = omega arith

  off : (r : Ring) (n : ℕ) → test r ≡ false → r ≡ loop n r
  off r zero e = sym (none r)
  off r (suc n) e = sym (no n r e)

  module _ (k : ℕ) (r₀ r : Ring) (n : ℕ) (s : Turning k r₀ r n) where
    on : n < k → test r ≡ true → Turning k r₀ (next r) (n + 1)
    on l e =
        record {
          few = omega arith;
          same =
              sym (yes (k - (n + 1)) r e) ∙ ap (λ (j : ℕ). loop j r) (one_less k n l) ∙ s.same;
        }
      where
        one_less : (k n : ℕ) → n < k → suc (k - (n + 1)) ≡ k - n
        one_less k n l = omega arith

    stop : test r ≡ false → r ≡ loop k r₀
    stop e = off r (k - n) e ∙ s.same

    end : k ≤ n → r ≡ loop k r₀
    end l = sym (none r) ∙ ap (λ (j : ℕ). loop j r) (sym (done l)) ∙ s.same
      where
        done : k ≤ n → k - n ≡ 0
        done l = omega arith

pub skip-none : (r : Ring) → skip 0 r ≡ r
unfolding skip
skip-none r = refl

pub retire-none : (r : Ring) → retire 0 r ≡ r
unfolding retire
retire-none r = refl

-- The first loop. It leaves the oldest ticket.
pub record Skipping (k : ℕ) (r₀ r : Ring) (n : ℕ) : Type 0 where
  pub low : r.oldest ≡ r₀.oldest
  pub turns : Turning skip can_skip skipped skip-none skip-yes skip-no k r₀ r n

pub skipping : (k : ℕ) (r : Ring) → Skipping k r r 0
skipping k r =
    record { low = refl; turns = begun skip can_skip skipped skip-none skip-yes skip-no k r }

module _ (k : ℕ) (r₀ r : Ring) (n : ℕ) (s : Skipping k r₀ r n) where
  -- The code's test is the definition's.
  pub can-skip : (o : ℕ) (b : Bool) → o ≡ r₀.oldest + PLACES
      → b ≡ (ltb r.resumed o && is_cancelled (read_place r.places r.resumed))
      → can_skip r ≡ b
  can-skip o b l e =
      sym (e
      ∙ ap (λ (o : ℕ). ltb r.resumed o && is_cancelled (read_place r.places r.resumed))
      (l ∙ ap (λ (o : ℕ). o + PLACES) (sym s.low)))

  pub in_window : can_skip r ≡ true → r.resumed < r₀.oldest + PLACES
  in_window e =
      let l = first (ltb r.resumed (r.oldest + PLACES)) _ e in
      omega (arith, s.low, ltb-true r.resumed (r.oldest + PLACES) l)

  -- A turn, in which x is written.
  pub skipping-on : (x : PlaceSlot) → x ≡ with_place Place.Done (read_seat r.places r.resumed)
      → n < k → can_skip r ≡ true
      → Skipping k r₀
      (record {
        resumed = r.resumed + 1;
        oldest = r.oldest;
        places = write_seat r.places r.resumed x;
      }) (n + 1)
  skipping-on x d l e =
      subst
      (λ (y : PlaceSlot).
      Skipping k r₀
      (record {
        resumed = r.resumed + 1;
        oldest = r.oldest;
        places = write_seat r.places r.resumed y;
      }) (n + 1))
      (sym d)
      (record {
        low = s.low;
        turns = on skip can_skip skipped skip-none skip-yes skip-no k r₀ r n s.turns l e;
      })

  pub skipping-stop : can_skip r ≡ false → r ≡ skip k r₀
  skipping-stop = stop skip can_skip skipped skip-none skip-yes skip-no k r₀ r n s.turns

  pub skipping-end : k ≤ n → r ≡ skip k r₀
  skipping-end = end skip can_skip skipped skip-none skip-yes skip-no k r₀ r n s.turns

-- The second loop. It lifts the oldest ticket by one each turn.
pub record Retiring (k : ℕ) (r₀ r : Ring) (n : ℕ) : Type 0 where
  pub low : r.oldest ≡ r₀.oldest + n
  pub turns : Turning retire can_retire retired retire-none retire-yes retire-no k r₀ r n

pub retiring : (k : ℕ) (r : Ring) → Retiring k r r 0
retiring k r =
    record {
      low = omega arith;
      turns = begun retire can_retire retired retire-none retire-yes retire-no k r;
    }

module _ (k : ℕ) (r₀ r : Ring) (n : ℕ) (s : Retiring k r₀ r n) where
  pub retiring-on : (x : PlaceSlot) → x ≡ empty_seat → n < k → can_retire r ≡ true
      → Retiring k r₀
      (record {
        resumed = r.resumed;
        oldest = r.oldest + 1;
        places = write_seat r.places r.oldest x;
      }) (n + 1)
  retiring-on x d l e =
      subst
      (λ (y : PlaceSlot).
      Retiring k r₀
      (record {
        resumed = r.resumed;
        oldest = r.oldest + 1;
        places = write_seat r.places r.oldest y;
      }) (n + 1))
      (sym d)
      (record {
        low = omega (arith, s.low);
        turns =
            on retire can_retire retired retire-none retire-yes retire-no k r₀ r n s.turns l e;
      })

  pub retiring-stop : can_retire r ≡ false → r ≡ retire k r₀
  retiring-stop = stop retire can_retire retired retire-none retire-yes retire-no k r₀ r n s.turns

  pub retiring-end : k ≤ n → r ≡ retire k r₀
  retiring-end = end retire can_retire retired retire-none retire-yes retire-no k r₀ r n s.turns

-- Where neither loop has anything to do.
pub tidy : (k : ℕ) (r : Ring)
    → is_cancelled (read_place r.places r.resumed) || is_done (read_place r.places r.oldest)
    ≡ false
    → r ≡ reclaimed_by k r
tidy k r = go _ refl _ refl
  where
    other : is_cancelled (read_place r.places r.resumed) ≡ false → can_skip r ≡ false
    other e = within (ltb r.resumed (r.oldest + PLACES))
      where
        within : (b : Bool) → b && is_cancelled (read_place r.places r.resumed) ≡ false
        within true = e
        within false = refl

    go : (a : Bool) → is_cancelled (read_place r.places r.resumed) ≡ a
        → (b : Bool) → can_retire r ≡ b → a || b ≡ false → r ≡ reclaimed_by k r
    go false e false f z =
        off retire can_retire retired retire-none retire-yes retire-no r k f
        ∙ ap (retire k) (off skip can_skip skipped skip-none skip-yes skip-no r k (other e))
    go false e true f z = absurd (true≢false z)
    go true e b f z = absurd (true≢false z)
