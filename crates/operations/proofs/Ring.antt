-- The tidying, on rings alone: where it has nothing to do, that it leaves nothing to do, and that a place which
-- is done after one tidying might as well have been done before.
use Prim.Native.Nat.{ℕ, zero, suc, ◌+◌, ◌%◌, ◌≤◌, ◌<◌}
use mathlib.Core.Path.{◌≡◌, refl, sym, ap, ◌∙◌}
use mathlib.Core.Bool.{Bool, true, false, cond, ◌&&◌}
use mathlib.Core.Logic.{◌≢◌}
use native.Mathlib.Decide.{ℕ_discrete}
use native.Mathlib.Omega.{arith}
use borrow.Author.Tests.{le-ltb, ltb-false, ltb-true}
use lib.Dec.{ltb}
use lib.ListN.{length}
use Rattle.hub.specs.declared.record.Place.{Place}
use Rattle.hub.specs.declared.record.PlaceSlot.{PlaceSlot}
use Rattle.hub.specs.Phases.{is_cancelled, is_done, is_place_of}
use Rattle.hub.specs.Record.{empty_seat, with_place}
use Rattle.hub.specs.Ring.{LoopsEnd, PLACES, Ring, can_retire, can_skip, read_place, read_seat, reclaimed}
use Rattle.hub.specs.Ring.{retire, retired, skip, skipped, write_seat}
use Rattle.hub.proofs.Laws.Bools.{first}
use Rattle.hub.proofs.Laws.Ring.{loops-end, retire-no, skip-no, skip-yes}
use Rattle.hub.proofs.Laws.Seats.{written_at_lem, written_both, written-elsewhere, written-other, written-size}

-- Nothing to do.
pub record Tidy (r : Ring) : Type 0 where
  pub size : length r.places ≡ PLACES
  pub unskipped : can_skip r ≡ false
  pub unretired : can_retire r ≡ false

pub tidy-same : (r : Ring) → Tidy r → reclaimed r ≡ r
tidy-same r e =
    ap (retire PLACES) (skip-no 255 r e.unskipped) ∙ retire-no 255 r e.unretired

-- The loops leave 256 places.
pub skip-size : (n : ℕ) (r : Ring) → length r.places ≡ PLACES → length (skip n r).places ≡ PLACES
unfolding skip
skip-size zero r s = s
skip-size (suc n) r s =
    go (can_skip r) (skip-size n (skipped r) (written-size r.places s r.resumed _))
  where
    go : (b : Bool) → length (skip n (skipped r)).places ≡ PLACES
        → length (cond b (skip n (skipped r)) r).places ≡ PLACES
    go true e = e
    go false e = s

pub retire-size : (n : ℕ) (r : Ring) → length r.places ≡ PLACES → length (retire n r).places ≡ PLACES
unfolding retire
retire-size zero r s = s
retire-size (suc n) r s =
    go (can_retire r) (retire-size n (retired r) (written-size r.places s r.oldest empty_seat))
  where
    go : (b : Bool) → length (retire n (retired r)).places ≡ PLACES
        → length (cond b (retire n (retired r)) r).places ≡ PLACES
    go true e = e
    go false e = s

-- A place that is retired becomes empty, which is nothing to skip, and it is the only one that comes within the 256.
module _ (r : Ring) (size : length r.places ≡ PLACES) (e : can_skip r ≡ false) where
  retired-unskipped : can_skip (retired r) ≡ false
  unfolding is_place_of
  retired-unskipped = go (ℕ_discrete (r.resumed % PLACES) (r.oldest % PLACES))
    where
      after : Bool
      after = ltb r.resumed (r.oldest + 1 + PLACES)

      none : (b : Bool) → b && false ≡ false
      none true = refl
      none false = refl

      further : (u o : ℕ) → o + PLACES ≤ u → u % PLACES ≢ o % PLACES → o + 1 + PLACES ≤ u
      further u o i z = omega arith

      same : (b d : Bool) → ltb r.resumed (r.oldest + PLACES) ≡ b
          → is_cancelled (read_place r.places r.resumed) ≡ d → b && d ≡ false
          → r.resumed % PLACES ≢ r.oldest % PLACES → after && d ≡ false
      same b false i j k z = none after
      same true true i j k z = let y : ◌≡◌ {A = ℕ} 0 1 = cc in let w : ⊥ = omega arith in absurd w
      same false true i j k z =
          ap (λ (b : Bool). b && true)
          (le-ltb r.resumed (r.oldest + 1 + PLACES) (further r.resumed r.oldest (ltb-false r.resumed (r.oldest + PLACES) i) z))

      go : Dec (r.resumed % PLACES ≡ r.oldest % PLACES) → can_skip (retired r) ≡ false
      go (yes z) =
          ap (λ (x : PlaceSlot). after && is_cancelled x.place)
          (written_at_lem r.places size r.oldest r.resumed empty_seat z)
          ∙ none after
      go (no z) =
          ap (λ (x : PlaceSlot). after && is_cancelled x.place)
          (written-elsewhere r.places size r.oldest r.resumed empty_seat z)
          ∙ same _ _ refl refl e z

retire-unskipped : (n : ℕ) (r : Ring) → length r.places ≡ PLACES → can_skip r ≡ false
    → can_skip (retire n r) ≡ false
unfolding retire
retire-unskipped zero r s e = e
retire-unskipped (suc n) r s e =
    go (can_retire r)
    (retire-unskipped n (retired r) (written-size r.places s r.oldest empty_seat)
    (retired-unskipped r s e))
  where
    go : (b : Bool) → can_skip (retire n (retired r)) ≡ false
        → can_skip (cond b (retire n (retired r)) r) ≡ false
    go true i = i
    go false i = e

pub reclaimed-tidy : (r : Ring) → length r.places ≡ PLACES → Tidy (reclaimed r)
unfolding LoopsEnd
reclaimed-tidy r s =
    let z = skip-size PLACES r s in
    record {
      size = retire-size PLACES (skip PLACES r) z;
      unskipped = retire-unskipped PLACES (skip PLACES r) z (loops-end r s).0;
      unretired = (loops-end (skip PLACES r) z).1;
    }

-- The place of ticket t done.
abbrev pub done_at : ℕ → Ring → Ring
done_at t r =
    record {
      resumed = r.resumed;
      oldest = r.oldest;
      places = write_seat r.places t (with_place Place.Done (read_seat r.places t));
    }

-- Ticket t has a place, and is drawn to resume: the first loop neither looks at its place nor alters it.
pub record Drawn (t : ℕ) (r : Ring) : Type 0 where
  pub size : length r.places ≡ PLACES
  pub above : r.oldest ≤ t
  pub below : t < r.resumed

module _ (t : ℕ) (r : Ring) (d : Drawn t r) where
  skip-alike : can_skip (done_at t r) ≡ can_skip r
  skip-alike = go (ltb r.resumed (r.oldest + PLACES)) refl
    where
      go : (b : Bool) → ltb r.resumed (r.oldest + PLACES) ≡ b
          → b && is_cancelled (read_place (done_at t r).places r.resumed)
          ≡ b && is_cancelled (read_place r.places r.resumed)
      go true e =
          let i = ltb-true _ _ e in
          ap (λ (x : PlaceSlot). is_cancelled x.place)
          (written-other r.places d.size t _ r.oldest r.resumed d.above
          (omega (arith, d.below)) (omega (arith, d.above, d.below)) i (omega (arith, d.below)))
      go false e = refl

  module _ (e : can_skip r ≡ true) where
    within : r.resumed < r.oldest + PLACES
    within = ltb-true _ _ (first (ltb r.resumed (r.oldest + PLACES)) _ e)

    apart : (o t u : ℕ) → o ≤ t → t < u → u < o + PLACES → t % PLACES ≢ u % PLACES
    apart o t u i j k = omega arith

    skipped-alike : skipped (done_at t r) ≡ done_at t (skipped r)
    skipped-alike = λ i.
        record {
          resumed = r.resumed + 1;
          oldest = r.oldest;
          places = written_both r.places t r.resumed
              (with_place Place.Done (read_seat r.places t))
              (with_place Place.Done (read_seat r.places r.resumed))
              (apart r.oldest t r.resumed d.above d.below within) i;
        }

    skipped-drawn : Drawn t (skipped r)
    skipped-drawn =
        record {
          size = written-size r.places d.size r.resumed _;
          above = d.above;
          below = omega (arith, d.below);
        }

    skipped-read : read_seat (skipped r).places t ≡ read_seat r.places t
    skipped-read =
        written-other r.places d.size r.resumed _ r.oldest t (omega (arith, d.above, d.below))
        within d.above (omega (arith, d.below, within)) (omega (arith, d.below))

skip-done : (n t : ℕ) (r : Ring) → Drawn t r → skip n (done_at t r) ≡ done_at t (skip n r)
skip-done zero t r d = unfold skip in refl
skip-done (suc n) t r d =
    go (can_skip r) refl (λ e. skip-done n t (skipped r) (skipped-drawn t r d e))
  where
    go : (b : Bool) → can_skip r ≡ b
        → (can_skip r ≡ true → skip n (done_at t (skipped r)) ≡ done_at t (skip n (skipped r)))
        → skip (suc n) (done_at t r) ≡ done_at t (skip (suc n) r)
    go true e f =
        skip-yes n (done_at t r) (skip-alike t r d ∙ e) ∙ ap (skip n) (skipped-alike t r d e) ∙ f e
        ∙ ap (done_at t) (sym (skip-yes n r e))
    go false e f =
        skip-no n (done_at t r) (skip-alike t r d ∙ e) ∙ ap (done_at t) (sym (skip-no n r e))

-- What it leaves.
record Passed (t : ℕ) (r s : Ring) : Type 0 where
  drawn : Drawn t s
  oldest : s.oldest ≡ r.oldest
  same : read_seat s.places t ≡ read_seat r.places t

skip-passed : (n t : ℕ) (r : Ring) → Drawn t r → Passed t r (skip n r)
unfolding skip
skip-passed zero t r d = record { drawn = d; oldest = refl; same = refl }
skip-passed (suc n) t r d =
    go (can_skip r) refl (λ e. skip-passed n t (skipped r) (skipped-drawn t r d e))
  where
    go : (b : Bool) → can_skip r ≡ b
        → (can_skip r ≡ true → Passed t (skipped r) (skip n (skipped r)))
        → Passed t r (cond b (skip n (skipped r)) r)
    go true e f =
        let p = f e in
        record {
          drawn = p.drawn;
          oldest = p.oldest;
          same = p.same ∙ skipped-read t r d e;
        }
    go false e f = record { drawn = d; oldest = refl; same = refl }

-- The place of the oldest ticket, drawn to resume and not done, ends the second loop at once. So it stays as it
-- is, and it is the same whether it is done before the tidying or after it.
module _ (t : ℕ) (r : Ring) (d : Drawn t r) (o : r.oldest ≡ t) (e : is_done (read_place r.places t) ≡ false) where
  passed : Passed t r (skip PLACES r)
  passed = skip-passed PLACES t r d

  only-skipped : reclaimed r ≡ skip PLACES r
  only-skipped =
      retire-no 255 (skip PLACES r)
      (ap (λ (u : ℕ). is_done (read_place (skip PLACES r).places u)) (passed.oldest ∙ o)
      ∙ ap (λ (x : PlaceSlot). is_done x.place) passed.same ∙ e)

  pub drawn-stays : read_seat (reclaimed r).places t ≡ read_seat r.places t
  drawn-stays = ap (λ (x : Ring). read_seat x.places t) only-skipped ∙ passed.same

  pub done-between : reclaimed (done_at t (reclaimed r)) ≡ reclaimed (done_at t r)
  unfolding LoopsEnd
  done-between =
      ap (λ (x : Ring). reclaimed (done_at t x)) only-skipped
      ∙ ap (retire PLACES)
      (skip-no 255 (done_at t (skip PLACES r))
      (skip-alike t (skip PLACES r) passed.drawn ∙ (loops-end r d.size).0)
      ∙ sym (skip-done PLACES t r d))
