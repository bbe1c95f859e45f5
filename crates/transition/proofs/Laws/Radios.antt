-- The radios of a record that fits: no more of them are stored than the store has room for. And a
-- refusal moves none.
use Prim.Native.Nat.{ℕ, ◌≤◌}
use mathlib.Core.Path.{◌≡◌, refl, sym, ap, ◌∙◌}
use mathlib.Core.Bool.{Bool, true, false, ◌&&◌}
use native.Mathlib.Omega.{arith}
use borrow.Author.Tests.{eqb-true}
use lib.Dec.{eqb}
use lib.ListN.{length, length-append, length-take}
use Rattle.hub.specs.declared.answers.Answer.{Answer}
use Rattle.hub.specs.declared.answers.Refusal.{Refusal}
use Rattle.hub.specs.declared.opening.Opening.{Opening}
use Rattle.hub.specs.declared.record.Hub.{Hub}
use Rattle.hub.specs.declared.record.Pool.{Pool}
use Rattle.hub.specs.Answers.{Printed, printed}
use Rattle.hub.specs.Basics.{all_from, implies}
use Rattle.hub.specs.Fits.{figures_fit, fits, kinds_fit, party_fits, place_fits, radios_fit, state_fits}
use Rattle.hub.specs.Opening.{radios_differ}
use Rattle.hub.specs.Radios.{STORE, moved, pool_after, radios_in, radios_of, rearranged, padded}
use Rattle.hub.specs.Record.{PARTIES}
use Rattle.hub.specs.Ring.{PLACES}
use Rattle.hub.proofs.Laws.Bools.{first, second}
use Rattle.hub.proofs.Laws.Printed.{few-refusals}
use Rattle.hub.proofs.Laws.Radios.{ring-length, unmoved}

-- On a hub with radios the code moves one by the answer; on another the pool stays.
module _ (named : Bool) (y : Printed) (p : ℕ) (q : Pool) where
  pub with-radios : (x : Pool) → named ≡ true → x ≡ moved y p q → x ≡ pool_after named y p q
  unfolding pool_after
  with-radios x n e = rw n e

  pub without-radios : named ≡ false → q ≡ pool_after named y p q
  unfolding pool_after
  without-radios n = rw n

-- No refusal moves a radio.
pub refused-pool : (named : Bool) (r : Refusal) (p : ℕ) (q : Pool)
    → pool_after named (printed (Answer.Refused r)) p q ≡ q
unfolding pool_after
refused-pool false r p q = refl
refused-pool true r p q = unmoved (printed (Answer.Refused r)) p q (few-refusals r)

few-radios : (o : Opening) → length (radios_of o) ≤ STORE
unfolding radios_of padded
few-radios o = simp length-take (omega arith)

stored-within : (h : Hub) → h.control.pool.stored ≤ length (radios_in h.slots h.places h.control.pool)
unfolding radios_in
stored-within h =
    simp length-append (omega (arith, ring-length h.control.pool.store h.control.pool.first h.control.pool.stored))

-- On a hub with radios whose record fits.
pub few-stored : (h : Hub) → fits h ≡ true → h.control.opening.named ≡ true → h.control.pool.stored ≤ STORE
unfolding fits state_fits radios_fit rearranged
few-stored h e n =
    let parties = all_from (party_fits h) 0 PARTIES in
    let places = all_from (place_fits h) h.control.oldest PLACES in
    let f = figures_fit h.control.opening h.control.figures h.control.oldest in
    let state = first (state_fits h) (kinds_fit h.control.opening) e in
    let r = second (radios_differ h.control.opening) _ (second (f && parties && places) (radios_fit h) state) in
    let same = rearranged (radios_in h.slots h.places h.control.pool) (radios_of h.control.opening) in
    let s : same ≡ true = sym (ap (λ (b : Bool). implies b same) n) ∙ r in
    let l = length (radios_in h.slots h.places h.control.pool) in
    let m = length (radios_of h.control.opening) in
    omega (
      arith,
      stored-within h,
      few-radios h.control.opening,
      eqb-true l m (first (eqb l m) _ s),
    )
