-- The queue of a line that fits, when one joins or leaves.
use Prim.Native.Nat.{ℕ, suc, ◌+◌, ◌-◌, ◌≤◌, ◌<◌}
use mathlib.Core.Path.{◌≡◌}
use mathlib.Core.Bool.{true}
use mathlib.Core.List.{List, [], ◌∷◌, ◌++◌}
use native.Mathlib.Omega.{arith}
use lib.Dec.{eqb}
use lib.ListN.{length, get_or, set, take, drop, length-append, length-drop}
use lib.Seq.{length-take-le}
use Rattle.hub.specs.Basics.{all_pass}
use Rattle.hub.specs.Radios.{padded}
use Rattle.screen.specs.declared.record.Line.{Line}
use Rattle.screen.specs.Line.{waiters, with_waiters}
use Rattle.screen.proofs.Laws.Fit.{Fit, unused}
use Rattle.screen.proofs.Laws.Places.{Shifted, joined, left, taken-length}

-- The line with other bytes in its queue.
abbrev pub with_queue : List ℕ → ℕ → Line → Line
with_queue q n l =
    record {
      permits = l.permits;
      parties = l.parties;
      named = l.named;
      kinds = l.kinds;
      holding = l.holding;
      queue = q;
      waiting = n;
    }

pub same_queue : (l : Line) (w q : List ℕ) (n : ℕ) → q ≡ padded w → n ≡ length w → with_queue q n l ≡ with_waiters w l
same_queue l w q n e f = rw (e, f)

pub waiters-length : (l : Line) → Fit l → length l.queue ≡ 32 → length (waiters l) ≡ l.waiting
unfolding waiters
waiters-length l f size = taken-length l.queue l.waiting size f.short f.rest

module _ (l : Line) (size : length l.queue ≡ 32) (short : l.waiting ≤ 32)
    (zero : all_pass (λ b. eqb b 0) (drop l.waiting l.queue) ≡ true) where
  rest : (i : ℕ) → l.waiting ≤ i → get_or l.queue i 0 ≡ 0
  rest = unused l zero

  long : length (waiters l) ≡ l.waiting
  unfolding waiters
  long = taken-length l.queue l.waiting size short rest

  pub joins : (x : ℕ) → l.waiting < 32
      → with_queue (set l.queue l.waiting x) (l.waiting + 1) l ≡ with_waiters (waiters l ++ (x ∷ [])) l
  unfolding waiters
  joins x h =
      same_queue l _ _ _ (joined l.queue l.waiting size short rest x h)
      (omega (arith, long, length-append (waiters l) (x ∷ [])))

  pub leaves : (at : ℕ) (v : List ℕ) → Shifted l.queue l.waiting at v (l.waiting - 1)
      → with_queue (set v (l.waiting - 1) 0) (l.waiting - 1) l ≡ with_waiters (take at (waiters l) ++ drop (suc at) (waiters l)) l
  unfolding waiters
  leaves at v s =
      same_queue l _ _ _ (left l.queue l.waiting size short rest at v _ _ s (omega arith) (omega (arith, s.within)))
      (omega (
        arith,
        long,
        s.from,
        s.within,
        length-append (take at (waiters l)) (drop (suc at) (waiters l)),
        length-take-le at (waiters l) (omega (arith, long, s.from, s.within)),
        length-drop (suc at) (waiters l),
      ))
