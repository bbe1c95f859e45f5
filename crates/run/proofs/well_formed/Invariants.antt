-- `well_formed` meets its contract: what is left of the pairs, from any turn on, says the same.
use Rattle.std.proofs.Common.{◌≡◌, ℕ, ◌%◌, Bool, length}
use Rattle.run.specs.Bytes.{well_formed}
use Rattle.run.proofs.well_formed.Given as goal

abbrev pub invariant-loop-pair : goal.invariant-loop-pair
invariant-loop-pair g l =
    (l.pair-iterator.size ≡ 2)
    × ((test : ℕ → Bool) → ((c : ℕ) (b : Bool) → g.F.Fn.post l.is_code (c, tt) b → b ≡ test c)
    → well_formed test l.pair-iterator.rest.now ≡ well_formed test l.pairs)
    × (length l.pair-iterator.rest.now % 2 ≡ length l.pairs % 2)
