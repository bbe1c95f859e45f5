-- `stands_in` meets its contract: the book read four bytes at a time is its locks.
use Rattle.std.proofs.Common.{◌*◌, ◌/◌, length, rules, tests, arith, ◌≡◌, nat_eq}
use mathlib.Core.Path.{◌∙◌}
use Rattle.std.specs.Int.{w32, from_be_bytes}
use Rattle.std.proofs.lemmas.Iterator.{YieldsList-from_slice}
use Rattle.std.proofs.lemmas.Iterator.Search.{any_from_yields_List}
use Rattle.doorbook.proofs.Laws.Bytes.{stands-in_fours}
use Rattle.doorbytes.proofs.stands_in.Goals as goal

pub returns : goal.returns
returns c =
    let whole : length c.args.book.now ≡ 4 * (length c.args.book.now / 4) = omega arith in
    any_from_yields_List (λ four. nat_eq (from_be_bytes w32 four) c.args.lock) _ _ _ c.any.ensures.ran (YieldsList-from_slice _ cc)
    (λ x b q k. search (rules, tests))
    ∙ stands-in_fours c.args.lock _ c.args.book.now whole
