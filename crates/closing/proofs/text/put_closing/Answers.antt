-- `put_closing` meets its contract: what it writes is made of the record's counts.
use borrow.Author.Rules.{rules}
use mathlib.Core.Path.{◌≡◌, ◌∙◌}
use Rattle.encoding.specs.Frame.{twos_complement}
use Rattle.closing.proofs.Laws.Closing.{shown}
use Rattle.closing.proofs.text.put_closing.Goals as goal

pub returns : goal.returns
returns c =
    let k = c in
    let counter : c.twos_complement.result ≡ twos_complement c.args.hub.control.figures.counter = search rules in
    c.put_line.ensures
    ∙ shown k.args.hub k.counts-c.result
    k.counts-c.ensures.value _ counter
