-- `radios_differ` meets its contract: the opening's array has all of its 32 bytes.
use Rattle.std.proofs.Common.{ℕ, rules, sym, ap, take, ◌∙◌}
use borrow.Author.Tests.{not-true, not-false}
use Rattle.hub.specs.Radios.{differ}
use Rattle.hub.proofs.Laws.Opening.{unnamed-differ, named-differ}
use Rattle.hub.proofs.Laws.Radios.{radios-of}
use Rattle.openhub.proofs.radios_differ.Goals as goal

pub returns-then-not-o : goal.returns-then-not-o
returns-then-not-o c = c.if-not-o.true ∙ sym (unnamed-differ _ (not-true _ c.if-not-o.true))

pub returns-else-not-o : goal.returns-else-not-o
returns-else-not-o c =
    let o = c.args.o in
    c.differ.ensures ∙ ap (λ (n : ℕ). differ (take n o.radios)) c.from.ensures
    ∙ sym (named-differ o (not-false _ c.if-not-o.false) ∙ ap differ (radios-of o (search rules)))
