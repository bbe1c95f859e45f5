-- `member_fits` meets its contract: the hub's check of a ticket and of its place is the latch's.
use mathlib.Core.Path.{sym, ◌∙◌}
use Rattle.hub.specs.Phases.{ticket_of}
use Rattle.hub.specs.Ring.{read_place, read_seat}
use Rattle.latchfit.proofs.Laws.Clauses.{as-at-hub, slot-passes}
use Rattle.latchfit.proofs.member_fits.Goals as goal

pub returns-then-slot_fits : goal.returns-then-slot_fits
unfolding read_seat
returns-then-slot_fits c =
    let a = c.args in
    let x = a.slot.phase in
    let p = read_place a.places.now (ticket_of x) in
    let told = c.unwrap_or.ensures ∙ c.ticket.ensures.or_0 in
    slot-passes _ _ _ (sym c.slot_fits.ensures ∙ c.if-slot_fits.true)
    (rw (told, c.tickets_of.ensures) at c.party_fits.ensures ∙ as-at-hub a.figures a.oldest x p)
