-- `call` meets its contract: refused by 1 or 4, or decided, stored, its radio moved, and tidied.
use borrow.Author.Rules.{rules}
use borrow.Author.Tests.{not-true, not-false, lt-ltb, le-ltb}
use mathlib.Core.Path.{◌≡◌, refl, sym, ap, ◌∙◌}
use mathlib.Core.Bool.{true, false}
use native.Mathlib.Omega.{arith}
use Prim.Native.Nat.{ℕ, ◌<◌, ◌%◌, ◌≤◌}
use lib.ListN.{length, get_or, set}
use Rattle.hub.specs.declared.moves.Op.{Op}
use Rattle.hub.specs.declared.record.Hub.{Hub}
use Rattle.hub.specs.declared.record.PartySlot.{PartySlot}
use Rattle.hub.specs.declared.record.Pool.{Pool}
use Rattle.hub.specs.Answers.{printed}
use Rattle.hub.specs.Calls.{called, is_full, ring_of, with_ring}
use Rattle.hub.specs.Fits.{fits}
use Rattle.hub.specs.Kinds.{kind_in}
use Rattle.hub.specs.Phases.{ticket_of}
use Rattle.hub.specs.Radios.{hand_of, moved}
use Rattle.hub.specs.Record.{empty_seat, read_slot, with_pool, write_slot}
use Rattle.hub.specs.Ring.{PLACES, read_seat}
use Rattle.hub.specs.Table.{decide}
use Rattle.hub.proofs.Laws.Printed.{with-printed}
use Rattle.hub.proofs.Laws.Lists.{mapped-size}
use Rattle.effects.specs.declared.effect.Effect.{Effect}
use Rattle.effects.specs.Effect.{effect_of}
use Rattle.transition.specs.Tidied.{tidied_by}
use Rattle.transition.proofs.Laws.Called.{asks, radios_after, unfit, no-such-party, Counted, counted}
use Rattle.transition.proofs.Laws.Called.{outcome-is}
use Rattle.transition.proofs.Laws.Indexed.{reads, stores}
use Rattle.transition.proofs.Laws.Loops.{tidy}
use Rattle.transition.proofs.Laws.Radios.{few-stored, with-radios, without-radios}
use Rattle.transition.proofs.Laws.Sight.{Reads, sight_of}
use Rattle.transition.proofs.Laws.Stored.{made, nobody, stored, few-turns}
use Rattle.anycall.proofs.call.Goals as goal
use Rattle.anycall.proofs.call.Goals.{After-own-1, then-woken-lt32, else-woken-lt32, then-hub, else-hub}

-- A party of a record that fits has a slot.
within-slots : (h : Hub) {p : ℕ} → fits h ≡ true → p < h.control.opening.parties → p < 32
within-slots h f i = omega (arith, i, (counted h f).parties)

-- What is known of record h and party p of it once any woken party's slot is set, which makes g: what the code has
-- read, of the place at index i and the waiter's number and slot, is what the party sees, and effect e is that of the
-- call.
record Known (h g : Hub) (o : Op) (p i q : ℕ) (w : PartySlot) (e : Effect) : Type 0 where
  fit : fits h ≡ true
  own : p < h.control.opening.parties
  index : i ≡ ticket_of (read_slot h.slots p).phase % PLACES
  reading : Reads h p (get_or h.places i empty_seat) q w
  effect_is : let s = sight_of h p (get_or h.places i empty_seat) w in
      e ≡ effect_of (decide o (is_full h.control.oldest h.control.figures.issued h.slots) s) s
  slots_set : g ≡ made h h.control.figures h.places (write_slot h.slots e.woken e.waiter)

module _ (h g : Hub) (o : Op) (p i q : ℕ) (w : PartySlot) (e : Effect) (k : Known h g o p i q w e) where
  turns-most : e.turns ≤ 256
  turns-most =
      let s = sight_of h p (get_or h.places i empty_seat) w in
      few-turns (decide o (is_full h.control.oldest h.control.figures.issued h.slots) s) s e k.effect_is

  -- The record after the stores.
  abbrev after : Hub
  after = made g e.figures (set g.places i e.seat) (write_slot g.slots p e.slot)

  is-stored : after ≡ stored h p e
  is-stored =
      ap (λ (g : Hub). made g e.figures (set g.places i e.seat) (write_slot g.slots p e.slot)) k.slots_set
      ∙ stores h p i k.index e _ refl

  -- The radio that the answer moves, on a hub with radios.
  abbrev Moves : Hub → Type 0
  Moves j = j ≡ with_pool (radios_after h p e.answer) after

  named : h.control.opening.named ≡ g.control.opening.named
  named = sym (ap (λ (g : Hub). g.control.opening.named) k.slots_set)

  moves : (x : Pool) → g.control.opening.named ≡ true → x ≡ moved (printed e.answer) p g.control.pool
      → Moves (with_pool x after)
  moves x n f =
      ap (λ (x : Pool). with_pool x after)
      (with-radios h.control.opening.named (printed e.answer) p h.control.pool x (named ∙ n)
      (f ∙ ap (λ (g : Hub). moved (printed e.answer) p g.control.pool) k.slots_set))

  stays : g.control.opening.named ≡ false → Moves after
  stays n =
      ap (λ (x : Pool). with_pool x after)
      (ap (λ (g : Hub). g.control.pool) k.slots_set
      ∙ without-radios h.control.opening.named (printed e.answer) p h.control.pool (named ∙ n))

  -- Tidied, it is what the call leaves.
  module _ (j : Hub) (m : Moves j) where
    leaves : (t : Hub) → t ≡ tidied_by e.turns j → record { answer = e.answer; hub = t } ≡ called h (asks o p)
    leaves t f =
        let x = radios_after h p e.answer in
        outcome-is _ _ _ _ _ k.reading o e k.effect_is k.fit (lt-ltb _ _ k.own) x refl t
        (f ∙ ap (tidied_by e.turns) (m ∙ ap (with_pool x) is-stored))

    oldest : j.control.oldest ≤ 1000000
    oldest =
        omega (
          arith,
          ap (λ (h : Hub). h.control.oldest) (m ∙ ap (with_pool _) is-stored),
          (counted h k.fit).oldest,
        )

known : (c : After-own-1)
    → Known c.args.hub c.if-woken-lt32.hub c.args.op c.args.party c.seat_index-t.result c.waiter_at-q.result
    c.slot_within-waiter.result c.decide-e.result
unfolding read_slot write_slot hand_of kind_in
known c =
    let h = c.args.hub in
    let e = c.decide-e.result in
    let size : length h.slots ≡ 32 = search mapped-size in
    record {
      fit = sym c.fits.ensures ∙ not-false _ c.if-not-fits.false-raw;
      own = c.if-hub-party.false;
      index = c.seat_index-t.ensures;
      reading =
          reads h c.args.party _ c.seat_index-t.ensures _ _ size c.waiter_at-q.ensures
          c.slot_within-waiter.ensures;
      effect_is = c.decide-e.ensures;
      slots_set =
          elim c.if-woken-lt32.branch [
            | then-woken-lt32 w ↦ w.hub-is
            | else-woken-lt32 w ↦
                w.hub-is
                ∙ ap (made h h.control.figures h.places)
                (nobody h.slots e.woken e.waiter (omega (arith, size, w.if-woken-lt32.false)))
          ];
    }

pub returns-then-not-fits : goal.returns-then-not-fits
returns-then-not-fits c =
    with-printed (unfit _ _ _ (sym c.fits.ensures ∙ not-true _ c.if-not-fits.true-raw))

pub returns-then-hub-party : goal.returns-then-hub-party
returns-then-hub-party c =
    with-printed (no-such-party _ _ _ (sym c.fits.ensures ∙ not-false _ c.if-not-fits.false-raw)
    (le-ltb _ _ c.if-hub-party.true))

pub bounds-hub-p : goal.bounds-hub-p
bounds-hub-p c =
    within-slots c.args.hub (sym c.fits.ensures ∙ not-false _ c.if-not-fits.false-raw) c.if-hub-party.false

pub bounds-hands-p : goal.bounds-hands-p
bounds-hands-p c =
    within-slots c.args.hub (sym c.fits.ensures ∙ not-false _ c.if-not-fits.false-raw) c.if-hub-party.false

pub bounds-kinds-p : goal.bounds-kinds-p
bounds-kinds-p c =
    within-slots c.args.hub (sym c.fits.ensures ∙ not-false _ c.if-not-fits.false-raw) c.if-hub-party.false

pub decide-e-requires : goal.decide-e-requires
decide-e-requires c =
    let n = counted c.args.hub (sym c.fits.ensures ∙ not-false _ c.if-not-fits.false-raw) in
    (record { counter = n.counter; issued = n.issued; resumed = n.resumed }, n.oldest)

pub bounds-hub-p-2 : goal.bounds-hub-p-2
bounds-hub-p-2 c =
    within-slots c.args.hub (sym c.fits.ensures ∙ not-false _ c.if-not-fits.false-raw) c.if-hub-party.false

pub move_radio-moved-requires : goal.move_radio-moved-requires
move_radio-moved-requires c =
    let k = known (goal.at.move_radio-moved-requires c).After-own-1 in
    omega (
      arith,
      ap (λ (g : Hub). g.control.pool.stored) k.slots_set,
      few-stored c.args.hub k.fit (sym (ap (λ (g : Hub). g.control.opening.named) k.slots_set) ∙ c.if-hub.true),
    )

pub returns-then-not-is_untidy : goal.returns-then-not-is_untidy
unfolding read_seat write_slot
returns-then-not-is_untidy c =
    let k = known (goal.at.returns-then-not-is_untidy c).After-own-1 in
    let j = c.if-hub.hub in
    with-printed (leaves _ _ _ _ _ _ _ _ k j
    (elim c.if-hub.branch [
      | then-hub w ↦ w.hub-is ∙ moves _ _ _ _ _ _ _ _ k _ w.if-hub.true w.move_radio-moved.ensures
      | else-hub w ↦ w.hub-is ∙ stays _ _ _ _ _ _ _ _ k w.if-hub.false
    ])
    _
    (ap (with_ring j)
    (tidy c.decide-e.result.turns (ring_of j) (sym c.is_untidy.ensures ∙ not-true _ c.if-not-is_untidy.true-raw))))

pub reclaim-tidied-requires : goal.reclaim-tidied-requires
unfolding write_slot
reclaim-tidied-requires c =
    let k = known (goal.at.reclaim-tidied-requires c).After-own-1 in (
      oldest _ _ _ _ _ _ _ _ k c.if-hub.hub
          (elim c.if-hub.branch [
            | then-hub w ↦ w.hub-is ∙ moves _ _ _ _ _ _ _ _ k _ w.if-hub.true w.move_radio-moved.ensures
            | else-hub w ↦ w.hub-is ∙ stays _ _ _ _ _ _ _ _ k w.if-hub.false
          ]),
      turns-most _ _ _ _ _ _ _ _ k,
    )

pub returns : goal.returns
unfolding write_slot
returns c =
    let k = known (goal.at.returns c).After-own-1 in
    with-printed (leaves _ _ _ _ _ _ _ _ k c.if-hub.hub
    (elim c.if-hub.branch [
      | then-hub w ↦ w.hub-is ∙ moves _ _ _ _ _ _ _ _ k _ w.if-hub.true w.move_radio-moved.ensures
      | else-hub w ↦ w.hub-is ∙ stays _ _ _ _ _ _ _ _ k w.if-hub.false
    ])
    _ (ap (with_ring c.if-hub.hub) c.reclaim-tidied.ensures))
