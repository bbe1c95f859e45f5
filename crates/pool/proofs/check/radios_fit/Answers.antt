-- `radios_fit` meets its contract: a radio that is met too often is not missing, and one that is met too seldom is left.
use Prim.Native.Nat.{ℕ, ◌<◌}
use borrow.Author.Rules.{rules}
use mathlib.Core.Path.{◌≡◌, sym, ap, ap₂, subst, ◌∙◌}
use mathlib.Core.Bool.{Bool, true, ◌&&◌}
use mathlib.Core.List.{List}
use lib.ListN.{get_or, length, take}
use Rattle.std.specs.Prelude.{Option, Some}
use Rattle.hub.specs.declared.record.Hub.{Hub}
use Rattle.hub.specs.Basics.{implies}
use Rattle.hub.specs.Fits.{radios_fit}
use Rattle.hub.specs.Opening.{radios_differ}
use Rattle.hub.specs.Radios.{differ, radios_in, radios_of, rearranged}
use Rattle.hub.proofs.Laws.Opening.{named-differ}
use Rattle.hub.proofs.Laws.Radios.{radios-of}
use Rattle.pool.specs.declared.check.Missing.{Missing}
use Rattle.pool.specs.Missing.{Counted, left_by, met, missing_of, none_missing}
use Rattle.pool.proofs.Laws.Fits.{unnamed-fit}
use Rattle.pool.proofs.Laws.Missing.{by-table, bytes-all, bytes-take, left-some, says, says-left, says-nothing}
use Rattle.pool.proofs.Laws.Missing.{still-counted}
use Rattle.pool.proofs.check.radios_fit.Goals.{After-in_all}
use Rattle.pool.proofs.check.radios_fit.Goals as goal

-- What the table says of a record's radios.
module _ (h : Hub) (named : h.control.opening.named ≡ true) (d : radios_differ h.control.opening ≡ true)
    (size : length h.control.opening.radios ≡ 32) (x : (k : ℕ) → get_or h.control.opening.radios k 0 < 256)
    (y : (k : ℕ) → get_or h.control.pool.hands k 0 < 256) (z : (k : ℕ) → get_or h.control.pool.laid k 0 < 256)
    (w : (k : ℕ) → get_or h.control.pool.store k 0 < 256) where
  abbrev given : List ℕ
  given = take h.control.opening.permits h.control.opening.radios

  abbrev found : List ℕ
  found = radios_in h.slots h.places h.control.pool

  apart : differ given ≡ true
  apart =
      subst (λ (l : List ℕ). differ l ≡ true) (radios-of h.control.opening size)
      (sym (named-differ h.control.opening named) ∙ d)

  -- And what it leaves of them is still counted.
  said : (m : Missing) → m ≡ missing_of given → (o : Option Missing) → o ≡ met found m
      → (says o ≡ radios_fit h) × ((u : Missing) → o ≡ Some u → Counted u)
  unfolding radios_fit
  said m e o i =
      let same = radios-of h.control.opening size in
      let all = bytes-all h.slots h.places h.control.pool y z w in
      let each = bytes-take h.control.opening.permits h.control.opening.radios x in
      let reached : o ≡ met found (missing_of given) = i ∙ ap (met found) e in (
        by-table found given apart all each o reached
            ∙ ap (rearranged found) (sym same)
            ∙ sym (ap₂ (λ (a b : Bool). a && implies b (rearranged found (radios_of h.control.opening))) d named),
        λ u k. still-counted found given apart all each u (sym k ∙ reached),
      )

pub returns-then-not-opening : goal.returns-then-not-opening
returns-then-not-opening c = sym (unnamed-fit c.args.hub c.if-not-opening.true)

pub returns-then-not-radios_differ : goal.returns-then-not-radios_differ
unfolding radios_fit
returns-then-not-radios_differ c = rw (sym c.radios_differ.ensures ∙ c.if-not-radios_differ.true)

-- What all that were met, or the first that was not missing, say.
all : (c : After-in_all)
    → (says (left_by c.in_all.result c.in_all.new.self) ≡ radios_fit c.args.hub)
    × ((u : Missing) → left_by c.in_all.result c.in_all.new.self ≡ Some u → Counted u)
all c =
    said c.args.hub c.if-not-opening.false (sym c.radios_differ.ensures ∙ c.if-not-radios_differ.false) (search rules)
    (search (rules, c.well_formed.0.1.1.1.1)) (search (rules, c.well_formed.0.1.1.1.1)) (search (rules, c.well_formed.0.1.1.1.1))
    (search (rules, c.well_formed.0.1.1.1.1)) _ c.of-missing.ensures _ c.in_all.ensures

pub returns-then-is_some : goal.returns-then-is_some
returns-then-is_some c =
    let met_all = all c.before.before.before.before.before in
    let some = sym c.is_some.ensures ∙ c.if-is_some.true in
    c.is_empty.ensures.none (met_all.1 _ (left-some _ _ some)) ∙ sym (says-left none_missing _ _ some) ∙ met_all.0

pub returns-else-is_some : goal.returns-else-is_some
returns-else-is_some c =
    c.if-is_some.false
    ∙ sym (says-nothing none_missing _ _ (sym c.is_some.ensures ∙ c.if-is_some.false))
    ∙ (all c.before.before.before).0
