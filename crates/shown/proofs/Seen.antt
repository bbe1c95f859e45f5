-- A line that shows a record at rest: its tests are those of the record.
use Prim.Native.Nat.{ℕ, suc, ◌-◌}
use mathlib.Core.Path.{◌≡◌, refl, sym, ap, ap₂, ◌∙◌}
use mathlib.Core.Bool.{Bool, true, false, not, ◌&&◌}
use mathlib.Core.List.{List, ◌∷◌, map}
use native.Mathlib.Omega.{arith}
use borrow.Author.Tests.{le-leb}
use lib.Dec.{leb, ltb}
use lib.ListN.{length, get_or, get_or-map}
use Rattle.hub.specs.declared.opening.Opening.{Opening}
use Rattle.hub.specs.declared.record.Hub.{Hub}
use Rattle.hub.specs.declared.record.Phase.{Phase}
use Rattle.hub.specs.Basics.{among, count}
use Rattle.hub.specs.Ledger.{phase_in}
use Rattle.hub.specs.Phases.{is_free, is_holding, is_one_of, is_waiting}
use Rattle.hub.specs.Table.{above_zero, below_zero}
use Rattle.operations.proofs.Rest.{AtRest}
use Rattle.operations.proofs.Waits.{permit-left}
use Rattle.screen.specs.declared.record.Line.{Line}
use Rattle.screen.specs.Fits.{holder_count}
use Rattle.screen.specs.Line.{holders, holders_from, holds_in, waiters, waits_in}
use Rattle.screen.specs.Moves.{has_permit, has_waiter, next_waiter}
use Rattle.screen.proofs.Reached.Sound.{Sound, waiting-is}
use Rattle.shown.specs.Parties.{waiters_from, waiters_of}
use Rattle.shown.proofs.Parties.{parties-bits, parties-count}
use Rattle.shown.proofs.Waiters.{among-waiters, is-first, nobody-waits}
use Rattle.shown.proofs.Rest.{phases, apart, between, calm, free-at-rest, next_at, nobody, next}

-- K, n, whether there are radios, and the kinds are those of an opening: what no move of a line changes.
pub record OpenedAs (o : Opening) (k n : ℕ) (b : Bool) (ks : List ℕ) : Type 0 where
  pub permits : k ≡ o.permits
  pub parties : n ≡ o.parties
  pub named : b ≡ o.named
  pub kinds : ks ≡ o.kinds

abbrev pub SameOpening : Opening → Line → Type 0
SameOpening o l = OpenedAs o l.permits l.parties l.named l.kinds

-- The line l shows the record h.
pub record Seen (h : Hub) (l : Line) : Type 0 where
  pub opened : SameOpening h.control.opening l
  pub holding : l.holding ≡ map is_holding (phases h)
  pub waiters : waiters l ≡ waiters_of h

module _ (h : Hub) (l : Line) (r : AtRest h) (g : Sound l) (s : Seen h l) where
  pub holds_same : (p : ℕ) → holds_in l p ≡ is_holding (phase_in (phases h) p)
  unfolding holds_in is_one_of
  holds_same p =
      ap (λ (b : List Bool). get_or b p false) s.holding ∙ get_or-map is_holding (phases h) p Phase.Free

  pub waits-same : (p : ℕ) → waits_in l p ≡ is_waiting (phase_in (phases h) p)
  unfolding waits_in waiters_of
  waits-same p =
      ap (λ (w : List ℕ). among w p) s.waiters
      ∙ among-waiters (phases h) (apart h r) h.control.figures.resumed h.control.figures.issued (between h r) p

  pub free-same : (p : ℕ) → not (holds_in l p) && not (waits_in l p) ≡ is_free (phase_in (phases h) p)
  free-same p =
      ap₂ (λ (a b : Bool). not a && not b) (holds_same p) (waits-same p)
      ∙ sym (free-at-rest _ (calm h r p))

  pub permit-same : has_permit l ≡ above_zero h.control.figures.counter
  unfolding has_permit holders
  permit-same =
      ap₂ ltb holder-count-same s.opened.permits ∙ sym (permit-left h r)
    where
      holder-count-same : holder_count l ≡ count is_holding (phases h)
      holder-count-same =
          ap (λ (b : List Bool). length (holders_from 0 b)) s.holding
          ∙ ap length (sym (parties-bits 0 is_holding (phases h))) ∙ parties-count is_holding (phases h)

  -- The first that waits is the one that a hand-over would meet.
  pub line_first : below_zero h.control.figures.counter ≡ true
      → waiters_of h
      ≡ next_at h ∷ waiters_from (suc h.control.figures.resumed) (h.control.figures.issued - suc h.control.figures.resumed) (phases h)
  unfolding waiters_of
  line_first e =
      is-first (phases h) (apart h r) (next_at h) h.control.figures.resumed (next h r e) h.control.figures.issued (between h r)

  pub next-same : below_zero h.control.figures.counter ≡ true → next_waiter l ≡ next_at h
  unfolding next_waiter
  next-same e = ap (λ (w : List ℕ). get_or w 0 0) (s.waiters ∙ line_first e)

  pub waiter-same : has_waiter l ≡ below_zero h.control.figures.counter
  unfolding has_waiter waiters_of
  waiter-same = ap (leb 1) (sym (waiting-is l g) ∙ ap length s.waiters) ∙ go (below_zero h.control.figures.counter) refl
    where
      go : (b : Bool) → below_zero h.control.figures.counter ≡ b → leb 1 (length (waiters_of h)) ≡ b
      go true e = le-leb 1 (length (waiters_of h)) (omega (arith, ap length (line_first e)))
      go false e =
          ap (λ (w : List ℕ). leb 1 (length w)) (nobody-waits (phases h) h.control.figures.issued (nobody h r e))
