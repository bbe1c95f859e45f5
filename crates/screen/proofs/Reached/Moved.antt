-- Every line that is reached fits.
use Prim.Native.Nat.{ℕ, zero, suc, ◌≤◌, ◌<◌}
use mathlib.Core.Path.{◌≡◌, refl, sym, subst, ◌∙◌}
use mathlib.Core.Bool.{Bool, true, false}
use mathlib.Core.List.{List, [], ◌∷◌}
use native.Mathlib.Decide.{ℕ_discrete, dec_le}
use native.Mathlib.Omega.{arith}
use lib.ListN.{length, get_or, set, drop, replicate, length-replicate}
use Rattle.hub.specs.declared.answers.Answer.{Answer}
use Rattle.hub.specs.declared.opening.Opening.{Opening}
use Rattle.hub.specs.Basics.{among, bit}
use Rattle.hub.specs.Kinds.{kind_in}
use Rattle.hub.specs.Opening.{opening, tests}
use Rattle.hub.specs.Radios.{padded}
use Rattle.hub.proofs.Laws.Lists.{weight-replicate}
use Rattle.hub.proofs.Laws.Opening.{by-opened, each-passed, ends}
use Rattle.screen.specs.declared.record.Line.{Line}
use Rattle.screen.specs.declared.record.Moved.{Moved}
use Rattle.screen.specs.declared.record.Operation.{Operation}
use Rattle.screen.specs.Fits.{holder_count}
use Rattle.screen.specs.Line.{opened_line, waiters}
use Rattle.screen.specs.Moves.{line_move, next_waiter, own_move}
use Rattle.screen.specs.Reached.{DeskRequest, LineReached, line_after}
use Rattle.screen.proofs.Laws.Answers.{acquires, cancels, hands-over, has_room_lem, holds-already, holds_not}
use Rattle.screen.proofs.Laws.Answers.{may-not, no-party, own, party-small, queues, returns, waits-already, waits-not}
use Rattle.screen.proofs.Laws.Fit.{Bounds, fits, waits-none}
use Rattle.screen.proofs.Laws.Lists.{never}
use Rattle.screen.proofs.Reached.Sound.{Good, Sound, good, good-fits, good-handed, good-holder, good-queued}
use Rattle.screen.proofs.Reached.Sound.{good-returned, good-without, holder-count-is, line_of, same_line}
use Rattle.screen.proofs.Reached.Sound.{waiting-is}

-- An opened line.
free-at : (n p : ℕ) → get_or (replicate n false) p false ≡ false
free-at zero p = refl
free-at (suc n) zero = refl
free-at (suc n) (suc p) = free-at n p

opened-good : (l : Line) → Bounds l.permits l.parties l.kinds → Good l (replicate 32 false) []
opened-good l b =
    record {
      bounds = b;
      size = length-replicate 32 false;
      short = omega arith;
      below = λ p e. absurd (never (sym e ∙ free-at 32 p));
      waits = waits-none (replicate 32 false) l.parties;
      few = omega (arith, weight-replicate bit false refl 32);
      full = λ h. absurd (omega arith);
    }

by : {m d : Moved} → m ≡ d → Sound d.line → Sound m.line
by e s = subst (λ (m : Moved). Sound m.line) (sym e) s

module _ (l : Line) (p : ℕ) (s : Sound l) (h : p < l.parties) where
  i : p < length l.holding
  i = omega (arith, party-small l p s.fit h, s.holding)

  ask-sound : Sound (own_move l Operation.Acquire p).line
  ask-sound =
      go (get_or l.holding p false) refl (among (waiters l) p) refl (dec_le (suc (holder_count l)) l.permits)
    where
      go : (b : Bool) → get_or l.holding p false ≡ b → (c : Bool) → among (waiters l) p ≡ c
          → Dec (holder_count l < l.permits) → Sound (own_move l Operation.Acquire p).line
      go true e c a d = by (holds-already l p e) s
      go false e true a d = by (waits-already l p e a) s
      go false e false a (yes d) =
          by (acquires l p e a d)
          (subst Sound (sym (same_line l s (set l.holding p true)))
          (good-fits l _ _
          (good-holder l l.holding (waiters l) p (good l s) i h e a (omega (arith, holder-count-is l)))))
      go false e false a (no d) =
          let r = has_room_lem l p s.fit s.queue s.holding h e a (omega arith) in
          by (queues l p e a (omega arith))
          (good-fits l l.holding _
          (good-queued l l.holding (waiters l) p (good l s) i h e a
          (omega (arith, holder-count-is l, s.fit.few)) (omega (arith, waiting-is l s))))

  cancel-sound : Sound (own_move l Operation.Cancel p).line
  cancel-sound = go (among (waiters l) p) refl (ℕ_discrete (kind_in l.kinds p) 3)
    where
      go : (c : Bool) → among (waiters l) p ≡ c → Dec (kind_in l.kinds p ≡ 3) → Sound (own_move l Operation.Cancel p).line
      go false a d = by (waits-not l p a) s
      go true a (yes d) = by (may-not l p a d) s
      go true a (no d) =
          by (cancels l p a d) (good-fits l l.holding _ (good-without l l.holding (waiters l) p (good l s) i))

  handed-sound : (w : List ℕ) → Good l l.holding w → get_or l.holding p false ≡ true → 1 ≤ length w
      → Sound (line_of l (set (set l.holding p false) (get_or w 0 0) true) (drop 1 w))
  handed-sound [] g e k = absurd (omega arith)
  handed-sound (q ∷ w) g e k = good-fits l _ w (good-handed l l.holding w p q g i e)

  release-sound : Sound (own_move l Operation.Release p).line
  unfolding next_waiter
  release-sound = go (get_or l.holding p false) refl (dec_le 1 l.waiting)
    where
      go : (b : Bool) → get_or l.holding p false ≡ b → Dec (1 ≤ l.waiting)
          → Sound (own_move l Operation.Release p).line
      go false e d = by (holds_not l p e) s
      go true e (no d) =
          by (returns l p e (omega arith))
          (subst Sound (sym (same_line l s (set l.holding p false)))
          (good-fits l _ _
          (good-returned l l.holding (waiters l) p (good l s) i e (omega (arith, waiting-is l s)))))
      go true e (yes d) =
          by (hands-over l p e d) (handed-sound (waiters l) (good l s) e (omega (arith, waiting-is l s)))

  own-sound : (o : Operation) → Sound (own_move l o p).line
  own-sound Operation.Acquire = ask-sound
  own-sound Operation.Cancel = cancel-sound
  own-sound Operation.Release = release-sound

pub move-sound : (l : Line) (o : Operation) (p : ℕ) → Sound l → Sound (line_move l o p).line
move-sound l o p s = go (dec_le (suc p) l.parties)
  where
    go : Dec (p < l.parties) → Sound (line_move l o p).line
    go (yes h) = by (own l p o (fits l s.fit) h) (own-sound l p s h o)
    go (no h) = by (no-party l p o (fits l s.fit) (omega arith)) s

pub after-sound : (l : Line) (rs : List DeskRequest) → Sound l → Sound (line_after l rs)
unfolding line_after
after-sound l [] s = s
after-sound l (r ∷ rs) s = after-sound (line_move l r.operation r.party).line rs (move-sound l r.operation r.party s)

pub opened-sound : (o : Opening) → (opening o).answer ≡ Answer.Opened → Sound (opened_line o)
unfolding opened_line padded
opened-sound o e =
    let each = each-passed o (by-opened o _ _ (ends o (tests o)) e).0 in
    good-fits (opened_line o) (replicate 32 false) []
    (opened-good (opened_line o)
    (record { permits = each 0; parties = each 1; known = each 4; desk = each 5 }))

pub reached-sound : (l : Line) → LineReached l → Sound l
reached-sound l r =
    subst Sound r.leads
    (after-sound _ r.requests (opened-sound r.start r.accepted))
