-- Every line that fits is reached: its holders ask, and then those that wait, in their order.
use Prim.Native.Nat.{ℕ, zero, suc, ◌≤◌, ◌<◌}
use mathlib.Core.Path.{◌≡◌, refl, sym, ap, subst, ◌∙◌}
use mathlib.Core.Bool.{Bool, true, false}
use mathlib.Core.List.{List, [], ◌∷◌, ◌++◌, append_assoc, map}
use native.Mathlib.Omega.{arith}
use lib.ListN.{length, get_or, set, take, drop, replicate, length-append, length-replicate, take-append-drop}
use lib.Seq.{get_or-append_seam, set-append_seam}
use Rattle.hub.specs.declared.answers.Answer.{Answer}
use Rattle.hub.specs.declared.opening.Opening.{Opening}
use Rattle.hub.specs.declared.record.Outcome.{Outcome}
use Rattle.hub.specs.Basics.{among, bit, weight}
use Rattle.hub.specs.Opening.{opening, radios_differ}
use Rattle.hub.specs.Radios.{STORE, differ, padded}
use Rattle.hub.proofs.Laws.Lists.{weight-append, weight-replicate}
use Rattle.hub.proofs.Laws.Opening.{by-kinds, kinds-pass, named-differ, unnamed-differ}
use Rattle.hub.proofs.Laws.Radios.{radios-of}
use Rattle.screen.specs.declared.record.Line.{Line}
use Rattle.screen.specs.declared.record.Operation.{Operation}
use Rattle.screen.specs.Line.{holders_from, opened_line, waiters}
use Rattle.screen.specs.Moves.{line_move}
use Rattle.screen.specs.Reached.{DeskRequest, LineReached, line_after}
use Rattle.screen.proofs.Laws.Answers.{acquires, own, queues}
use Rattle.screen.proofs.Laws.Fit.{Bounds, Waits, fits, waits-none}
use Rattle.screen.proofs.Laws.Lists.{among-back, among-front, among-here, differ-apart, differ-cons, differ-head}
use Rattle.screen.proofs.Laws.Lists.{differ-tail, never, not_so}
use Rattle.screen.proofs.Reached.Sound.{Good, Sound, good, good-fits, holder-count-is, line_of, same_line}
use Rattle.screen.proofs.Reached.Sound.{waiters-of}

-- Parties ask one after the other.
abbrev asks : List ℕ → List DeskRequest
asks ps = map (λ p. record { operation = Operation.Acquire; party = p }) ps

after-append : (l : Line) (a b : List DeskRequest) → line_after l (a ++ b) ≡ line_after (line_after l a) b
unfolding line_after
after-append l [] b = refl
after-append l (r ∷ a) b = after-append (line_move l r.operation r.party).line a b

after_one : (l : Line) (r : DeskRequest) (rs : List DeskRequest) (m : Line)
    → (line_move l r.operation r.party).line ≡ m
    → line_after l (r ∷ rs) ≡ line_after m rs
unfolding line_after
after_one l r rs m e = ap (λ (x : Line). line_after x rs) e

-- The front of lists that differ, and of those that wait.
differ-front : (l m : List ℕ) → differ (l ++ m) ≡ true → differ l ≡ true
unfolding differ
differ-front [] m e = refl
differ-front (x ∷ l) m e =
    differ-cons l x
    (not_so _ (λ i. never (sym (among-front l m x i) ∙ differ-head (l ++ m) x e)))
    (differ-front l m (differ-tail (l ++ m) x e))

waits_front : (hs : List Bool) (n : ℕ) (v w : List ℕ) → Waits hs n (v ++ w) → Waits hs n v
waits_front hs n v w s =
    record {
      distinct = differ-front v w s.distinct;
      below = λ x i. s.below x (among-front v w x i);
      apart = λ x i. s.apart x (among-front v w x i);
    }

-- One ask, on a line that fits.
module _ (l : Line) (hs : List Bool) (w : List ℕ) (p : ℕ) (g : Good l hs w) (h : p < l.parties)
    (e : get_or hs p false ≡ false) (a : among w p ≡ false) where
  sound : Sound (line_of l hs w)
  sound = good-fits l hs w g

  nowhere : among (waiters (line_of l hs w)) p ≡ false
  nowhere = ap (λ (v : List ℕ). among v p) (waiters-of l hs w g.short) ∙ a

  ask_holds : weight bit hs < l.permits
      → (line_move (line_of l hs w) Operation.Acquire p).line ≡ line_of l (set hs p true) w
  ask_holds k =
      ap (λ m. m.line)
      (own (line_of l hs w) p Operation.Acquire (fits _ sound.fit) h
      ∙ acquires (line_of l hs w) p e nowhere (omega (arith, holder-count-is (line_of l hs w))))

  ask-waits : l.permits ≤ weight bit hs
      → (line_move (line_of l hs w) Operation.Acquire p).line ≡ line_of l hs (w ++ (p ∷ []))
  ask-waits k =
      ap (λ m. m.line)
      (own (line_of l hs w) p Operation.Acquire (fits _ sound.fit) h
      ∙ queues (line_of l hs w) p e nowhere (omega (arith, holder-count-is (line_of l hs w))))
      ∙ ap (λ (v : List ℕ). line_of l hs (v ++ (p ∷ []))) (waiters-of l hs w g.short)

-- The holders ask.
module _ (l : Line) (hs : List Bool) (g : Good l hs []) where
  held-front : (front rest : List Bool) (n p : ℕ) → get_or (front ++ replicate n false) p false ≡ true
      → get_or (front ++ rest) p false ≡ true
  held-front [] rest n p e = absurd (never (sym e ∙ free n p))
    where
      free : (n p : ℕ) → get_or (replicate n false) p false ≡ false
      free zero p = refl
      free (suc n) zero = refl
      free (suc n) (suc p) = free n p
  held-front (b ∷ front) rest n zero e = e
  held-front (b ∷ front) rest n (suc p) e = held-front front rest n p e

  good-front : (front rest : List Bool) → front ++ rest ≡ hs
      → Good l (front ++ replicate (length rest) false) []
  good-front front rest e =
      record {
        bounds = g.bounds;
        size =
            length-append front (replicate (length rest) false)
            ∙ omega (arith, length-replicate (length rest) false, length-append front rest, ap length e, g.size);
        short = omega arith;
        below = λ p i. g.below p (ap (λ (x : List Bool). get_or x p false) (sym e) ∙ held-front front rest (length rest) p i);
        waits = waits-none _ _;
        few =
            omega (
              arith,
              weight-append bit front (replicate (length rest) false),
              weight-replicate bit false refl (length rest),
              weight-append bit front rest,
              ap (weight bit) e,
              g.few,
            );
        full = λ i. absurd (omega arith);
      }

  all_hold_lem : (front rest : List Bool) → front ++ rest ≡ hs
      → line_after (line_of l (front ++ replicate (length rest) false) []) (asks (holders_from (length front) rest))
      ≡ line_of l hs []
  unfolding holders_from line_after weight
  all_hold_lem front [] e = ap (λ (x : List Bool). line_of l x []) e
  all_hold_lem front (false ∷ rest) e =
      let n : length (front ++ (false ∷ [])) ≡ suc (length front) = omega (arith, length-append front (false ∷ [])) in
      ap (λ (x : List Bool). line_after (line_of l x []) (asks (holders_from (suc (length front)) rest)))
      (sym (append_assoc front (false ∷ []) (replicate (length rest) false)))
      ∙ ap
      (λ (k : ℕ).
      line_after (line_of l ((front ++ (false ∷ [])) ++ replicate (length rest) false) []) (asks (holders_from k rest)))
      (sym n)
      ∙ all_hold_lem (front ++ (false ∷ [])) rest (append_assoc front (false ∷ []) rest ∙ e)
  all_hold_lem front (true ∷ rest) e =
      let n : length (front ++ (true ∷ [])) ≡ suc (length front) = omega (arith, length-append front (true ∷ [])) in
      let f = good-front front (true ∷ rest) e in
      let b : length front < l.parties =
      g.below (length front)
      (ap (λ (x : List Bool). get_or x (length front) false) (sym e) ∙ get_or-append_seam front true rest false) in
      after_one _ _ (asks (holders_from (suc (length front)) rest)) _
      (ask_holds l _ [] (length front) f b
      (get_or-append_seam front false (replicate (length rest) false) false)
      refl
      (omega (
        arith,
        weight-append bit front (false ∷ replicate (length rest) false),
        weight-replicate bit false refl (length rest),
        weight-append bit front (true ∷ rest),
        ap (weight bit) e,
        g.few,
      ))
      ∙ ap (λ (x : List Bool). line_of l x [])
      (set-append_seam front false (replicate (length rest) false) true
      ∙ sym (append_assoc front (true ∷ []) (replicate (length rest) false))))
      ∙ ap
      (λ (k : ℕ).
      line_after (line_of l ((front ++ (true ∷ [])) ++ replicate (length rest) false) []) (asks (holders_from k rest)))
      (sym n)
      ∙ all_hold_lem (front ++ (true ∷ [])) rest (append_assoc front (true ∷ []) rest ∙ e)

-- Then those that wait.
module _ (l : Line) (hs : List Bool) (ws : List ℕ) (g : Good l hs ws) where
  good-waiting : (front rest : List ℕ) → front ++ rest ≡ ws → Good l hs front
  good-waiting front rest e =
      record {
        bounds = g.bounds;
        size = g.size;
        short = omega (arith, length-append front rest, ap length e, g.short);
        below = g.below;
        waits = waits_front hs l.parties front rest (subst (Waits hs l.parties) (sym e) g.waits);
        few = g.few;
        full = λ i. g.full (omega (arith, length-append front rest, ap length e));
      }

  all-wait : (front rest : List ℕ) → front ++ rest ≡ ws
      → line_after (line_of l hs front) (asks rest) ≡ line_of l hs ws
  unfolding line_after
  all-wait front [] e = ap (λ (x : List ℕ). line_of l hs x) (sym (nil front) ∙ e)
    where
      nil : (x : List ℕ) → x ++ [] ≡ x
      nil [] = refl
      nil (y ∷ x) = ap (λ (z : List ℕ). y ∷ z) (nil x)
  all-wait front (x ∷ rest) e =
      let s = subst (Waits hs l.parties) (sym e) g.waits in
      let i = among-back front (x ∷ rest) x (among-here rest x x refl) in
      let k = g.full (omega (arith, length-append front (x ∷ rest), ap length e)) in
      after_one _ _ (asks rest) _
      (ask-waits l hs front x (good-waiting front (x ∷ rest) e) (s.below x i) (s.apart x i)
      (differ-apart front (x ∷ rest) s.distinct x (among-here rest x x refl)) (omega (arith, k)))
      ∙ all-wait (front ++ (x ∷ [])) rest (append_assoc front (x ∷ []) rest ∙ e)

good-nobody : (l : Line) (hs : List Bool) (w : List ℕ) → Good l hs w → Good l hs []
good-nobody l hs w g =
    record {
      bounds = g.bounds;
      size = g.size;
      short = omega arith;
      below = g.below;
      waits = waits-none hs l.parties;
      few = g.few;
      full = λ i. absurd (omega arith);
    }

-- The opening. No line shows its radios: here they are 0, 1, 2 and so on.
count_from : ℕ → ℕ → List ℕ
count_from r zero = []
count_from r (suc n) = r ∷ count_from (suc r) n

module _ (l : Line) where
  abbrev opening_of : Opening
  opening_of =
      record {
        permits = l.permits;
        parties = l.parties;
        named = l.named;
        radios = count_from 0 STORE;
        kinds = l.kinds;
        counted = true;
      }

  opened-is : opened_line opening_of ≡ line_of l (replicate 32 false) []
  unfolding opened_line padded
  opened-is = refl

  radios-differ : (b : Bool) → l.named ≡ b → radios_differ opening_of ≡ true
  unfolding count_from differ
  radios-differ false e = unnamed-differ opening_of e
  radios-differ true e =
      let rs = count_from 0 STORE in
      named-differ opening_of e ∙ ap differ (radios-of opening_of refl)
      ∙ differ-front (take l.permits rs) (drop l.permits rs) (ap differ (take-append-drop l.permits rs))

  opening-accepted : Bounds l.permits l.parties l.kinds → (opening opening_of).answer ≡ Answer.Opened
  opening-accepted b =
      ap (λ (x : Outcome). x.answer)
      (by-kinds opening_of b.permits b.parties (radios-differ l.named refl)
      ∙ kinds-pass opening_of refl b.known b.desk)

pub sound-reached : (l : Line) → length l.kinds ≡ 32 → Sound l → LineReached l
unfolding count_from
sound-reached l k s =
    let g = good l s in
    let h = all_hold_lem l l.holding (good-nobody l _ _ g) [] l.holding refl in
    record {
      start = opening_of l;
      arrays = record { radios = refl; kinds = k };
      accepted = opening-accepted l s.fit.bounds;
      requests = asks (holders_from 0 l.holding) ++ asks (waiters l);
      leads =
          ap (λ (m : Line). line_after m (asks (holders_from 0 l.holding) ++ asks (waiters l)))
          (opened-is l ∙ ap (λ (n : ℕ). line_of l (replicate n false) []) (sym s.holding))
          ∙ after-append _ (asks (holders_from 0 l.holding)) (asks (waiters l))
          ∙ ap (λ (m : Line). line_after m (asks (waiters l))) h
          ∙ all-wait l l.holding (waiters l) g [] (waiters l) refl
          ∙ sym (same_line l s l.holding);
    }
