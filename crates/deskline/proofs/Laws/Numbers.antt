-- The characters of numbers.
use Prim.Native.Nat.{ℕ, ◌+◌, ◌*◌, ◌/◌, ◌≤◌, ◌<◌}
use mathlib.Core.Path.{◌≡◌, refl, sym, ap, ◌∙◌}
use mathlib.Core.Bool.{Bool, true, false, cond}
use mathlib.Core.List.{List, [], ◌∷◌, ◌++◌, append_assoc, append-nil}
use native.Mathlib.Numerals.{add-one}
use native.Mathlib.Omega.{arith}
use borrow.Author.Tests.{le-ltb, lt-ltb}
use lib.Dec.{ltb}
use lib.ListN.{length, get_or, drop, drop_of_length-le, length-append, length-take}
use lib.Seq.{drop-cons}
use Rattle.std.proofs.Common.{Option, Some, None}
use Rattle.screen.specs.declared.record.Line.{Line}
use Rattle.screen.specs.Line.{holders_from, waiters}
use Rattle.deskline.specs.Text.{HELD, SPACE, WAITING, decimal, decimal_char, numbers, put_at, steps_text}
use Rattle.deskline.proofs.Laws.PutAt.{Written, gives, next, none, put-at-length, text-is}

pub one-digit : (n : ℕ) → n < 10 → decimal n ≡ decimal_char n ∷ []
unfolding decimal
one-digit n h = rw (lt-ltb n 10 h)

pub two_digits_lem : (n : ℕ) → 10 ≤ n → n < 100 → decimal n ≡ decimal_char (n / 10) ∷ decimal_char n ∷ []
unfolding decimal
two_digits_lem n h k = rw (le-ltb n 10 h, lt-ltb n 100 k)

pub three-digits : (n : ℕ) → 10 ≤ n → 100 ≤ n
    → decimal n ≡ decimal_char (n / 100) ∷ decimal_char (n / 10) ∷ decimal_char n ∷ []
unfolding decimal
three-digits n h k = rw (le-ltb n 10 h, le-ltb n 100 k)

pub decimal-short : (n : ℕ) → length (decimal n) ≤ 3
unfolding decimal
decimal-short n = go (ltb n 10) (ltb n 100)
  where
    go : (a b : Bool)
        → length (cond a (decimal_char n ∷ [])
        (cond b (decimal_char (n / 10) ∷ decimal_char n ∷ [])
        (decimal_char (n / 100) ∷ decimal_char (n / 10) ∷ decimal_char n ∷ [])))
        ≤ 3
    go true b = omega arith
    go false true = omega arith
    go false false = omega arith

-- Parties in a row.
pub numbers-append : (a b : List ℕ) → numbers (a ++ b) ≡ numbers a ++ numbers b
unfolding numbers
numbers-append [] b = refl
numbers-append (p ∷ a) b =
    ap (λ (l : List ℕ). SPACE ∷ (decimal p ++ l)) (numbers-append a b)
    ∙ ap (λ (l : List ℕ). SPACE ∷ l) (sym (append_assoc (decimal p) (numbers a) (numbers b)))

pub numbers-one : (p : ℕ) → SPACE ∷ decimal p ≡ numbers (p ∷ [])
unfolding numbers
numbers-one p = ap (λ (l : List ℕ). SPACE ∷ l) (sym (append-nil (decimal p)))

pub numbers-none : numbers [] ≡ []
unfolding numbers
numbers-none = refl

pub number_short : (p : ℕ) → length (numbers (p ∷ [])) ≤ 4
number_short p = omega (arith, ap length (numbers-one p), decimal-short p)

-- Of all the parties, those but the rest are written; they are at most i.
pub record Listed (at : ℕ) (out₀ all rest : List ℕ) (i end : ℕ) (out : List ℕ) : Type 0 where
  pub text : List ℕ
  pub done : Written at text out₀ end out
  pub sum : text ++ numbers rest ≡ numbers all
  pub few : length text ≤ 4 * i
  pub within : i ≤ 32
  pub room : at + 128 ≤ length out₀
  pub long : length out ≡ length out₀

pub listed-none : (at : ℕ) (out all : List ℕ) → at + 128 ≤ length out → Listed at out all all 0 at out
listed-none at out all h =
    record {
      text = [];
      done = none at out (omega arith);
      sum = refl;
      few = omega arith;
      within = omega arith;
      room = h;
      long = refl;
    }

module _ {at : ℕ} {out₀ all rest : List ℕ} {i end : ℕ} {out : List ℕ} (l : Listed at out₀ all rest i end out) where
  -- There is room for one more.
  pub number-room : i < 32 → end + 4 ≤ length out
  number-room h = omega (arith, l.done.past, l.few, l.room, l.long)

  pub listed-skip : {rest' : List ℕ} {end' : ℕ} {out' : List ℕ} → i < 32 → rest ≡ rest' → end' ≡ end → out' ≡ out
      → Listed at out₀ all rest' (i + 1) end' out'
  listed-skip h e f g =
      record {
        text = l.text;
        done = record { past = f ∙ l.done.past; same = g ∙ l.done.same; room = l.done.room };
        sum = ap (λ (r : List ℕ). l.text ++ numbers r) (sym e) ∙ l.sum;
        few = omega (arith, l.few);
        within = omega arith;
        room = l.room;
        long = ap length g ∙ l.long;
      }

  pub listed-one : {rest' : List ℕ} {x end' : ℕ} {out' : List ℕ} → i < 32 → rest ≡ x ∷ rest'
      → end' ≡ end + length (numbers (x ∷ [])) → out' ≡ put_at end (numbers (x ∷ [])) out
      → Listed at out₀ all rest' (i + 1) end' out'
  listed-one {rest'} {x} h e f g =
      record {
        text = l.text ++ numbers (x ∷ []);
        done =
            next l.done (numbers (x ∷ [])) f g
            (omega (arith, l.done.past, l.few, l.room, number_short x));
        sum =
            append_assoc l.text (numbers (x ∷ [])) (numbers rest')
            ∙ ap (λ (r : List ℕ). l.text ++ r) (sym (numbers-append (x ∷ []) rest'))
            ∙ ap (λ (r : List ℕ). l.text ++ numbers r) (sym e)
            ∙ l.sum;
        few = omega (arith, l.few, length-append l.text (numbers (x ∷ [])), number_short x);
        within = omega arith;
        room = l.room;
        long =
            ap length g
            ∙ put-at-length out (numbers (x ∷ [])) end
            (omega (arith, l.done.past, l.few, l.room, l.long, number_short x))
            ∙ l.long;
      }

  pub listed-all : rest ≡ [] → (end ≡ at + length (numbers all)) × (out ≡ put_at at (numbers all) out₀)
  listed-all e =
      gives
      (text-is
      (sym (append-nil l.text) ∙ ap (λ (r : List ℕ). l.text ++ r) (sym numbers-none)
      ∙ ap (λ (r : List ℕ). l.text ++ numbers r) (sym e) ∙ l.sum)
      l.done)

pub none_left : (hs : List Bool) (p : ℕ) → length hs ≡ 32 → 32 ≤ p → holders_from p (drop p hs) ≡ []
unfolding holders_from
none_left hs p s h =
    ap (holders_from p) (drop_of_length-le hs {i = p} (omega arith))

-- Of a list, the next, and the end.
pub next-of : (w : List ℕ) (i : ℕ) → i < length w → drop i w ≡ get_or w i 0 ∷ drop (i + 1) w
next-of w i h = rw (add-one, drop-cons w i 0 h)

pub few-wait : (l : Line) (w : List ℕ) → w ≡ waiters l → l.waiting ≤ 32 → length w ≤ 32
unfolding waiters
few-wait l w e h = omega (arith, ap length e, length-take l.waiting l.queue)

-- How long the steps can be.
pub steps-short : (steps : Option ℕ) → length (steps_text steps) ≤ 3
unfolding steps_text
steps-short (Some n) = decimal-short n
steps-short None = omega arith

-- The parts of a line, one behind the other, are the line.
pub head-laid : (a b s : List ℕ) → (((a ++ (SPACE ∷ [])) ++ b) ++ (SPACE ∷ [])) ++ s ≡ a ++ SPACE ∷ (b ++ SPACE ∷ s)
head-laid a b s = simp append_assoc

pub parties-laid : (h w : List ℕ)
    → ((((SPACE ∷ HELD) ++ h) ++ (SPACE ∷ WAITING)) ++ w) ++ (0x0A ∷ [])
    ≡ SPACE ∷ (HELD ++ (h ++ SPACE ∷ (WAITING ++ (w ++ 0x0A ∷ []))))
parties-laid h w = simp append_assoc
