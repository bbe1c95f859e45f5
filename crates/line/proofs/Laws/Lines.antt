-- What a line of four characters asks, and that no other length asks for a call.
use Prim.Native.Nat.{ℕ, ◌+◌, ◌-◌, ◌*◌, ◌%◌, ◌≤◌, ◌<◌}
use mathlib.Core.Path.{◌≡◌, refl, sym, ap, ◌∙◌, subst}
use mathlib.Core.Bool.{Bool, true, false, cond, not, ◌&&◌, ◌||◌}
use mathlib.Core.List.{List, [], ◌∷◌}
use native.Mathlib.Omega.{arith}
use Rattle.hub.proofs.Laws.Bools.{first, second, if-true}
use borrow.Author.Tests.{lt-ltb, le-ltb, ltb-true, eq-eqb, ne_eqb, eqb-false}
use lib.Dec.{eqb, leb, ltb}
use lib.ListN.{length, get_or, take, drop, length-drop}
use lib.Seq.{take_all}
use native.Mathlib.Nat.{le_of_eq}
use Rattle.hub.specs.declared.opening.Opening.{Opening}
use Rattle.encoding.specs.Frame.{is_call, op_of}
use Rattle.encoding.specs.Hex.{digit_of, is_digit, spelled, byte_of}
use Rattle.std.specs.Prelude.{Option, Some, None}
use Rattle.line.specs.Below.{if_below}
use Rattle.line.specs.Requests.{LONGEST, Request, malformed, to_open, to_call}
use Rattle.line.specs.Requests.{all_digits, unreadable, bytes_of, opening_in, requested, spelled_by}
use Rattle.line.specs.Requests.{request_of, call_header, header_of, is_opening}
use Rattle.line.proofs.Laws.Codes.{call-back}

-- The first two characters are digits of the values x and y: they spell a byte.
pub byte-both : (l : List ℕ) → 2 ≤ length l → (x : ℕ) → x ≡ digit_of (get_or l 0 0)
    → (y : ℕ) → y ≡ digit_of (get_or l 1 0) → x < 16 → y < 16 → 16 * x + y ≡ byte_of l
byte-both l long x first y second low m =
    (λ i. 16 * first i + second i)
    ∙ go l long (subst (λ (d : ℕ). d < 16) first low) (subst (λ (d : ℕ). d < 16) second m)
  where
    go : (l : List ℕ) → 2 ≤ length l → digit_of (get_or l 0 0) < 16 → digit_of (get_or l 1 0) < 16
        → 16 * digit_of (get_or l 0 0) + digit_of (get_or l 1 0) ≡ byte_of l
    go [] n i m = absurd (omega arith)
    go (a ∷ []) n i m = absurd (omega arith)
    go (a ∷ b ∷ l) n i m = simp (lt-ltb (digit_of a) 16 i, lt-ltb (digit_of b) 16 m)

-- The part of a line from its n-th character on.
pub from : (n : ℕ) (l : List ℕ) → take (length l - n) (drop n l) ≡ drop n l
from n l = take_all (length l - n) (drop n l) (le_of_eq (length-drop n l))

-- An unreadable line spells nothing; one of digits alone, even and not too long, their bytes.
module _ (l : List ℕ) where
  pub too_long : LONGEST < length l → [] ≡ spelled_by l
  unfolding spelled_by
  too_long m = rw (lt-ltb LONGEST (length l) m)

  pub odd : length l % 2 ≡ 1 → [] ≡ spelled_by l
  unfolding spelled_by
  odd e = go (ltb LONGEST (length l)) _ (all_digits l) (bytes_of l) (eq-eqb (length l % 2) 1 e)
    where
      go : (p q r : Bool) (x : List ℕ) → q ≡ true → [] ≡ cond (p || q || not r) [] x
      go true q r x f = refl
      go false q r x f = ap (λ (b : Bool). cond (b || not r) [] x) (sym f)

  pub no_digit : all_digits l ≡ false → [] ≡ spelled_by l
  unfolding spelled_by
  no_digit e = go (ltb LONGEST (length l)) (eqb (length l % 2) 1) _ (bytes_of l) e
    where
      go : (p q r : Bool) (x : List ℕ) → r ≡ false → [] ≡ cond (p || q || not r) [] x
      go true q r x f = refl
      go false true r x f = refl
      go false false r x f = ap (λ (b : Bool). cond (not b) [] x) (sym f)

  pub readable : length l ≤ LONGEST → (length l % 2 ≡ 1 → ⊥) → all_digits l ≡ true
      → bytes_of l ≡ spelled_by l
  unfolding spelled_by
  readable m e d = rw (le-ltb LONGEST (length l) m, ne_eqb (length l % 2) 1 e, d)

-- A line that asks nothing.
unread : (l : List ℕ) → all_digits l ≡ false → malformed ≡ request_of l
unfolding request_of requested
unread l e = ap requested (no_digit l e)

-- A line of four characters that is a call has no line feed in it.
pub record NoFeed (a b x y : ℕ) : Type 0 where
  pub first : a ≡ 0x0A → ⊥
  pub second : b ≡ 0x0A → ⊥
  pub third : x ≡ 0x0A → ⊥
  pub fourth : y ≡ 0x0A → ⊥

no-feed : (c : ℕ) → is_digit c ≡ true → c ≡ 0x0A → ⊥
unfolding digit_of
no-feed c d e =
    let z : false ≡ true = sym (ap is_digit e) ∙ d in
    let n : ◌≡◌ {A = ℕ} 0 1 = cc in
    omega arith

pub call-feeds : (a b x y : ℕ) → 16 ≤ (header_of (request_of (a ∷ b ∷ x ∷ y ∷ []))).code → NoFeed a b x y
unfolding all_digits
call-feeds a b x y m = go (all_digits (a ∷ b ∷ x ∷ y ∷ [])) refl
  where
    go : (d : Bool) → all_digits (a ∷ b ∷ x ∷ y ∷ []) ≡ d → NoFeed a b x y
    go true e =
        let f = second (is_digit a) (all_digits (b ∷ x ∷ y ∷ [])) e in
        let g = second (is_digit b) (all_digits (x ∷ y ∷ [])) f in
        let h = second (is_digit x) (all_digits (y ∷ [])) g in
        record {
          first = no-feed a (first (is_digit a) (all_digits (b ∷ x ∷ y ∷ [])) e);
          second = no-feed b (first (is_digit b) (all_digits (x ∷ y ∷ [])) f);
          third = no-feed x (first (is_digit x) (all_digits (y ∷ [])) g);
          fourth = no-feed y (first (is_digit y) true h);
        }
    go false e =
        absurd
        (omega (arith, m, ap (λ (r : Request). (header_of r).code) (unread (a ∷ b ∷ x ∷ y ∷ []) e)))

abbrev two_digits : ℕ → ℕ → Bool
two_digits a b = is_digit a && is_digit b

small : (a b : ℕ) → two_digits a b ≡ true → spelled a b < 256
small a b e =
    omega (
      arith,
      ltb-true (digit_of a) 16 (first (is_digit a) (is_digit b) e),
      ltb-true (digit_of b) 16 (second (is_digit a) (is_digit b) e),
    )

-- Two characters in front of others: they spell a byte, or the line is not all digits.
module _ (a b : ℕ) (l : List ℕ) where
  pub spells : byte_of (a ∷ b ∷ l) < 256 → two_digits a b ≡ true
  spells = go (two_digits a b) refl
    where
      go : (d : Bool) → two_digits a b ≡ d → cond d (spelled a b) 256 < 256 → two_digits a b ≡ true
      go true e m = e
      go false e m = absurd (omega arith)

  pub strays : 256 ≤ byte_of (a ∷ b ∷ l) → two_digits a b ≡ false
  strays = go (two_digits a b) refl
    where
      go : (d : Bool) → two_digits a b ≡ d → 256 ≤ cond d (spelled a b) 256 → two_digits a b ≡ false
      go true e m = absurd (omega (arith, small a b e))
      go false e m = e

  pub digits : all_digits (a ∷ b ∷ l) ≡ two_digits a b && all_digits l
  unfolding all_digits
  digits = go (is_digit a)
    where
      go : (p : Bool) → p && (is_digit b && all_digits l) ≡ (p && is_digit b) && all_digits l
      go true = refl
      go false = refl

  pub stray : two_digits a b ≡ false → all_digits (a ∷ b ∷ l) ≡ false
  stray e = digits ∙ rw e

  later : all_digits l ≡ false → all_digits (a ∷ b ∷ l) ≡ false
  later e = digits ∙ rw e (go (two_digits a b))
    where
      go : (p : Bool) → p && false ≡ false
      go true = refl
      go false = refl

  pub one_more : two_digits a b ≡ true → all_digits l ≡ true → all_digits (a ∷ b ∷ l) ≡ true
  one_more e f = digits ∙ rw (e, f)

  pub byte-is : two_digits a b ≡ true → byte_of (a ∷ b ∷ l) ≡ spelled a b
  byte-is e = rw e

pub none : all_digits [] ≡ true
unfolding all_digits
none = refl

-- Two characters as a byte, if they spell one.
pub in-pair : (a b : ℕ) → if_below 256 (byte_of (a ∷ b ∷ [])) ≡ cond (two_digits a b) (Some (spelled a b)) None
in-pair a b = go (two_digits a b) refl
  where
    go : (d : Bool) → two_digits a b ≡ d → if_below 256 (cond d (spelled a b) 256) ≡ cond d (Some (spelled a b)) None
    go true e = rw (lt-ltb (spelled a b) 256 (small a b e))
    go false e = refl

pub pair-spells : (a b x : ℕ) → Some x ≡ if_below 256 (byte_of (a ∷ b ∷ []))
    → (two_digits a b ≡ true) × (x ≡ spelled a b)
pair-spells a b x e = go (two_digits a b) (e ∙ in-pair a b)
  where
    go : (d : Bool) → Some x ≡ cond d (Some (spelled a b)) None → (d ≡ true) × (x ≡ spelled a b)
    go true e = (refl, cc)
    go false e = absurd (cc)

pub pair-strays : (a b : ℕ) → None ≡ if_below 256 (byte_of (a ∷ b ∷ [])) → two_digits a b ≡ false
pair-strays a b e = go (two_digits a b) (e ∙ in-pair a b)
  where
    go : (d : Bool) → None ≡ cond d (Some (spelled a b)) None → d ≡ false
    go true e = cc
    go false e = refl

-- Four characters are a call, its code and its party, or ask nothing.
pub four : (a b x y : ℕ)
    → call_header (if_below 256 (byte_of (a ∷ b ∷ x ∷ y ∷ []))) (if_below 256 (byte_of (x ∷ y ∷ [])))
    ≡ header_of (request_of (a ∷ b ∷ x ∷ y ∷ []))
unfolding bytes_of requested request_of spelled_by
four a b x y =
    (λ i. call_header (in-pair a b i) (in-pair x y i)) ∙ go (two_digits a b) (two_digits x y) refl refl
  where
    asked : (c p : ℕ) (t : Bool) → is_call c ≡ t
        → cond t (record { code = c; party = p }) (header_of malformed)
        ≡ header_of (cond t (to_call (record { op = op_of c; party = p })) malformed)
    asked c p true e = (λ i. record { code = sym (call-back c e) i; party = p })
    asked c p false e = refl

    go : (d e : Bool) → two_digits a b ≡ d → two_digits x y ≡ e
        → call_header (cond d (Some (spelled a b)) None) (cond e (Some (spelled x y)) None)
        ≡ header_of (request_of (a ∷ b ∷ x ∷ y ∷ []))
    go false e f g = ap header_of (unread (a ∷ b ∷ x ∷ y ∷ []) (stray a b (x ∷ y ∷ []) f))
    go true false f g =
        ap header_of (unread (a ∷ b ∷ x ∷ y ∷ []) (later a b (x ∷ y ∷ []) (stray x y [] g)))
    go true true f g =
        asked (spelled a b) (spelled x y) (is_call (spelled a b)) refl
        ∙ ap (λ (l : List ℕ). header_of (requested l))
        (readable (a ∷ b ∷ x ∷ y ∷ []) (omega arith) (λ z. omega arith)
        (one_more a b (x ∷ y ∷ []) f (one_more x y [] g none)))

-- The tests of a call one by one: no byte, no code, no party, a call.
module _ (o q : Option ℕ) where
  pub no-first : o ≡ None → header_of malformed ≡ call_header o q
  no-first e = λ i. call_header (sym e i) q

  module _ (c : ℕ) (code : o ≡ Some c) where
    pub no-code : is_call c ≡ false → header_of malformed ≡ call_header o q
    no-code f = go q ∙ (λ i. call_header (sym code i) q)
      where
        go : (q : Option ℕ) → header_of malformed ≡ call_header (Some c) q
        go None = refl
        go (Some p) = rw f refl

    pub no-second : q ≡ None → header_of malformed ≡ call_header o q
    no-second e = λ i. call_header (sym code i) (sym e i)

    pub both : (p : ℕ) → q ≡ Some p → is_call c ≡ true → record { code = c; party = p } ≡ call_header o q
    both p e f =
        sym (if-true (is_call c) (record { code = c; party = p }) (header_of malformed) f)
        ∙ (λ i. call_header (sym code i) (sym e i))

-- The same of a line.
pub four-line : (l : List ℕ) → length l ≡ 4
    → call_header (if_below 256 (byte_of l)) (if_below 256 (byte_of (drop 2 l))) ≡ header_of (request_of l)
four-line [] e = absurd (omega arith)
four-line (a ∷ []) e = absurd (omega arith)
four-line (a ∷ b ∷ []) e = absurd (omega arith)
four-line (a ∷ b ∷ x ∷ []) e = absurd (omega arith)
four-line (a ∷ b ∷ x ∷ y ∷ []) e = four a b x y
four-line (a ∷ b ∷ x ∷ y ∷ z ∷ l) e = absurd (omega arith)

-- Two bytes are four characters.
halves : (l : List ℕ) → (2 * length (bytes_of l) ≤ length l) × (length l ≤ 2 * length (bytes_of l) + 1)
unfolding bytes_of
halves [] = (omega arith, omega arith)
halves (a ∷ []) = (omega arith, omega arith)
halves (a ∷ b ∷ l) = (omega (arith, (halves l).0), omega (arith, (halves l).1))

two_bytes : (l : List ℕ) → length (spelled_by l) ≡ 2 → length l ≡ 4
unfolding spelled_by
two_bytes l e = go (unreadable l) refl e
  where
    even : (p q r : Bool) → p || q || r ≡ false → q ≡ false
    even true q r f = cc
    even false true r f = f
    even false false r f = refl

    go : (u : Bool) → unreadable l ≡ u → length (cond u [] (bytes_of l)) ≡ 2 → length l ≡ 4
    go true f g = absurd (omega arith)
    go false f g =
        omega (
          arith,
          (halves l).0,
          (halves l).1,
          eqb-false (length l % 2) 1 (even (ltb LONGEST (length l)) _ (not (all_digits l)) f),
        )

no_header : (m : List ℕ) → (length m ≡ 2 → ⊥) → is_opening (requested m) ≡ false
    → header_of malformed ≡ header_of (requested m)
unfolding requested opening_in
no_header [] f e = refl
no_header (c ∷ []) f e = refl
no_header (c ∷ p ∷ []) f e = absurd (f refl)
no_header (c ∷ k ∷ n ∷ l) f e =
    go (eqb c 0x01) (eqb c 0x02 && leb k (length l)) _ _ e
  where
    go : (a b : Bool) (o p : Opening)
        → is_opening (cond a (to_open o) (cond b (to_open p) malformed)) ≡ false
        → header_of malformed ≡ header_of (cond a (to_open o) (cond b (to_open p) malformed))
    go true b o p e = let z : ◌≡◌ {A = ℕ} 0 1 = cc in absurd (omega arith)
    go false true o p e = let z : ◌≡◌ {A = ℕ} 0 1 = cc in absurd (omega arith)
    go false false o p e = refl

-- Another length than four is no call: an opening, or nothing.
pub not-four : (l : List ℕ) → (length l ≡ 4 → ⊥) → is_opening (request_of l) ≡ false
    → header_of malformed ≡ header_of (request_of l)
unfolding request_of
not-four l f = no_header (spelled_by l) (λ e. f (two_bytes l e))

-- An opening, whatever it asks for.
pub an-opening : (r : Request) → is_opening r ≡ true
    → record { code = 0x01; party = 0xFF } ≡ header_of r
an-opening malformed e = let z : ◌≡◌ {A = ℕ} 0 1 = cc in absurd (omega arith)
an-opening (to_open o) e = refl
an-opening (to_call c) e = let z : ◌≡◌ {A = ℕ} 0 1 = cc in absurd (omega arith)
