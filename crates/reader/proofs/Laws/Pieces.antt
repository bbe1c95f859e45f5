-- The loop over the characters of a piece: what is read and what is still to come are the whole.
use Prim.Native.Nat.{ℕ, suc, ◌+◌, ◌-◌, ◌*◌, ◌≤◌, ◌<◌}
use mathlib.Core.Path.{◌≡◌, refl, sym, ap, ◌∙◌, subst}
use mathlib.Core.Bool.{Bool, true, false, cond}
use mathlib.Core.List.{List, [], ◌∷◌, ◌++◌, append_assoc}
use native.Mathlib.Omega.{arith}
use borrow.Author.Tests.{le-ltb, lt-ltb, ltb-true, ne_eqb}
use borrow.Rule.Slice.PartMut.{put_mid}
use lib.Dec.{eqb, ltb}
use lib.ListN.{length, get_or, take, drop, set, length-set, take-append-drop}
use lib.Seq.{drop-drop}
use mathlib.Core.Logic.{◌⊎◌, inl, inr}
use Rattle.std.proofs.lemmas.Slice.{drop-append-drop}
use Rattle.std.proofs.lemmas.List.{take_all}
use Rattle.line.proofs.Laws.Lines.{NoFeed, call-feeds}
use Rattle.line.specs.declared.request.Header.{Header}
use Rattle.line.specs.Requests.{Request, request_of, header_of}
use Rattle.encoding.proofs.Laws.Parts.{put-length, put-take, put-drop}
use Rattle.hub.proofs.Laws.Bools.{if-true, if-false}
use Rattle.reader.specs.declared.Read.{Read}
use Rattle.reader.specs.declared.Reader.{Reader}
use Rattle.reader.specs.Reading.{KEPT, line_in, pushed, emptied, next, past, asked}
use Rattle.reader.specs.Reading.{header_bytes, request_bytes, requests_written}

-- The reader behind a run of calls: the characters of the last one, if there is one, are those that its buffer begins
-- with.
abbrev pub left_by : List ℕ → List ℕ → Reader
left_by call line = record { line = call ++ drop (length call) line; len = 0 }

-- No call, or the four characters of one.
abbrev pub OneCall : List ℕ → Type 0
OneCall call = (length call ≡ 0) ⊎ (length call ≡ 4)

one-call-short : (call : List ℕ) → OneCall call → length call ≤ 4
one-call-short call (inl e) = omega (arith, e)
one-call-short call (inr e) = omega (arith, e)

-- Before the first one.
pub none-left : (call line : List ℕ) → length call ≡ 0 → left_by call line ≡ record { line = line; len = 0 }
none-left [] line e = refl
none-left (c ∷ cs) line e = absurd (omega (arith, e))

-- Behind the last one.
pub one-left : (call line copied : List ℕ) → OneCall call → (length call ≡ 0 → ⊥) → copied ≡ call
    → left_by call line ≡ record { line = copied ++ drop 4 line; len = 0 }
one-left call line copied (inl e) m f = absurd (m e)
one-left call line copied (inr e) m f =
    λ j. record { line = sym f j ++ drop (e j) line; len = 0 }

-- Behind a part of a piece, with `rest` of it still to come, from the reader r₀ and the buffer out₀ on; n lines have
-- ended.
pub record Upto (r₀ : Reader) (piece out₀ : List ℕ) (r : Reader) (out : List ℕ) (n : ℕ) (rest : List ℕ)
    : Type 0 where
  pub short : r.len ≤ KEPT
  pub size : length r.line ≡ KEPT
  pub room : 2 * length (asked r₀ piece) ≤ length out
  pub reader : past r rest ≡ past r₀ piece
  pub count : n + length (asked r rest) ≡ length (asked r₀ piece)
  pub same : take (2 * n) out ++ requests_written (asked r rest) (drop (2 * n) out)
      ≡ requests_written (asked r₀ piece) out₀

pub start : (r : Reader) (piece out : List ℕ) → r.len ≤ KEPT → length r.line ≡ KEPT
    → 2 * length (asked r piece) ≤ length out → Upto r piece out r out 0 piece
start r piece out s t l =
    record { short = s; size = t; room = l; reader = refl; count = omega arith; same = refl }

-- One character: within a line, and at its end.
pub past_one : (r : Reader) (c : ℕ) (cs : List ℕ) → past r (c ∷ cs) ≡ past (next r c) cs
unfolding past
past_one r c cs = refl

pub asked-within : (r : Reader) (c : ℕ) (cs : List ℕ) → eqb c 0x0A ≡ false
    → asked r (c ∷ cs) ≡ asked (next r c) cs
unfolding asked
asked-within r c cs e = if-false (eqb c 0x0A) _ _ e

pub asked-end : (r : Reader) (c : ℕ) (cs : List ℕ) → eqb c 0x0A ≡ true
    → asked r (c ∷ cs) ≡ request_of (line_in r) ∷ asked (next r c) cs
unfolding asked
asked-end r c cs e = if-true (eqb c 0x0A) _ _ e

-- A request takes two bytes off the buffer.
one_more : (q : Request) (rs : List Request) (l : List ℕ)
    → requests_written (q ∷ rs) l ≡ header_bytes (header_of q) ++ requests_written rs (drop 2 l)
unfolding request_bytes
one_more q rs l =
    ap (λ (m : List ℕ). header_bytes (header_of q) ++ (request_bytes rs ++ m))
    (ap (λ (n : ℕ). drop n l) (count (length rs)) ∙ sym (drop-drop (2 * length rs) 2 l))
  where
    count : (n : ℕ) → 2 * suc n ≡ 2 + 2 * n
    count n = omega arith

-- The reader's buffer keeps its size.
pub record Kept (r : Reader) : Type 0 where
  pub size : length r.line ≡ KEPT
  pub short : r.len ≤ KEPT

pub pushed-kept : (r : Reader) (c : ℕ) → Kept r → Kept (pushed r c)
pushed-kept r c k = pushes (ltb r.len KEPT) refl
  where
    pushes : (b : Bool) → ltb r.len KEPT ≡ b
        → Kept (cond b (record { line = set r.line r.len c; len = r.len + 1 }) r)
    pushes true e =
        record {
          size = length-set r.line r.len c ∙ k.size;
          short = omega (arith, ltb-true r.len KEPT e);
        }
    pushes false e = k

-- A character while there is room, and past that.
pub char-kept : (r : Reader) (c : ℕ) → r.len < KEPT
    → record { line = set r.line r.len c; len = r.len + 1 } ≡ pushed r c
char-kept r c l = rw (lt-ltb r.len KEPT l) refl

pub char-lost : (r : Reader) (c : ℕ) → KEPT ≤ r.len → r ≡ pushed r c
char-lost r c l = rw (le-ltb r.len KEPT l) refl

next-kept : (r : Reader) (c : ℕ) → Kept r → Kept (next r c)
next-kept r c k = go (eqb c 0x0A) (pushed-kept r c k)
  where
    go : (b : Bool) → Kept (pushed r c) → Kept (cond b (emptied r) (pushed r c))
    go true p = record { size = k.size; short = omega arith }
    go false p = p

pub past-kept : (cs : List ℕ) (r : Reader) → Kept r → Kept (past r cs)
unfolding past
past-kept [] r k = k
past-kept (c ∷ cs) r k = past-kept cs (next r c) (next-kept r c k)

-- A part of a piece, by its first character, and by its first five.
first : (l : List ℕ) → 1 ≤ length l → l ≡ get_or l 0 0 ∷ take (length l - 1) (drop 1 l)
first [] m = absurd (omega arith)
first (c ∷ cs) m = ap (λ (k : List ℕ). c ∷ k) (sym (take_all (suc (length cs) - 1) cs (omega arith)))

first-five : (l : List ℕ) → 5 ≤ length l
    → l
    ≡ get_or l 0 0 ∷ get_or l 1 0 ∷ get_or l 2 0 ∷ get_or l 3 0 ∷ get_or l 4 0 ∷ take (length l - 5) (drop 5 l)
first-five [] m = absurd (omega arith)
first-five (a ∷ []) m = absurd (omega arith)
first-five (a ∷ b ∷ []) m = absurd (omega arith)
first-five (a ∷ b ∷ x ∷ []) m = absurd (omega arith)
first-five (a ∷ b ∷ x ∷ y ∷ []) m = absurd (omega arith)
first-five (a ∷ b ∷ x ∷ y ∷ z ∷ cs) m =
    ap (λ (k : List ℕ). a ∷ b ∷ x ∷ y ∷ z ∷ k)
    (sym (take_all (suc (suc (suc (suc (suc (length cs))))) - 5) cs (omega arith)))

-- A reader's buffer with the four characters of a line, as they are kept one by one and as they are copied.
abbrev four : List ℕ → ℕ → ℕ → ℕ → ℕ → List ℕ
four l a b x y = set (set (set (set l 0 a) 1 b) 2 x) 3 y

four-line : (l : List ℕ) (a b x y : ℕ) → 4 ≤ length l → take 4 (four l a b x y) ≡ a ∷ b ∷ x ∷ y ∷ []
four-line [] a b x y m = absurd (omega arith)
four-line (p ∷ []) a b x y m = absurd (omega arith)
four-line (p ∷ q ∷ []) a b x y m = absurd (omega arith)
four-line (p ∷ q ∷ r ∷ []) a b x y m = absurd (omega arith)
four-line (p ∷ q ∷ r ∷ s ∷ l) a b x y m = refl

four-copied : (l : List ℕ) (a b x y : ℕ) → 4 ≤ length l → a ∷ b ∷ x ∷ y ∷ drop 4 l ≡ four l a b x y
four-copied [] a b x y m = absurd (omega arith)
four-copied (p ∷ []) a b x y m = absurd (omega arith)
four-copied (p ∷ q ∷ []) a b x y m = absurd (omega arith)
four-copied (p ∷ q ∷ r ∷ []) a b x y m = absurd (omega arith)
four-copied (p ∷ q ∷ r ∷ s ∷ l) a b x y m = refl

module _ (r₀ : Reader) (piece out₀ : List ℕ) where
  -- A character within a line.
  one-kept : (r : Reader) (out : List ℕ) (n c : ℕ) (cs : List ℕ) → (c ≡ 0x0A → ⊥)
      → Upto r₀ piece out₀ r out n (c ∷ cs) → Upto r₀ piece out₀ (pushed r c) out n cs
  one-kept r out n c cs f u =
      let k : Kept (pushed r c) = pushed-kept r c (record { size = u.size; short = u.short }) in
      let e : next r c ≡ pushed r c = if-false (eqb c 0x0A) _ _ (ne_eqb c 0x0A f) in
      let a : asked r (c ∷ cs) ≡ asked (pushed r c) cs =
      asked-within r c cs (ne_eqb c 0x0A f) ∙ ap (λ (p : Reader). asked p cs) e in
      record {
        short = k.short;
        size = k.size;
        room = u.room;
        reader = sym (past_one r c cs ∙ ap (λ (p : Reader). past p cs) e) ∙ u.reader;
        count = ap (λ (l : List Request). n + length l) (sym a) ∙ u.count;
        same =
            ap (λ (l : List Request). take (2 * n) out ++ requests_written l (drop (2 * n) out)) (sym a)
            ∙ u.same;
      }

  -- The end of a line.
  module _ (r : Reader) (out : List ℕ) (n : ℕ) (cs : List ℕ) (u : Upto r₀ piece out₀ r out n (0x0A ∷ cs)) where
    one-room : 2 * n + 2 ≤ length out
    one-room = omega (arith, u.room, u.count, ap length (asked-end r 0x0A cs refl))

    one-ended : (h : Header) → h ≡ header_of (request_of (line_in r)) → (part : List ℕ) → part ≡ header_bytes h
        → Upto r₀ piece out₀ (emptied r) (put_mid (2 * n) (2 * n + 2 - 2 * n) out part) (n + 1) cs
    one-ended h e part g =
        let q = request_of (line_in r) in
        let rs = asked (emptied r) cs in
        let a : asked r (0x0A ∷ cs) ≡ q ∷ rs = asked-end r 0x0A cs refl in
        let size : length part ≡ 2 = ap length g in
        record {
          short = omega arith;
          size = u.size;
          room = omega (arith, u.room, put-length out part (2 * n) 2 one-room size);
          reader = sym (past_one r 0x0A cs) ∙ u.reader;
          count = assoc n (length rs) ∙ ap (λ (l : List Request). n + length l) (sym a) ∙ u.count;
          same =
              rw
              (two n, put-take out part (2 * n) 2 one-room size, put-drop out part (2 * n) 2 one-room size)
              (append_assoc (take (2 * n) out) part _
              ∙ ap (λ (l : List ℕ). take (2 * n) out ++ l)
              (ap (λ (l : List ℕ). l ++ requests_written rs (drop 2 (drop (2 * n) out))) (g ∙ ap header_bytes e)
              ∙ sym (one_more q rs (drop (2 * n) out)))
              ∙ ap (λ (l : List Request). take (2 * n) out ++ requests_written l (drop (2 * n) out)) (sym a)
              ∙ u.same);
        }
      where
        two : (m : ℕ) → 2 * (m + 1) ≡ 2 * m + 2
        two m = omega arith

        assoc : (a b : ℕ) → a + 1 + b ≡ a + suc b
        assoc a b = omega arith

  module _ (r : Reader) (out : List ℕ) (n : ℕ) (rest : List ℕ) (u : Upto r₀ piece out₀ r out n rest) where
    -- One character of what is still to come.
    module _ (more : 1 ≤ length rest) where
      pub onward : (get_or rest 0 0 ≡ 0x0A → ⊥) → (q : Reader) → q ≡ pushed r (get_or rest 0 0)
          → Upto r₀ piece out₀ q out n (take (length rest - 1) (drop 1 rest))
      onward f q e =
          subst (λ (p : Reader). Upto r₀ piece out₀ p out n (take (length rest - 1) (drop 1 rest))) (sym e)
          (one-kept r out n _ _ f (subst (Upto r₀ piece out₀ r out n) (first rest more) u))

      at-end : get_or rest 0 0 ≡ 0x0A
          → Upto r₀ piece out₀ r out n (0x0A ∷ take (length rest - 1) (drop 1 rest))
      at-end f =
          subst (λ (c : ℕ). Upto r₀ piece out₀ r out n (c ∷ take (length rest - 1) (drop 1 rest))) f
          (subst (Upto r₀ piece out₀ r out n) (first rest more) u)

      -- There is room for what one more line asks.
      pub line-room : get_or rest 0 0 ≡ 0x0A → 2 * n + 2 ≤ length out
      line-room f = one-room r out n _ (at-end f)

      pub line-end : get_or rest 0 0 ≡ 0x0A → (h : Header) → h ≡ header_of (request_of (line_in r))
          → (part : List ℕ) → part ≡ header_bytes h → (q : Reader) → q ≡ emptied r
          → Upto r₀ piece out₀ q (put_mid (2 * n) (2 * n + 2 - 2 * n) out part) (n + 1)
          (take (length rest - 1) (drop 1 rest))
      line-end f h e part g q i =
          subst
          (λ (p : Reader).
          Upto r₀ piece out₀ p (put_mid (2 * n) (2 * n + 2 - 2 * n) out part) (n + 1)
          (take (length rest - 1) (drop 1 rest))) (sym i)
          (one-ended r out n _ (at-end f) h e part g)

    -- A call of four characters, and its line feed.
    module _ (begun : r.len ≡ 0) (five : 5 ≤ length rest)
        (feed : get_or rest 4 0 ≡ 0x0A) (h : Header)
        (e : h
        ≡ header_of
        (request_of (get_or rest 0 0 ∷ get_or rest 1 0 ∷ get_or rest 2 0 ∷ get_or rest 3 0 ∷ [])))
        (call : 16 ≤ h.code) where
      abbrev a : ℕ
      a = get_or rest 0 0

      abbrev b : ℕ
      b = get_or rest 1 0

      abbrev x : ℕ
      x = get_or rest 2 0

      abbrev y : ℕ
      y = get_or rest 3 0

      abbrev cs : List ℕ
      cs = take (length rest - 5) (drop 5 rest)

      buffer : 4 ≤ length r.line
      buffer = omega (arith, u.size)

      feeds : NoFeed a b x y
      feeds = call-feeds a b x y (subst (λ (g : Header). 16 ≤ g.code) e call)

      empty : r ≡ record { line = r.line; len = 0 }
      empty = λ j. record { line = r.line; len = begun j }

      -- What is still to come begins with the call.
      shown : rest ≡ a ∷ b ∷ x ∷ y ∷ 0x0A ∷ cs
      shown = first-five rest five ∙ ap (λ (c : ℕ). a ∷ b ∷ x ∷ y ∷ c ∷ cs) feed

      before : Upto r₀ piece out₀ (record { line = r.line; len = 0 }) out n (a ∷ b ∷ x ∷ y ∷ 0x0A ∷ cs)
      before =
          subst (λ (l : List ℕ). Upto r₀ piece out₀ (record { line = r.line; len = 0 }) out n l) shown
          (subst (λ (p : Reader). Upto r₀ piece out₀ p out n rest) empty u)

      all : Upto r₀ piece out₀ (record { line = four r.line a b x y; len = 4 }) out n (0x0A ∷ cs)
      all =
          one-kept _ out n y _ feeds.fourth
          (one-kept _ out n x _ feeds.third
          (one-kept _ out n b _ feeds.second (one-kept _ out n a _ feeds.first before)))

      pub call-room : 2 * n + 2 ≤ length out
      call-room = one-room _ out n _ all

      pub call-end : (part : List ℕ) → part ≡ header_bytes h → (last line : List ℕ) → OneCall last
          → r ≡ left_by last line → (call : List ℕ) → call ≡ take 4 rest
          → Upto r₀ piece out₀ (left_by call line) (put_mid (2 * n) (2 * n + 2 - 2 * n) out part) (n + 1) cs
      call-end part g last line o i call l =
          subst
          (λ (p : Reader).
          Upto r₀ piece out₀ p (put_mid (2 * n) (2 * n + 2 - 2 * n) out part) (n + 1) cs)
          (sym (λ j. record { line = kept j; len = 0 }))
          (one-ended _ out n cs all h
          (e ∙ ap (λ (m : List ℕ). header_of (request_of m)) (sym (four-line r.line a b x y buffer))) part g)
        where
          copy : call ≡ a ∷ b ∷ x ∷ y ∷ []
          copy = l ∙ ap (λ (m : List ℕ). take 4 m) (first-five rest five)

          beyond : drop 4 line ≡ drop 4 r.line
          beyond =
              sym (drop-append-drop (length last) line last 4 (one-call-short last o) refl)
              ∙ ap (λ (p : Reader). drop 4 p.line) (sym i)

          kept : call ++ drop (length call) line ≡ four r.line a b x y
          kept =
              (λ j. copy j ++ drop (length (copy j)) line)
              ∙ ap (λ (m : List ℕ). a ∷ b ∷ x ∷ y ∷ m) beyond
              ∙ four-copied r.line a b x y buffer

-- Behind the last character nothing is still to come.
pub end : (r₀ : Reader) (piece out₀ : List ℕ) (r : Reader) (out : List ℕ) (n : ℕ) (rest : List ℕ)
    → Upto r₀ piece out₀ r out n rest → length rest < 1
    → (◌≡◌ {A = Read} (record { reader = r; count = n })
    (record { reader = past r₀ piece; count = length (asked r₀ piece) }))
    × (out ≡ requests_written (asked r₀ piece) out₀)
unfolding past asked request_bytes
end r₀ piece out₀ r out n (c ∷ cs) u m = absurd (omega arith)
end r₀ piece out₀ r out n [] u m = (
  (λ j. record { reader = u.reader j; count = (zero n ∙ u.count) j }),
  sym (take-append-drop (2 * n) out) ∙ u.same,
)
  where
    zero : (m : ℕ) → m ≡ m + 0
    zero m = omega arith
