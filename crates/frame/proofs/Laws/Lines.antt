-- What the reader keeps of a line is what the line asks by.
use Prim.Native.Nat.{ℕ, suc, ◌+◌, ◌≤◌, ◌<◌}
use mathlib.Core.Path.{◌≡◌, refl, sym, ap, ◌∙◌, subst}
use mathlib.Core.Bool.{Bool, true, false}
use mathlib.Core.List.{List, [], ◌∷◌, ◌++◌, map}
use native.Mathlib.Omega.{arith}
use borrow.Author.Tests.{eq-eqb, ne_eqb, ltb-true, ltb-false}
use lib.Dec.{eqb, ltb}
use lib.ListN.{length, take, set, length-append, length-set}
use lib.Seq.{take_all, take-append-le, take-suc-set, length-take-le}
use Rattle.hub.proofs.Laws.Bools.{if-true, if-false}
use Rattle.line.specs.Program.{left_over, lines_from}
use Rattle.line.specs.Requests.{LONGEST, Request, malformed, requested, request_of}
use Rattle.line.proofs.Laws.Lines.{too_long}
use Rattle.reader.specs.declared.Reader.{Reader}
use Rattle.reader.specs.Reading.{KEPT, line_in, pushed, emptied, next, past, asked}
use Rattle.frame.specs.Session.{rest}

-- A reader that keeps line l, or as many of its characters as it has room for.
pub record Keeps (r : Reader) (l : List ℕ) : Type 0 where
  pub size : length r.line ≡ KEPT
  pub short : r.len ≤ KEPT
  pub same : line_in r ≡ take KEPT l

-- They ask what the whole line does: nothing, if it is too long.
nothing-asked : (l : List ℕ) → LONGEST < length l → request_of l ≡ malformed
unfolding request_of requested
nothing-asked l m = ap requested (sym (too_long l m))

clipped : (l : List ℕ) → request_of (take KEPT l) ≡ request_of l
clipped l = go (ltb KEPT (length l)) refl
  where
    go : (b : Bool) → ltb KEPT (length l) ≡ b → request_of (take KEPT l) ≡ request_of l
    go true e =
        let m = ltb-true KEPT (length l) e in
        nothing-asked (take KEPT l) (omega (arith, length-take-le KEPT l (omega arith)))
        ∙ sym (nothing-asked l (omega arith))
    go false e = ap request_of (take_all KEPT l (ltb-false KEPT (length l) e))

module _ (r : Reader) (l : List ℕ) (k : Keeps r l) where
  kept-length : length (take KEPT l) ≡ r.len
  kept-length =
      ap length (sym k.same)
      ∙ length-take-le r.len r.line (omega (arith, k.short, k.size))

  -- A reader with room keeps the whole line; a full one has a line too long.
  whole : r.len < KEPT → length l < KEPT
  whole m = go (ltb (length l) KEPT) refl
    where
      go : (b : Bool) → ltb (length l) KEPT ≡ b → length l < KEPT
      go true e = ltb-true (length l) KEPT e
      go false e =
          absurd
          (omega (arith, kept-length, length-take-le KEPT l (ltb-false (length l) KEPT e)))

  cut : KEPT ≤ r.len → KEPT ≤ length l
  cut m = go (ltb (length l) KEPT) refl
    where
      go : (b : Bool) → ltb (length l) KEPT ≡ b → KEPT ≤ length l
      go true e =
          let n = ltb-true (length l) KEPT e in
          absurd (omega (arith, kept-length, ap length (take_all KEPT l (omega arith))))
      go false e = ltb-false (length l) KEPT e

  request-kept : request_of (line_in r) ≡ request_of l
  request-kept = ap request_of k.same ∙ clipped l

  emptied-keeps : Keeps (emptied r) []
  emptied-keeps = record { size = k.size; short = omega arith; same = refl }

  one : (n : ℕ) → n + 1 ≡ suc n
  one n = omega arith

  pushed-keeps : (c : ℕ) → Keeps (pushed r c) (l ++ (c ∷ []))
  pushed-keeps c = go (ltb r.len KEPT) refl
    where
      go : (b : Bool) → ltb r.len KEPT ≡ b → Keeps (pushed r c) (l ++ (c ∷ []))
      go true e =
          let m = ltb-true r.len KEPT e in
          subst (λ (q : Reader). Keeps q (l ++ (c ∷ [])))
          (sym (if-true (ltb r.len KEPT) _ r e))
          (record {
            size = length-set r.line r.len c ∙ k.size;
            short = omega arith;
            same =
                ap (λ (n : ℕ). take n (set r.line r.len c)) (one r.len)
                ∙ take-suc-set r.line r.len c (omega (arith, k.size))
                ∙ ap (λ (x : List ℕ). x ++ (c ∷ []))
                (k.same ∙ take_all KEPT l (omega (arith, whole m)))
                ∙ sym
                (take_all KEPT (l ++ (c ∷ [])) (simp length-append (omega (arith, whole m))));
          })
      go false e =
          let m = ltb-false r.len KEPT e in
          subst (λ (q : Reader). Keeps q (l ++ (c ∷ [])))
          (sym (if-false (ltb r.len KEPT) _ r e))
          (record {
            size = k.size;
            short = k.short;
            same = k.same ∙ sym (take-append-le KEPT l (c ∷ []) (cut m));
          })

-- A line left without its end mark.
left_over_lem : (r : Reader) (l : List ℕ) → Keeps r l → rest r ≡ map request_of (left_over l)
left_over_lem r [] k =
    if-true (eqb r.len 0) [] _ (eq-eqb r.len 0 (sym (kept-length r [] k)))
left_over_lem r (x ∷ l) k =
    if-false (eqb r.len 0) [] _
    (ne_eqb r.len 0 (λ e. omega (arith, e, kept-length r (x ∷ l) k)))
    ∙ ap (λ (q : Request). q ∷ []) (request-kept r (x ∷ l) k)

-- What is asked while an input is read, and by what is left over, is what its lines ask.
pub lines-read : (cs : List ℕ) (r : Reader) (l : List ℕ) → Keeps r l
    → asked r cs ++ rest (past r cs) ≡ map request_of (lines_from l cs)
unfolding asked past lines_from
lines-read [] r l k = left_over_lem r l k
lines-read (c ∷ cs) r l k =
    go (eqb c 0x0A) refl (lines-read cs (emptied r) [] (emptied-keeps r l k))
    (lines-read cs (pushed r c) (l ++ (c ∷ [])) (pushed-keeps r l k c))
  where
    go : (b : Bool) → eqb c 0x0A ≡ b
        → asked (emptied r) cs ++ rest (past (emptied r) cs) ≡ map request_of (lines_from [] cs)
        → asked (pushed r c) cs ++ rest (past (pushed r c) cs)
        ≡ map request_of (lines_from (l ++ (c ∷ [])) cs)
        → asked r (c ∷ cs) ++ rest (past (next r c) cs) ≡ map request_of (lines_from l (c ∷ cs))
    go true e f g = rw e (λ i. request-kept r l k i ∷ f i)
    go false e f g = rw e g
