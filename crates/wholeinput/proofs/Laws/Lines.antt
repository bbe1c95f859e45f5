-- The lines of an input are those that end in it, and a last one that is left without its end mark.
use Prim.Native.Nat.{ℕ, ◌+◌}
use mathlib.Core.Path.{◌≡◌, refl, sym, ◌∙◌}
use mathlib.Core.Bool.{Bool, true, false, cond, not}
use mathlib.Core.List.{List, [], ◌∷◌, ◌++◌}
use native.Mathlib.Omega.{arith}
use lib.Dec.{eqb}
use lib.ListN.{length, get_or}
use Rattle.std.specs.List.{count_by}
use Rattle.std.proofs.lemmas.List.Recursion.{is_count_by}
use Rattle.line.specs.Program.{lines_from, lines_of}
use Rattle.wholeinput.specs.Whole.{unended}

-- The lines that end in a part of an input.
ended : List ℕ → ℕ
ended [] = 0
ended (c ∷ cs) = cond (eqb c 0x0A) (1 + ended cs) (ended cs)

-- One more, if a line is begun before it or in it, and not ended.
begun : Bool → List ℕ → ℕ
begun b [] = cond b 1 0
begun b (c ∷ cs) = begun (not (eqb c 0x0A)) cs

-- The lines of a part of an input, from the start of a line and within one.
record Counted (cs : List ℕ) : Type 0 where
  none : length (lines_from [] cs) ≡ ended cs + begun false cs
  some : (x : ℕ) (l : List ℕ) → length (lines_from (x ∷ l) cs) ≡ ended cs + begun true cs

counted : (cs : List ℕ) → Counted cs
unfolding lines_from ended begun
counted [] = record { none = refl; some = λ x l. refl }
counted (c ∷ cs) =
    record { none = none (eqb c 0x0A) (counted cs); some = λ x l. some (eqb c 0x0A) x l (counted cs) }
  where
    none : (b : Bool) → Counted cs
        → length (cond b ([] ∷ lines_from [] cs) (lines_from (c ∷ []) cs))
        ≡ cond b (1 + ended cs) (ended cs) + begun (not b) cs
    none true k = omega (arith, k.none)
    none false k = k.some c []

    some : (b : Bool) (x : ℕ) (l : List ℕ) → Counted cs
        → length (cond b ((x ∷ l) ∷ lines_from [] cs) (lines_from (x ∷ l ++ (c ∷ [])) cs))
        ≡ cond b (1 + ended cs) (ended cs) + begun (not b) cs
    some true x l k = omega (arith, k.none)
    some false x l k = k.some x (l ++ (c ∷ []))

last-begun : (c : ℕ) (cs : List ℕ)
    → begun (not (eqb c 0x0A)) cs ≡ cond (not (eqb (get_or (c ∷ cs) (length cs) 0) 0x0A)) 1 0
unfolding begun
last-begun c [] = refl
last-begun c (d ∷ cs) = last-begun d cs

begun-is : (l : List ℕ) → begun false l ≡ cond (unended l) 1 0
unfolding begun
begun-is [] = refl
begun-is (c ∷ cs) = last-begun c cs

pub lines-are : (input : List ℕ)
    → count_by (λ c. eqb c 0x0A) input + cond (unended input) 1 0 ≡ length (lines_of input)
unfolding ended
lines-are input =
    sym
    ((counted input).none
    ∙ (λ i. is_count_by ended (λ c. eqb c 0x0A) refl (λ x xs. refl) input i + begun-is input i))
