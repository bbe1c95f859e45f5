-- Those that wait, in the queue's bytes: where one stands, who joins, and who leaves.
use Prim.Native.Nat.{ℕ, zero, suc, ◌+◌, ◌-◌, ◌≤◌, ◌<◌}
use mathlib.Core.Path.{◌≡◌, refl, sym, ap, ◌∙◌}
use mathlib.Core.Bool.{Bool, true, false, cond, ◌||◌}
use mathlib.Core.List.{List, [], ◌∷◌, ◌++◌}
use native.Mathlib.Decide.{dec_le}
use native.Mathlib.Omega.{arith}
use borrow.Author.Tests.{lt-ltb, le-ltb}
use lib.Dec.{eqb, ltb}
use lib.ListN.{length, get_or, set, take, drop, replicate, length-append, length-set}
use lib.ListN.{get_or-append, get_or-eq_default}
use lib.Seq.{ext_get_or, get_or-append-add, get_or-drop, get_or-set_other, get_or-set_same, get_or-take}
use lib.Seq.{length-take-le}
use Rattle.std.specs.List.{CopiedTo, SameBelow, SameFrom}
use Rattle.hub.specs.Basics.{among}
use Rattle.hub.specs.Radios.{padded}
use Rattle.hub.proofs.Laws.Radios.{padded-length}
use Rattle.screen.specs.Line.{place_of}
use Rattle.screen.specs.Moves.{without}

-- Who has a place is among them, and leaves it.
pub place-among : (w : List ℕ) (x : ℕ) → among w x ≡ ltb (place_of x w) (length w)
unfolding place_of
place-among [] x = refl
place-among (y ∷ w) x = go (eqb x y) (place-among w x)
  where
    go : (b : Bool) → among w x ≡ ltb (place_of x w) (length w)
        → b || among w x ≡ ltb (cond b 0 (suc (place_of x w))) (suc (length w))
    go true e = sym (lt-ltb 0 (suc (length w)) (omega arith))
    go false e = e ∙ later (dec_le (suc (place_of x w)) (length w))
      where
        later : Dec (place_of x w < length w) → ltb (place_of x w) (length w) ≡ ltb (suc (place_of x w)) (suc (length w))
        later (yes h) = lt-ltb _ _ h ∙ sym (lt-ltb (suc (place_of x w)) (suc (length w)) (omega arith))
        later (no h) =
            le-ltb (place_of x w) (length w) (omega arith)
            ∙ sym (le-ltb (suc (place_of x w)) (suc (length w)) (omega arith))

pub place-left : (w : List ℕ) (x : ℕ) → without x w ≡ take (place_of x w) w ++ drop (suc (place_of x w)) w
unfolding place_of without
place-left [] x = refl
place-left (y ∷ w) x = go (eqb x y) (place-left w x)
  where
    go : (b : Bool) → without x w ≡ take (place_of x w) w ++ drop (suc (place_of x w)) w
        → cond b w (y ∷ without x w)
        ≡ (let i = cond b 0 (suc (place_of x w)) in take i (y ∷ w) ++ drop (suc i) (y ∷ w))
    go true e = refl
    go false e = ap (λ (l : List ℕ). y ∷ l) e

-- The queue's bytes, one by one.
zero-at : (n i : ℕ) → ◌≡◌ {A = ℕ} (get_or (replicate n 0) i 0) 0
zero-at zero i = refl
zero-at (suc n) zero = refl
zero-at (suc n) (suc i) = zero-at n i

zeros-behind : (w : List ℕ) (n i : ℕ) → get_or (w ++ replicate n 0) i 0 ≡ get_or w i 0
zeros-behind [] n i = zero-at n i
zeros-behind (x ∷ w) n zero = refl
zeros-behind (x ∷ w) n (suc i) = zeros-behind w n i

pub padded-at : (w : List ℕ) (i : ℕ) → i < 32 → get_or (padded w) i 0 ≡ get_or w i 0
unfolding padded
padded-at w i h = get_or-take 32 (w ++ replicate 32 0) i 0 h ∙ zeros-behind w 32 i

-- Of a queue q where n wait, the one at a place leaves: those behind it have moved up as far as the i-th.
pub record Shifted (q : List ℕ) (n at : ℕ) (v : List ℕ) (i : ℕ) : Type 0 where
  pub size : length v ≡ 32
  pub short : n ≤ 32
  pub from : at ≤ i
  pub within : i < n
  pub before : (j : ℕ) → j < at → get_or v j 0 ≡ get_or q j 0
  pub up : (j : ℕ) → at ≤ j → j < i → get_or v j 0 ≡ get_or q (suc j) 0
  pub after : (j : ℕ) → i ≤ j → get_or v j 0 ≡ get_or q j 0

pub shifted : (q v : List ℕ) (n at : ℕ) → length v ≡ 32 → n ≤ 32 → at < n
    → CopiedTo q v (at + 1) at (n - (at + 1)) → SameBelow q v at → SameFrom q v (at + (n - (at + 1)))
    → Shifted q n at v (n - 1)
shifted q v n at size short h copied below behind =
    record {
      size = size;
      short = short;
      from = omega arith;
      within = omega arith;
      before = λ j k. below j 0 k;
      up = λ j a b.
          let e : at + 1 + (j - at) ≡ suc j = omega arith in
          copied j 0 a (omega arith) ∙ ap (λ (z : ℕ). get_or q z 0) e;
      after = λ j k. behind j 0 (omega arith);
    }

-- A queue q, whose bytes from the n-th on are 0.
module _ (q : List ℕ) (n : ℕ) (size : length q ≡ 32) (short : n ≤ 32)
    (rest : (i : ℕ) → n ≤ i → get_or q i 0 ≡ 0) where
  pub taken-length : length (take n q) ≡ n
  taken-length = length-take-le n q (omega arith)

  pub taken_at : (i : ℕ) → get_or (take n q) i 0 ≡ get_or q i 0
  taken_at i = go (dec_le (suc i) n)
    where
      go : Dec (i < n) → get_or (take n q) i 0 ≡ get_or q i 0
      go (yes h) = get_or-take n q i 0 h
      go (no h) =
          get_or-eq_default (take n q) 0 {n = i} (omega (arith, taken-length)) ∙ sym (rest i (omega arith))

  same : (w v : List ℕ) → length v ≡ 32 → ((i : ℕ) → i < 32 → get_or v i 0 ≡ get_or w i 0) → v ≡ padded w
  same w v s h =
      ext_get_or 0 v (padded w) (s ∙ sym (padded-length w))
      (λ i j. h i (omega arith) ∙ sym (padded-at w i (omega arith)))

  pub untouched : q ≡ padded (take n q)
  untouched = same (take n q) q size (λ i h. sym (taken_at i))

  -- One joins behind them.
  pub joined : (x : ℕ) → n < 32 → set q n x ≡ padded (take n q ++ (x ∷ []))
  joined x h = same _ (set q n x) (length-set q n x ∙ size) (λ i j. go i (dec_le (suc i) n) (dec_le (suc n) i))
    where
      go : (i : ℕ) → Dec (i < n) → Dec (n < i) → get_or (set q n x) i 0 ≡ get_or (take n q ++ (x ∷ [])) i 0
      go i (yes j) k =
          get_or-set_other q n i x 0 (λ e. omega arith) ∙ sym (taken_at i)
          ∙ sym (get_or-append (take n q) (x ∷ []) 0 i (omega (arith, taken-length)))
      go i (no j) (yes k) =
          get_or-set_other q n i x 0 (λ e. omega arith) ∙ rest i (omega arith)
          ∙ sym (get_or-eq_default (take n q ++ (x ∷ [])) 0 {n = i}
          (omega (arith, taken-length, length-append (take n q) (x ∷ []))))
      go i (no j) (no k) =
          let e : i ≡ n = omega arith in
          let f : length (take n q) + 0 ≡ n = omega (arith, taken-length) in
          ap (λ (z : ℕ). get_or (set q n x) z 0) e
          ∙ get_or-set_same q n x 0 (omega arith)
          ∙ sym (get_or-append-add (take n q) (x ∷ []) 0 0)
          ∙ ap (λ (z : ℕ). get_or (take n q ++ (x ∷ [])) z 0) (f ∙ sym e)

  -- One leaves.
  pub left : (at : ℕ) (v : List ℕ) (i last : ℕ) → Shifted q n at v i → last ≤ i → suc last ≡ n
      → set v last 0 ≡ padded (take at (take n q) ++ drop (suc at) (take n q))
  left at v i last s h e =
      same _ (set v last 0) (length-set v last 0 ∙ s.size)
      (λ j k. go j (dec_le (suc j) at) (dec_le (suc j) last) (dec_le (suc last) j))
    where
      w : List ℕ
      w = take n q

      front : length (take at w) ≡ at
      front = length-take-le at w (omega (arith, taken-length, s.from, s.within))

      ahead : (j : ℕ) → j < at → get_or (take at w ++ drop (suc at) w) j 0 ≡ get_or q j 0
      ahead j k =
          get_or-append (take at w) (drop (suc at) w) 0 j (omega (arith, front))
          ∙ get_or-take at w j 0 k ∙ taken_at j

      behind : (j : ℕ) → at ≤ j → get_or (take at w ++ drop (suc at) w) j 0 ≡ get_or q (suc j) 0
      behind j k =
          let f : length (take at w) + (j - at) ≡ j = omega (arith, front) in
          let g : suc at + (j - at) ≡ suc j = omega arith in
          ap (λ (z : ℕ). get_or (take at w ++ drop (suc at) w) z 0) (sym f)
          ∙ get_or-append-add (take at w) (drop (suc at) w) (j - at) 0
          ∙ get_or-drop (suc at) w (j - at) 0
          ∙ ap (λ (z : ℕ). get_or w z 0) g ∙ taken_at (suc j)

      go : (j : ℕ) → Dec (j < at) → Dec (j < last) → Dec (last < j)
          → get_or (set v last 0) j 0 ≡ get_or (take at w ++ drop (suc at) w) j 0
      go j (yes a) b d =
          get_or-set_other v last j 0 0 (λ z. omega (arith, s.from, s.within)) ∙ s.before j a ∙ sym (ahead j a)
      go j (no a) (yes b) d =
          get_or-set_other v last j 0 0 (λ z. omega arith) ∙ s.up j (omega arith) (omega arith)
          ∙ sym (behind j (omega arith))
      go j (no a) (no b) (yes d) =
          get_or-set_other v last j 0 0 (λ z. omega arith)
          ∙ s.after j (omega (arith, s.within)) ∙ rest j (omega arith) ∙ sym (rest (suc j) (omega arith))
          ∙ sym (behind j (omega arith))
      go j (no a) (no b) (no d) =
          let f : j ≡ last = omega arith in
          ap (λ (z : ℕ). get_or (set v last 0) z 0) f
          ∙ get_or-set_same v last 0 0 (omega (arith, s.size, s.within))
          ∙ sym (rest (suc j) (omega arith)) ∙ sym (behind j (omega arith))
