-- The frame of an opening: behind K and n are its radios and its kinds.
use Prim.Native.Nat.{ℕ, ◌+◌, ◌-◌, ◌≤◌, ◌<◌, min}
use mathlib.Core.Path.{◌≡◌, refl, sym, ap, ◌∙◌}
use mathlib.Core.Bool.{Bool, true, false, cond, ◌&&◌}
use mathlib.Core.List.{List, [], ◌∷◌, ◌++◌, append-nil}
use native.Mathlib.Decide.{dec_le}
use native.Mathlib.Omega.{arith}
use borrow.Author.Tests.{eq-eqb, ne_eqb, eqb-true, le-leb, lt-leb}
use lib.Dec.{eqb, leb}
use lib.ListN.{length, get_or, take, drop, replicate}
use lib.Seq.{take_all, take-append-le, take-append-add}
use Rattle.std.specs.Prelude.{Option, Some, None, is_some, IsSome}
use Rattle.std.proofs.lemmas.List.{drop-replicate, take-replicate}
use Rattle.hub.specs.declared.opening.Opening.{Opening}
use Rattle.hub.specs.Kinds.{built_in}
use Rattle.hub.specs.Opening.{with_kinds}
use Rattle.hub.specs.Radios.{STORE, padded}
use Rattle.hub.proofs.Laws.Radios.{padded-same}
use Rattle.line.specs.Requests.{given_kinds, opening_in, requested, opening_asked, radios_given}
use Rattle.line.specs.Requests.{Request, malformed, to_open, to_call, is_opening}
use Rattle.hub.specs.declared.moves.Call.{Call}
use Rattle.encoding.specs.Frame.{is_call}

-- A request is an opening if it asks for one.
pub asks : (q : Request) → is_some (opening_asked q) ≡ is_opening q
asks malformed = refl
asks (to_open o) = refl
asks (to_call c) = refl

pub asked-some : (q : Request) (r : Option Opening) → r ≡ opening_asked q → is_opening q ≡ true → IsSome r
asked-some q r e t = ap is_some e ∙ asks q ∙ t

pub asked-back : (q : Request) (o : Opening) → Some o ≡ opening_asked q → to_open o ≡ q
asked-back malformed o e = absurd (cc)
asked-back (to_open p) o e = ap to_open cc
asked-back (to_call c) o e = absurd (cc)

-- Fewer than three bytes are no opening.
pub short : (l : List ℕ) → length l < 3 → None ≡ opening_asked (requested l)
unfolding requested
short [] m = refl
short (c ∷ []) m = refl
short (c ∷ p ∷ []) m = go (is_call c) _
  where
    go : (b : Bool) (x : Call) → None ≡ opening_asked (cond b (to_call x) malformed)
    go true x = refl
    go false x = refl
short (c ∷ k ∷ n ∷ l) m = absurd (omega arith)

-- Three are its code, K and n.
pub in_front : (l : List ℕ) → 3 ≤ length l
    → opening_in (get_or l 0 0) (get_or l 1 0) (get_or l 2 0) (drop 3 l) ≡ requested l
unfolding requested
in_front [] m = absurd (omega arith)
in_front (c ∷ []) m = absurd (omega arith)
in_front (c ∷ k ∷ []) m = absurd (omega arith)
in_front (c ∷ k ∷ n ∷ l) m = refl

-- What they say of the bytes behind them.
module _ (c k n : ℕ) (l : List ℕ) where
  abbrev asked : Option Opening
  asked = opening_asked (opening_in c k n l)

  pub no-code : radios_given c k ≡ None → None ≡ asked
  unfolding opening_in
  no-code = go (eqb c 0x01) (eqb c 0x02) _ _
    where
      go : (a b : Bool) (o p : Opening) → cond a (Some 0) (cond b (Some k) None) ≡ None
          → None ≡ opening_asked (cond a (to_open o) (cond (b && leb k (length l)) (to_open p) malformed))
      go true b o p e = absurd (cc)
      go false true o p e = absurd (cc)
      go false false o p e = refl

  module _ (g : ℕ) (given : radios_given c k ≡ Some g) where
    pub too-few : length l < g → None ≡ asked
    unfolding opening_in
    too-few m = go (eqb c 0x01) (eqb c 0x02) _ _ given
      where
        go : (a b : Bool) (o p : Opening) → cond a (Some 0) (cond b (Some k) None) ≡ Some g
            → None ≡ opening_asked (cond a (to_open o) (cond (b && leb k (length l)) (to_open p) malformed))
        go true b o p e = let z : 0 ≡ g = cc in absurd (omega arith)
        go false true o p e = let z : k ≡ g = cc in rw (lt-leb k (length l) (omega arith)) refl
        go false false o p e = absurd (cc)

    pub enough : g ≤ length l
        → Some
        (given_kinds (drop g l)
        (record {
          permits = k;
          parties = n;
          named = eqb c 0x02;
          radios = padded (take g l);
          kinds = built_in;
          counted = true;
        }))
        ≡ asked
    unfolding opening_in padded
    enough m = go (eqb c 0x01) refl (eqb c 0x02) refl given
      where
        own : Bool → List ℕ → Opening
        own b rs =
            record { permits = k; parties = n; named = b; radios = padded rs; kinds = built_in; counted = true }

        go : (a : Bool) → eqb c 0x01 ≡ a → (b : Bool) → eqb c 0x02 ≡ b
            → cond a (Some 0) (cond b (Some k) None) ≡ Some g
            → Some (given_kinds (drop g l) (own b (take g l)))
            ≡ opening_asked
            (cond a (to_open (given_kinds l (own false [])))
            (cond (b && leb k (length l)) (to_open (given_kinds (drop k l) (own true (take k l)))) malformed))
        go true e true f h = absurd (omega (arith, eqb-true c 1 e, eqb-true c 2 f))
        go true e false f h =
            let z : g ≡ 0 = cc in (λ i. Some (given_kinds (drop (z i) l) (own false (take (z i) l))))
        go false e true f h =
            let z : g ≡ k = cc in
            (λ i. Some (given_kinds (drop (z i) l) (own true (take (z i) l))))
            ∙ rw (le-leb k (length l) (omega arith)) refl
        go false e false f h = absurd (cc)

-- An opening that is given kinds, by their number.
module _ (ks : List ℕ) (o : Opening) where
  abbrev pub kept : List ℕ → Bool → Opening
  kept l b =
      record {
        permits = o.permits;
        parties = o.parties;
        named = o.named;
        radios = o.radios;
        kinds = l;
        counted = b;
      }

  pub given-none : length ks ≡ 0 → o ≡ given_kinds ks o
  unfolding given_kinds
  given-none = go ks
    where
      go : (l : List ℕ) → length l ≡ 0 → o ≡ given_kinds l o
      go [] e = refl
      go (k ∷ l) e = absurd (omega (arith, e))

  given-some : (length ks ≡ 0 → ⊥) → with_kinds ks o ≡ given_kinds ks o
  unfolding given_kinds
  given-some = go ks
    where
      go : (l : List ℕ) → (length l ≡ 0 → ⊥) → with_kinds l o ≡ given_kinds l o
      go [] f = absurd (f refl)
      go (k ∷ l) f = refl

  by_number : (b : Bool) → eqb (length ks) 32 ≡ b → with_kinds ks o ≡ kept (cond b ks built_in) b
  by_number b e = ap (λ (b : Bool). kept (cond b ks built_in) b) e

  module _ (f : length ks ≡ 0 → ⊥) (l : List ℕ) where
    pub miscounted : (length ks ≡ 32 → ⊥) → l ≡ built_in → kept l false ≡ given_kinds ks o
    miscounted n e =
        ap (λ (l : List ℕ). kept l false) e ∙ sym (by_number false (ne_eqb (length ks) 32 n)) ∙ given-some f

    pub whole : length ks ≡ 32 → l ≡ padded ks → kept l true ≡ given_kinds ks o
    whole n e =
        ap (λ (l : List ℕ). kept l true) (e ∙ padded-same ks n)
        ∙ sym (by_number true (eq-eqb (length ks) 32 n)) ∙ given-some f

-- The first n of a list, or all of it and 0 behind.
filled : (n : ℕ) (m : List ℕ) (k : ℕ) → k ≡ min (length m) n
    → take k m ++ drop k (replicate n 0) ≡ take n (m ++ replicate n 0)
filled n m k e = go (dec_le n (length m))
  where
    go : Dec (n ≤ length m) → take k m ++ drop k (replicate n 0) ≡ take n (m ++ replicate n 0)
    go (yes h) =
        let z : k ≡ n = omega (arith, e) in
        let none : n - k ≡ 0 = omega (arith, z) in
        (λ i. take (z i) m ++ (drop-replicate k n 0 ∙ ap (λ (j : ℕ). replicate j 0) none) i)
        ∙ append-nil (take n m)
        ∙ sym (take-append-le n m (replicate n 0) h)
    go (no h) =
        let z : n ≡ length m + (n - k) = omega (arith, e) in
        (λ i. take_all k m (omega (arith, e)) i ++ drop-replicate k n 0 i)
        ∙ ap (λ (l : List ℕ). m ++ l) (sym (take-replicate (n - k) n 0 (omega arith)))
        ∙ sym (take-append-add m (replicate n 0) (n - k))
        ∙ ap (λ (j : ℕ). take j (m ++ replicate n 0)) (sym z)

pub copied : (m : List ℕ) (k : ℕ) → k ≡ min (length m) STORE → take k m ++ drop k (replicate STORE 0) ≡ padded m
unfolding padded
copied = filled STORE
