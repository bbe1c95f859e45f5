-- Texts written one behind the other.
use Prim.Native.Nat.{ℕ, suc, ◌+◌, ◌≤◌, ◌<◌}
use mathlib.Core.Path.{◌≡◌, sym, ap, subst, ◌∙◌}
use mathlib.Core.List.{List, [], ◌∷◌, ◌++◌, append_assoc}
use native.Mathlib.Omega.{arith}
use lib.ListN.{length, take, drop, set, length-append, length-drop, take-append-drop}
use lib.Seq.{drop_at, drop-drop, length-take-le, set_split, take_at}
use Rattle.deskline.specs.Text.{put_at}

pub put-at-one : (out : List ℕ) (at c : ℕ) → at < length out → set out at c ≡ put_at at (c ∷ []) out
unfolding put_at
put-at-one out at c h =
    let e : suc at ≡ at + 1 = omega arith in
    set_split out at c h ∙ ap (λ (n : ℕ). take at out ++ c ∷ drop n out) e

pub put-at-length : (out t : List ℕ) (at : ℕ) → at + length t ≤ length out → length (put_at at t out) ≡ length out
unfolding put_at
put-at-length out t at h =
    omega (
      arith,
      length-append (take at out) (t ++ drop (at + length t) out),
      length-append t (drop (at + length t) out),
      length-take-le at out (omega arith),
      length-drop (at + length t) out,
    )

pub put-at-none : (out : List ℕ) (at : ℕ) → put_at at [] out ≡ out
unfolding put_at
put-at-none out at =
    let e : at + 0 ≡ at = omega arith in
    ap (λ (n : ℕ). take at out ++ drop n out) e ∙ take-append-drop at out

pub put-at-more : (out t u : List ℕ) (at : ℕ) → at + length t + length u ≤ length out
    → put_at (at + length t) u (put_at at t out) ≡ put_at at (t ++ u) out
unfolding put_at
put-at-more out t u at h =
    let n = at + length t in
    let d = drop n out in
    let a : length (take at out ++ t) ≡ n =
    length-append (take at out) t ∙ ap (λ (k : ℕ). k + length t) (length-take-le at out (omega arith)) in
    let x : take at out ++ (t ++ d) ≡ (take at out ++ t) ++ d = sym (append_assoc (take at out) t d) in
    let e : n + length u ≡ at + length (t ++ u) = omega (arith, length-append t u) in
    (λ i. take n (x i) ++ (u ++ drop (n + length u) (x i)))
    ∙ (λ i. take_at (take at out ++ t) d n a i ++ (u ++ drop (n + length u) ((take at out ++ t) ++ d)))
    ∙ ap (λ (l : List ℕ). (take at out ++ t) ++ (u ++ l))
    (sym (drop-drop (length u) n ((take at out ++ t) ++ d))
    ∙ ap (drop (length u)) (drop_at (take at out ++ t) d n a)
    ∙ drop-drop (length u) n out
    ∙ ap (λ (k : ℕ). drop k out) e)
    ∙ append_assoc (take at out) t _
    ∙ ap (λ (l : List ℕ). take at out ++ l) (sym (append_assoc t u _))

-- A text t stands at a place of what was out₀, and the next goes to the end.
pub record Written (at : ℕ) (t out₀ : List ℕ) (end : ℕ) (out : List ℕ) : Type 0 where
  pub past : end ≡ at + length t
  pub same : out ≡ put_at at t out₀
  pub room : at + length t ≤ length out₀

pub none : (at : ℕ) (out : List ℕ) → at ≤ length out → Written at [] out at out
none at out h = record { past = omega arith; same = sym (put-at-none out at); room = omega arith }

pub first : {at end : ℕ} {out₀ out : List ℕ} (u : List ℕ) → end ≡ at + length u → out ≡ put_at at u out₀
    → at + length u ≤ length out₀ → Written at u out₀ end out
first u e f h = record { past = e; same = f; room = h }

pub next : {at end end' : ℕ} {t out₀ out out' : List ℕ} → Written at t out₀ end out → (u : List ℕ)
    → end' ≡ end + length u → out' ≡ put_at end u out → end + length u ≤ length out₀
    → Written at (t ++ u) out₀ end' out'
next {at} {end} {end'} {t} {out₀} {out} {out'} w u e f h =
    record {
      past = omega (arith, w.past, length-append t u);
      same =
          f ∙ (λ i. put_at (w.past i) u (w.same i))
          ∙ put-at-more out₀ t u at (omega (arith, w.past));
      room = omega (arith, w.past, length-append t u);
    }

pub gives : {at end : ℕ} {t out₀ out : List ℕ} → Written at t out₀ end out
    → (end ≡ at + length t) × (out ≡ put_at at t out₀)
gives w = (w.past, w.same)

pub text-is : {at end : ℕ} {t u out₀ out : List ℕ} → t ≡ u → Written at t out₀ end out → Written at u out₀ end out
text-is {at} {end} {t} {u} {out₀} {out} e w = subst (λ (x : List ℕ). Written at x out₀ end out) e w

-- From the start of the buffer on.
pub from_start : (out t : List ℕ) → put_at 0 t out ≡ t ++ drop (length t) out
unfolding put_at
from_start out t = let e : 0 + length t ≡ length t = omega arith in ap (λ (n : ℕ). t ++ drop n out) e
