-- A buffer in which the w bytes from `at` on were written.
use Prim.Native.Nat.{ℕ, ◌+◌, ◌-◌, ◌≤◌}
use mathlib.Core.Path.{◌≡◌, sym, ap, ◌∙◌}
use mathlib.Core.List.{List, ◌++◌, append_assoc}
use native.Mathlib.Omega.{arith}
use borrow.Rule.Slice.PartMut.{put_mid, Post-is}
use lib.ListN.{length, take, drop, length-append, length-drop}
use lib.Seq.{drop-drop, take_at, drop_at, length-take-le}

module _ (out part : List ℕ) (at w : ℕ) (room : at + w ≤ length out) (size : length part ≡ w) where
  abbrev put : List ℕ
  put = put_mid at (at + w - at) out part

  pub parts : put ≡ (take at out ++ part) ++ drop (at + w) out
  parts =
      ap (λ (r : List ℕ). take at out ++ (part ++ r)) (Post-is at (at + w) out (omega arith))
      ∙ sym (append_assoc (take at out) part (drop (at + w) out))

  before : length (take at out ++ part) ≡ at + w
  before = simp length-append (omega (arith, length-take-le at out (omega arith)))

  pub put-length : length put ≡ length out
  put-length =
      ap length parts
      ∙ simp (length-append, length-drop)
      (omega (arith, length-take-le at out (omega arith)))

  pub put-take : take (at + w) put ≡ take at out ++ part
  put-take = ap (take (at + w)) parts ∙ take_at _ (drop (at + w) out) (at + w) before

  pub put-drop : drop (at + w) put ≡ drop w (drop at out)
  put-drop =
      ap (drop (at + w)) parts
      ∙ drop_at (take at out ++ part) _ (at + w) before
      ∙ sym (drop-drop w at out)
