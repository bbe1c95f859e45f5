-- `put_word` meets its contract: the characters are written, and the rest is as it was.
use Rattle.std.proofs.Common.{refl, ap, ◌∙◌, arith, ◌≡◌, ◌+◌, ◌-◌, ◌++◌, List, ℕ, length, take}
use borrow.Rule.Slice.PartMut.{put_mid}
use lib.Seq.{drop-drop}
use Rattle.deskline.specs.Text.{put_at}
use Rattle.deskline.proofs.digits.put_word.Goals as goal

pub returns : goal.returns
unfolding put_at
returns c =
    let a = c.args.at in
    let w = c.args.word.now in
    let out = c.args.out.now in
    let e : a + length w - a ≡ length w = omega arith in (
      refl,
      (λ i. put_mid a (e i) out (c.copy_from_slice.ensures.after i))
          ∙ ap (λ (r : List ℕ). take a out ++ (w ++ r)) (drop-drop (length w) a out),
    )
