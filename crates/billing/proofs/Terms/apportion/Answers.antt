-- `apportion` meets its contract: from any turn on the shares of the parties passed are worked out.
use Prim.Native.Nat.{ℕ, ◌+◌, ◌≤◌}
use mathlib.Core.Path.{◌≡◌, ap, ◌∙◌}
use mathlib.Core.List.{List}
use native.Mathlib.Omega.{arith}
use lib.Dec.{ltb}
use lib.ListN.{length, set, take, length-take}
use Rattle.hub.specs.Basics.{bit}
use Rattle.billing.proofs.Laws.Sums.{bit-most, bit-of}
use Rattle.billing.specs.Portions.{cents_at}
use Rattle.billing.specs.Sharing.{up_to, share}
use Rattle.billing.proofs.Laws.Shares.{handed, cents-most, handed-shares}
use Rattle.billing.proofs.Laws.Tables.{up-to-none, up-to-more, up-to-same}
use Rattle.billing.proofs.Terms.apportion.Goals as goal

pub loop-p-init : goal.loop-p-init
loop-p-init c = up-to-none _

pub overflow_add-shares : goal.overflow_add-shares
overflow_add-shares c =
    let each = c.divide-left.result.each in
    omega (
      arith,
      c.from.ensures ∙ bit-of _,
      bit-most (ltb c.rank.result c.divide-left.result.left),
      cents-most c.requires each (omega (arith, c.requires.parties)) c.divide-left.ensures.cents
          c.loop-p.p (omega (arith, length-take c.args.self.now.parties each)),
    )

pub loop-p-preserved : goal.loop-p-preserved
loop-p-preserved c =
    let left = c.divide-left.result.left in
    let n = c.args.self.now.parties in
    let p = c.loop-p.p in
    let portions = take n c.divide-left.result.each in
    let v = cents_at portions p + c.from.result in
    ap (λ (s : List ℕ). set s p v) c.loop-p.invariant
    ∙ up-to-more (handed portions left) p v (omega (arith, length-take n c.divide-left.result.each, c.requires.parties))
    (ap (λ (x : ℕ). cents_at portions p + x)
    (c.from.ensures ∙ bit-of _ ∙ ap (λ (k : ℕ). bit (ltb k left)) c.rank.ensures))

pub returns : goal.returns
returns c =
    let d = c.divide-left in
    let t = c.args.self.now in
    let long : t.parties ≤ length d.result.each = omega (arith, c.requires.parties) in
    let e : c.loop-p.p ≡ t.parties = omega (arith, length-take t.parties d.result.each) in
    c.loop-p.invariant
    ∙ ap (λ (k : ℕ). up_to k (handed (take t.parties d.result.each) d.result.left)) e
    ∙ up-to-same t.parties (handed (take t.parties d.result.each) d.result.left) (share t)
    (handed-shares c.requires d.result.each long d.ensures.cents d.ensures.remainders d.ensures.left)
