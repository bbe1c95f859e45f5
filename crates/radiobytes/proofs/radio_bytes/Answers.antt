-- `radio_bytes` meets its contract: each part comes after what is written.
use borrow.Author.Rules.{rules}
use Prim.Native.Nat.{◌%◌}
use mathlib.Core.Path.{◌≡◌, refl, sym, ◌∙◌}
use mathlib.Core.List.{[], ◌∷◌}
use native.Mathlib.Omega.{arith}
use lib.ListN.{length, replicate}
use Rattle.cells.proofs.Laws.Cells.{nothing, next, all-written, six}
use Rattle.radiobytes.specs.Written.{hands_shown, in_order, laid_shown}
use Rattle.radiobytes.proofs.Laws.{chosen}
use Rattle.radiobytes.proofs.radio_bytes.Goals as goal

pub returns : goal.returns
returns c =
    let hands : length c.hands_shown.result ≡ 32 = search rules in
    let lying : length c.laid_shown.result ≡ 256 = search rules in
    let stored : length c.in_order.result ≡ 32 = search rules in
    let a = c.args in
    let q = a.pool in
    let radios : length a.opening.radios ≡ 32 = search rules in
    let w1 =
    next 355 (replicate 355 0) 0 1 [] (1 ∷ []) _ _ (nothing 355 _ refl) (omega arith) refl refl
    c.put_bytes_at.ensures in
    let w2 = next 355 _ 1 32 _ _ _ _ w1 (omega arith) refl radios c.put_bytes_at-2.ensures in
    let w3 = next 355 _ 33 32 _ _ _ _ w2 (omega arith) c.hands_shown.ensures hands c.put_bytes_at-3.ensures in
    let w4 = next 355 _ 65 256 _ _ _ _ w3 (omega arith) c.laid_shown.ensures lying c.put_bytes_at-4.ensures in
    let w5 =
    next 355 _ 321 2 _ (0 ∷ q.stored % 256 ∷ []) _ _ w4 (omega arith) refl refl
    c.put_bytes_at-5.ensures in
    let w6 = next 355 _ 323 32 _ _ _ _ w5 (omega arith) c.in_order.ensures stored c.put_bytes_at-6.ensures in
    all-written 355 _ 355 _ w6 (omega arith)
    ∙ six (1 ∷ []) a.opening.radios (hands_shown a.slots q.hands) (laid_shown a.places q.laid)
    (0 ∷ q.stored % 256 ∷ []) (in_order q.store q.first q.stored)
    ∙ sym (chosen _ (replicate 355 0) c.if-not-opening.false)
