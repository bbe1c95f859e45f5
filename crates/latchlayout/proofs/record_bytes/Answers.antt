-- `record_bytes` meets its contract: each part comes after what is written.
use borrow.Author.Rules.{rules}
use mathlib.Core.Path.{◌≡◌, refl, ◌∙◌}
use mathlib.Core.List.{List, [], ◌++◌, append_assoc}
use Prim.Native.Nat.{ℕ}
use native.Mathlib.Omega.{arith}
use lib.ListN.{length, replicate}
use Rattle.cells.specs.Places.{place_bytes}
use Rattle.cells.proofs.Laws.Cells.{nothing, next, all-written}
use Rattle.latchlayout.specs.Written.{figure_bytes, left_bytes, mark_bytes, phase_bytes}
use Rattle.latchlayout.proofs.record_bytes.Goals as goal

five : (a b c d e : List ℕ) → (((([] ++ a) ++ b) ++ c) ++ d) ++ e ≡ a ++ b ++ c ++ d ++ e
five a b c d e = simp append_assoc

pub returns : goal.returns
returns c =
    let h = c.args.latch in
    let figure-size : length c.figure_bytes.result ≡ 19 = search rules in
    let place-size : length c.place_bytes.result ≡ 1280 = search rules in
    let phase-size : length c.phase_bytes.result ≡ 160 = search rules in
    let left-size : length c.lefts_of.result ≡ 32 = search rules in
    let mark-size : length c.marks_of.result ≡ 32 = search rules in
    let w1 =
    next 1523 (replicate 1523 0) 0 19 [] _ _ _ (nothing 1523 _ refl) (omega arith)
    c.figure_bytes.ensures figure-size c.put_bytes_at.ensures in
    let w2 =
    next 1523 _ 19 1280 _ _ _ _ w1 (omega arith) c.place_bytes.ensures place-size
    c.put_bytes_at-2.ensures in
    let w3 =
    next 1523 _ 1299 160 _ _ _ _ w2 (omega arith) c.phase_bytes.ensures phase-size
    c.put_bytes_at-3.ensures in
    let w4 = next 1523 _ 1459 32 _ _ _ _ w3 (omega arith) c.lefts_of.ensures left-size c.put_bytes_at-4.ensures in
    let w5 = next 1523 _ 1491 32 _ _ _ _ w4 (omega arith) c.marks_of.ensures mark-size c.put_bytes_at-5.ensures in
    all-written 1523 _ 1523 _ w5 (omega arith)
    ∙ five (figure_bytes h) (place_bytes h.places) (phase_bytes h.slots) (left_bytes h.slots) (mark_bytes h.slots)
