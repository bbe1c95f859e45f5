-- `record_bytes` meets its contract: each part comes after what is written.
use borrow.Author.Rules.{rules}
use mathlib.Core.Path.{◌≡◌, refl, ◌∙◌}
use mathlib.Core.List.{[]}
use native.Mathlib.Omega.{arith}
use lib.ListN.{length, replicate}
use Rattle.cells.specs.Places.{place_bytes}
use Rattle.cells.proofs.Laws.Cells.{nothing, next, all-written, six}
use Rattle.radiobytes.specs.Written.{radio_bytes}
use Rattle.layout.specs.Written.{figure_bytes, mark_bytes, phase_bytes}
use Rattle.layout.proofs.record_bytes.Goals as goal

pub returns : goal.returns
returns c =
    let radio-size : length c.radio_bytes-radios.result ≡ 355 = search rules in
    let phase-size : length c.phase_bytes.result ≡ 160 = search rules in
    let place-size : length c.place_bytes.result ≡ 1280 = search rules in
    let figure-size : length c.figure_bytes.result ≡ 22 = search rules in
    let mark-size : length c.marks_of.result ≡ 32 = search rules in
    let h = c.args.hub in
    let kind-size : length h.control.opening.kinds ≡ 32 = search rules in
    let w1 =
    next 1881 (replicate 1881 0) 0 22 [] _ _ _ (nothing 1881 _ refl) (omega arith)
    c.figure_bytes.ensures figure-size c.put_bytes_at.ensures in
    let w2 =
    next 1881 _ 22 1280 _ _ _ _ w1 (omega arith) c.place_bytes.ensures place-size
    c.put_bytes_at-2.ensures in
    let w3 =
    next 1881 _ 1302 160 _ _ _ _ w2 (omega arith) c.phase_bytes.ensures phase-size
    c.put_bytes_at-3.ensures in
    let w4 =
    next 1881 _ 1462 355 _ _ _ _ w3 (omega arith) c.radio_bytes-radios.ensures radio-size
    c.put_bytes_at-4.ensures in
    let w5 = next 1881 _ 1817 32 _ _ _ _ w4 (omega arith) c.marks_of.ensures mark-size c.put_bytes_at-5.ensures in
    let w6 = next 1881 _ 1849 32 _ _ _ _ w5 (omega arith) refl kind-size c.put_bytes_at-6.ensures in
    all-written 1881 _ 1881 _ w6 (omega arith) ∙ six (figure_bytes h) (place_bytes h.places) (phase_bytes h.slots)
    (radio_bytes h.control.opening h.slots h.places h.control.pool) (mark_bytes h.slots) h.control.opening.kinds
