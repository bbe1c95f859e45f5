-- `answer_input` meets its contract: there is room for fifteen characters a line, or there is not.
use native.Mathlib.Omega.{arith}
use Rattle.wholeinput.proofs.Laws.Whole.{none_written, enough, all-written}
use Rattle.wholeinput.proofs.whole.answer_input.Goals as goal

pub returns-then-out-lines : goal.returns-then-out-lines
returns-then-out-lines c =
    let n = c in
    let a = n.args in
    none_written a.input.now a.out.now n.count_lines-lines.result n.count_lines-lines.ensures c.if-out-lines.true

pub write_output-requires : goal.write_output-requires
write_output-requires c =
    let e = c in
    let n = e in
    let a = n.args in record { in_bounds = omega arith; input_in_bounds = enough a.input.now a.out.now n.count_lines-lines.result n.count_lines-lines.ensures e.if-out-lines.false }

pub returns : goal.returns
returns c =
    let w = c in
    let e = w in
    let n = e in
    let a = n.args in
    all-written a.input.now a.out.now n.count_lines-lines.result n.count_lines-lines.ensures
    e.if-out-lines.false _ w.write_output.ensures
