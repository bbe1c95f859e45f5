-- `read_piece` meets its contract: what is read and what is still to come are the whole.
use Rattle.std.proofs.Common.{◌≤◌, length}
use Rattle.reader.proofs.Laws.Pieces.{OneCall, Upto, left_by}
use Rattle.reader.proofs.read_piece.Given as goal

abbrev pub invariant-loop-rest-2 : goal.invariant-loop-rest-2
invariant-loop-rest-2 l = record {
  upto : Upto l.fn.reader l.fn.piece l.fn.requests (left_by l.last l.line) l.requests l.count l.rest;
  one : OneCall l.last;
  behind : length l.rest ≤ length l.initial.rest;
}

abbrev pub decreases-loop-rest-2 : goal.decreases-loop-rest-2
decreases-loop-rest-2 l = length l.rest

abbrev pub invariant-loop-rest : goal.invariant-loop-rest
invariant-loop-rest l =
    Upto l.fn.reader l.fn.piece l.fn.requests (record { line = l.line; len = l.len }) l.requests l.count l.rest

abbrev pub decreases-loop-rest : goal.decreases-loop-rest
decreases-loop-rest l = length l.rest
