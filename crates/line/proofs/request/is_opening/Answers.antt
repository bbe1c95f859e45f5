-- `is_opening` meets its contract: the bytes of a line are asked as the line is.
use Prim.Native.Nat.{ℕ}
use mathlib.Core.List.{List}
use mathlib.Core.Path.{ap, ◌∙◌}
use Rattle.std.specs.Prelude.{is_some}
use Rattle.line.specs.Requests.{is_opening, request_of, requested}
use Rattle.line.proofs.Laws.Openings.{asks}
use Rattle.line.proofs.request.is_opening.Goals as goal

pub returns : goal.returns
unfolding request_of
returns c =
    c.is_some.ensures ∙ ap is_some c.read_frame.ensures ∙ asks _
    ∙ ap (λ (l : List ℕ). is_opening (requested l)) c.decode.ensures
