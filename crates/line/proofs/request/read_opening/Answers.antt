-- `read_opening` meets its contract: the bytes of a line are asked as the line is.
use Prim.Native.Nat.{ℕ}
use mathlib.Core.List.{List}
use mathlib.Core.Path.{ap, ◌∙◌}
use Rattle.line.specs.Requests.{is_opening, request_of, requested}
use Rattle.line.proofs.request.read_opening.Goals as goal

pub opening_in-requires : goal.opening_in-requires
unfolding request_of
opening_in-requires c = ap (λ (l : List ℕ). is_opening (requested l)) c.decode.ensures ∙ c.requires

pub returns : goal.returns
unfolding request_of
returns c = c.opening_in.ensures ∙ ap requested c.decode.ensures
