-- How long the output is: fifteen characters for each line, and as many for the closing line.
use Prim.Native.Nat.{ℕ, suc, ◌+◌, ◌*◌, ◌≤◌}
use mathlib.Core.Path.{◌≡◌, refl, ◌∙◌}
use mathlib.Core.Bool.{Bool, true, false, cond}
use mathlib.Core.List.{List, [], ◌∷◌, map}
use native.Mathlib.Omega.{arith}
use lib.Dec.{eqb}
use lib.ListN.{length, length-append, length-map}
use Rattle.hub.specs.declared.record.Hub.{Hub}
use Rattle.encoding.specs.Form.{as_text}
use Rattle.line.specs.Program.{unopened, respond, replies, after, rendered, replies_in, closing}
use Rattle.line.specs.Program.{lines_of, output_of}
use Rattle.line.specs.Requests.{Request, request_of}
use Rattle.reader.specs.declared.Reader.{Reader}
use Rattle.reader.specs.Reading.{next, asked}

pub replies-size : (rs : List Request) (h : Hub) → length (replies_in as_text h rs) ≡ 15 * length rs
unfolding replies rendered
replies-size [] h = refl
replies-size (r ∷ rs) h = omega (arith, replies-size rs (respond h r).hub)

pub output-size : (input : List ℕ) → length (output_of input) ≡ 15 * (length (lines_of input) + 1)
unfolding output_of
output-size input =
    let rs = map request_of (lines_of input) in
    length-append (replies_in as_text unopened rs) (closing (after unopened rs))
    ∙ omega (arith, replies-size rs unopened, length-map (lines_of input) request_of)

-- A piece has at least as many characters as lines that end in it.
pub asked-few : (cs : List ℕ) (r : Reader) → length (asked r cs) ≤ length cs
unfolding asked
asked-few [] r = omega arith
asked-few (c ∷ cs) r = go (eqb c 0x0A) _ (asked (next r c) cs) (asked-few cs (next r c))
  where
    go : (b : Bool) (q : Request) (rs : List Request) → length rs ≤ length cs
        → length (cond b (q ∷ rs) rs) ≤ suc (length cs)
    go true q rs m = omega arith
    go false q rs m = omega arith
