-- An input of the format before a house's own kinds is answered as it was. The program that answered it differed by
-- the hub as it was then, and by openings that no kinds could follow.
use Rattle.std.specs.Prelude.{ℕ, ◌≡◌, Bool, cond, false, ◌&&◌, List, [], ◌∷◌, ◌++◌, map, eqb, ltb, get_or, length}
use Rattle.hub.specs.declared.record.Hub.{Hub}
use Rattle.hub.specs.Opening.{sized, with_radios}
use Rattle.hub.specs.OwnKinds.{called_before, opening_before}
use Rattle.encoding.specs.Form.{as_text}
use Rattle.line.specs.Program.{Reply, Response, closing, is_open, lines_of, output_of, rendered, reported}
use Rattle.line.specs.Program.{turned_down, unopened}
use Rattle.line.specs.Requests.{Request, malformed, to_open, to_call, frame_size, is_opening, requested, spelled_by}

-- What was behind K and n was nothing, or K radios; any other length was malformed.
unfoldable pub opening_in_before : ℕ → ℕ → ℕ → List ℕ → Request
opening_in_before c k n l =
    cond (eqb c 0x01 && eqb (length l) 0) (to_open (sized k n))
    (cond (eqb c 0x02 && eqb (length l) k) (to_open (with_radios k n l)) malformed)

unfoldable pub requested_before : List ℕ → Request
requested_before [] = malformed
requested_before (c ∷ []) = malformed
requested_before (c ∷ p ∷ []) = requested (c ∷ p ∷ [])
requested_before (c ∷ k ∷ n ∷ l) = opening_in_before c k n l

abbrev pub request_before : List ℕ → Request
request_before l = requested_before (spelled_by l)

-- The responses, by the hub as it was.
unfoldable pub when_open_before : Hub → Request → Response
when_open_before h malformed = turned_down 0xFF 12 h
when_open_before h (to_open o) = turned_down 0xFF 13 h
when_open_before h (to_call c) = reported c.party (called_before h c)

unfoldable pub before_open_before : Request → Response
before_open_before malformed = turned_down 0xFF 12 unopened
before_open_before (to_call c) = turned_down c.party 13 unopened
before_open_before (to_open o) = reported 0xFF (opening_before o)

unfoldable pub respond_before : Hub → Request → Response
respond_before h r = cond (is_open h) (when_open_before h r) (before_open_before r)

unfoldable pub replies_before : Hub → List Request → List Reply
replies_before h [] = []
replies_before h (r ∷ rs) = (respond_before h r).reply ∷ replies_before (respond_before h r).hub rs

unfoldable pub after_before : Hub → List Request → Hub
after_before h [] = h
after_before h (r ∷ rs) = after_before (respond_before h r).hub rs

unfoldable pub output_before : List ℕ → List ℕ
output_before input =
    let rs = map request_before (lines_of input) in
    rendered as_text (replies_before unopened rs) ++ closing (after_before unopened rs)

-- Are the bytes of a line an opening that is followed by kinds?
abbrev pub gives_kinds : List ℕ → Bool
gives_kinds l = is_opening (requested l) && ltb (frame_size (get_or l 0 0) (get_or l 1 0)) (length l)

-- No line of an input gives kinds.
unfoldable pub OldFormat : List (List ℕ) → Type 0
OldFormat [] = Unit {0}
OldFormat (l ∷ ls) = (gives_kinds (spelled_by l) ≡ false) × OldFormat ls

unfoldable pub PrintsAsBefore : Type 0
PrintsAsBefore = (input : List ℕ) → OldFormat (lines_of input) → output_of input ≡ output_before input
