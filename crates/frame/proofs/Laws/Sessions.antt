-- Pieces one after the other are the whole input.
use Prim.Native.Nat.{ℕ}
use mathlib.Core.Path.{◌≡◌, refl, sym, ap, ◌∙◌}
use mathlib.Core.List.{List, [], ◌∷◌, ◌++◌, map, append_assoc}
use native.Mathlib.Omega.{arith}
use lib.ListN.{length-replicate}
use Rattle.line.specs.Program.{replies, after, rendered}
use Rattle.line.specs.Program.{closing, lines_of, output_of}
use Rattle.line.specs.Requests.{Request, request_of}
use Rattle.frame.specs.declared.session.Session.{Session}
use Rattle.reader.specs.Reading.{KEPT, past, asked}
use Rattle.frame.specs.Session.{at_start, fed, told, rest, finished, told_all, joined, InPieces}
use Rattle.beforeopen.proofs.Laws.Appended.{after-append, asked-append, lines, past-append, replies-append}
use Rattle.frame.proofs.Laws.Lines.{lines-read}

-- What is printed from a session on for an input that comes whole.
abbrev pub wholly : Session → List ℕ → List ℕ
wholly s input = told s input ++ finished (fed s input)

pub fed-append : (s : Session) (a b : List ℕ) → fed s (a ++ b) ≡ fed (fed s a) b
unfolding fed
fed-append s a b =
    (λ i. record {
      hub =
          (ap (after s.hub) (asked-append a b s.reader)
          ∙ after-append (asked s.reader a) (asked (past s.reader a) b) s.hub) i;
      reader = past-append a b s.reader i;
    })

pub told-append : (s : Session) (a b : List ℕ) → told s (a ++ b) ≡ told s a ++ told (fed s a) b
unfolding told fed
told-append s a b =
    ap (lines s.hub) (asked-append a b s.reader)
    ∙ replies-append (asked s.reader a) (asked (past s.reader a) b) s.hub

pub one_piece : (s : Session) → finished s ≡ wholly s []
unfolding told fed replies rendered asked past after
one_piece s = refl

pub wholly-append : (s : Session) (a b : List ℕ) → wholly s (a ++ b) ≡ told s a ++ wholly (fed s a) b
wholly-append s a b =
    (λ i. told-append s a b i ++ finished (fed-append s a b i))
    ∙ append_assoc (told s a) (told (fed s a) b) (finished (fed (fed s a) b))

in-pieces-from : (ps : List (List ℕ)) (s : Session) → told_all s ps ≡ wholly s (joined ps)
unfolding told_all joined
in-pieces-from [] s = one_piece s
in-pieces-from (p ∷ ps) s =
    ap (λ (l : List ℕ). told s p ++ l) (in-pieces-from ps (fed s p))
    ∙ sym (wholly-append s p (joined ps))

-- An input that comes whole.
pub in_one : (input : List ℕ) → wholly at_start input ≡ output_of input
unfolding told fed finished output_of
in_one input =
    let r = at_start.reader in
    let h = at_start.hub in
    let rs = asked r input in
    let qs = rest (past r input) in
    let e : rs ++ qs ≡ map request_of (lines_of input) =
    lines-read input r []
    (record { size = length-replicate {A = ℕ} KEPT 0; short = omega arith; same = refl }) in
    sym (append_assoc (lines h rs) (lines (after h rs) qs) (closing (after (after h rs) qs)))
    ∙ (λ i. sym (replies-append rs qs h) i ++ closing (sym (after-append rs qs h) i))
    ∙ ap (λ (l : List Request). lines h l ++ closing (after h l)) e

pub in_pieces : InPieces
unfolding InPieces
in_pieces ps = in-pieces-from ps at_start ∙ in_one (joined ps)
