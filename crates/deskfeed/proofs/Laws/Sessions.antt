-- Sessions stay sound, and pieces one after the other are the whole input.
use Prim.Native.Nat.{ℕ, ◌*◌, ◌≤◌}
use mathlib.Core.Path.{◌≡◌, refl, sym, ap, ◌∙◌}
use mathlib.Core.List.{List, [], ◌∷◌, ◌++◌, append_assoc}
use native.Mathlib.Omega.{arith}
use borrow.Author.Tests.{eq-eqb, ne_eqb}
use lib.ListN.{drop, length, length-replicate}
use Rattle.reader.specs.Reading.{KEPT, asked, line_in, past}
use Rattle.frame.specs.Session.{joined, rest}
use Rattle.frame.proofs.Laws.Lines.{lines-read}
use Rattle.reader.proofs.Laws.Pieces.{past-kept}
use Rattle.beforeopen.proofs.Laws.Appended.{asked-append, past-append}
use Rattle.hub.specs.Opening.{nobody}
use Rattle.line.specs.Requests.{Request, request_of}
use Rattle.screen.specs.declared.record.Line.{Line}
use Rattle.screen.specs.Moves.{no_line}
use Rattle.deskfeed.specs.declared.session.Fed.{Fed}
use Rattle.deskfeed.specs.declared.session.Session.{Session}
use Rattle.deskreply.specs.Replies.{asked_by, reply_to}
use Rattle.deskfeed.specs.Session.{InPieces, Printable, Sound, at_start, fed, finished, left, output_of, said}
use Rattle.deskfeed.specs.Session.{told, told_all}
use Rattle.deskline.specs.Text.{LONGEST_TEXT, line_text}
use Rattle.deskfeed.proofs.Laws.Feeding.{opened-printable, printable}

pub start-sound : Sound at_start
start-sound =
    record {
      line = opened-printable nobody;
      size = length-replicate {A = ℕ} KEPT 0;
      short = omega arith;
    }

left-printable : (l : Line) (qs : List Request) → Printable l → Printable (left l qs)
unfolding left
left-printable l [] p = p
left-printable l (q ∷ qs) p = left-printable (reply_to l (asked_by q)).line qs (printable l (asked_by q) p)

pub fed-sound : (s : Session) (piece : List ℕ) → Sound s → Sound (fed s piece)
unfolding fed
fed-sound s piece o =
    let k = past-kept piece s.reader (record { size = o.size; short = o.short }) in
    record { line = left-printable _ (asked s.reader piece) o.line; size = k.size; short = k.short }

-- Requests in two parts.
said-append : (qs rs : List Request) (l : Line) → said l (qs ++ rs) ≡ said l qs ++ said (left l qs) rs
unfolding said left
said-append [] rs l = refl
said-append (q ∷ qs) rs l =
    let r = reply_to l (asked_by q) in
    ap (λ (x : List ℕ). line_text r ++ x) (said-append qs rs r.line)
    ∙ sym (append_assoc (line_text r) (said r.line qs) (said (left r.line qs) rs))

left-append : (qs rs : List Request) (l : Line) → left l (qs ++ rs) ≡ left (left l qs) rs
unfolding left
left-append [] rs l = refl
left-append (q ∷ qs) rs l = left-append qs rs _

-- An input in two parts.
told-append : (s : Session) (a b : List ℕ) → told s (a ++ b) ≡ told s a ++ told (fed s a) b
unfolding told fed
told-append s a b =
    ap (said s.line) (asked-append a b s.reader)
    ∙ said-append (asked s.reader a) (asked (past s.reader a) b) s.line

fed-append : (s : Session) (a b : List ℕ) → fed s (a ++ b) ≡ fed (fed s a) b
unfolding fed
fed-append s a b =
    (λ i. record {
      line =
          (ap (left s.line) (asked-append a b s.reader)
          ∙ left-append (asked s.reader a) (asked (past s.reader a) b) s.line) i;
      reader = past-append a b s.reader i;
    })

from-session : (ps : List (List ℕ)) (s : Session)
    → told_all s ps ≡ told s (joined ps) ++ finished (fed s (joined ps))
unfolding told_all joined told fed said left asked past
from-session [] s = refl
from-session (p ∷ ps) s =
    ap (λ (x : List ℕ). told s p ++ x) (from-session ps (fed s p))
    ∙ sym (append_assoc (told s p) (told (fed s p) (joined ps)) (finished (fed (fed s p) (joined ps))))
    ∙ (λ i. sym (told-append s p (joined ps)) i ++ finished (sym (fed-append s p (joined ps)) i))

in_one : (input : List ℕ) → told at_start input ++ finished (fed at_start input) ≡ output_of input
unfolding told fed finished output_of
in_one input =
    let r = at_start.reader in
    sym (said-append (asked r input) (rest (past r input)) no_line)
    ∙ ap (said no_line)
    (lines-read input r []
    (record { size = length-replicate {A = ℕ} KEPT 0; short = omega arith; same = refl }))

pub in_pieces : InPieces
unfolding InPieces
in_pieces ps = from-session ps at_start ∙ in_one (joined ps)

-- A line left without its end mark: nothing, or as if it had one.
module _ (s : Session) where
  pub no-rest : s.reader.len ≡ 0 → finished s ≡ []
  unfolding finished said
  no-rest e = rw (eq-eqb s.reader.len 0 e)

  one-asked : asked s.reader (0x0A ∷ []) ≡ request_of (line_in s.reader) ∷ []
  unfolding asked
  one-asked = refl

  pub last-room : (out : List ℕ) → LONGEST_TEXT ≤ length out
      → LONGEST_TEXT * length (asked s.reader (0x0A ∷ [])) ≤ length out
  last-room out h = omega (arith, ap length one-asked)

  pub last-told : (s.reader.len ≡ 0 → ⊥) → told s (0x0A ∷ []) ≡ finished s
  unfolding told finished
  last-told e = ap (said s.line) one-asked ∙ rw (ne_eqb s.reader.len 0 e)

-- What is printed then, in front of what the buffer held.
pub nothing-told : (s : Session) (out : List ℕ) → s.reader.len ≡ 0
    → (0 ≡ length (finished s)) × (out ≡ finished s ++ drop (length (finished s)) out)
nothing-told s out e =
    let f = no-rest s e in
    (sym (ap length f), sym (ap (λ (t : List ℕ). t ++ drop (length t) out) f))

pub one_told : (s : Session) (out v : List ℕ) (a : Fed) → (s.reader.len ≡ 0 → ⊥)
    → a ≡ record { session = fed s (0x0A ∷ []); size = length (told s (0x0A ∷ [])) }
    → v ≡ told s (0x0A ∷ []) ++ drop (length (told s (0x0A ∷ []))) out
    → (a.size ≡ length (finished s)) × (v ≡ finished s ++ drop (length (finished s)) out)
one_told s out v a n e f =
    let t = last-told s n in
    (ap (λ (x : Fed). x.size) e ∙ ap length t, f ∙ ap (λ (x : List ℕ). x ++ drop (length x) out) t)
