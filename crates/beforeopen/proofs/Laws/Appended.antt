-- Requests and characters in two parts, one after the other.
use Prim.Native.Nat.{ℕ}
use mathlib.Core.Path.{◌≡◌, refl, sym, ap, ◌∙◌}
use mathlib.Core.Bool.{Bool, true, false, cond}
use mathlib.Core.List.{List, [], ◌∷◌, ◌++◌, append_assoc}
use lib.Dec.{eqb}
use Rattle.hub.specs.declared.record.Hub.{Hub}
use Rattle.encoding.specs.Form.{as_text}
use Rattle.line.specs.Program.{respond, replies, after, reply_in, rendered, replies_in}
use Rattle.line.specs.Requests.{Request, request_of}
use Rattle.reader.specs.declared.Reader.{Reader}
use Rattle.reader.specs.Reading.{line_in, next, past, asked}

-- What is printed for some requests.
abbrev pub lines : Hub → List Request → List ℕ
lines = replies_in as_text

-- Requests in two parts.
pub replies-append : (rs qs : List Request) (h : Hub)
    → lines h (rs ++ qs) ≡ lines h rs ++ lines (after h rs) qs
unfolding replies rendered after
replies-append [] qs h = refl
replies-append (r ∷ rs) qs h =
    let t = respond h r in
    let text = reply_in as_text t.reply in
    ap (λ (l : List ℕ). text ++ l) (replies-append rs qs t.hub)
    ∙ sym (append_assoc text (lines t.hub rs) (lines (after t.hub rs) qs))

pub after-append : (rs qs : List Request) (h : Hub) → after h (rs ++ qs) ≡ after (after h rs) qs
unfolding after
after-append [] qs h = refl
after-append (r ∷ rs) qs h = after-append rs qs (respond h r).hub

-- An input in two parts.
pub past-append : (a b : List ℕ) (r : Reader) → past r (a ++ b) ≡ past (past r a) b
unfolding past
past-append [] b r = refl
past-append (c ∷ a) b r = past-append a b (next r c)

pub asked-append : (a b : List ℕ) (r : Reader) → asked r (a ++ b) ≡ asked r a ++ asked (past r a) b
unfolding past asked
asked-append [] b r = refl
asked-append (c ∷ a) b r = go (eqb c 0x0A) (asked-append a b (next r c))
  where
    go : (e : Bool) → asked (next r c) (a ++ b) ≡ asked (next r c) a ++ asked (past (next r c) a) b
        → cond e (request_of (line_in r) ∷ asked (next r c) (a ++ b)) (asked (next r c) (a ++ b))
        ≡ cond e (request_of (line_in r) ∷ asked (next r c) a) (asked (next r c) a)
        ++ asked (past (next r c) a) b
    go true f = ap (λ (l : List Request). request_of (line_in r) ∷ l) f
    go false f = f
