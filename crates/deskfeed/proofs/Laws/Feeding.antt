-- The loop over the characters of a piece: what is printed and what is still to come are the whole.
use Prim.Native.Nat.{ℕ, ◌+◌, ◌*◌, ◌≤◌, ◌<◌}
use mathlib.Core.Path.{◌≡◌, refl, sym, ap, subst, ◌∙◌}
use mathlib.Core.Bool.{Bool, true, false, cond}
use mathlib.Core.List.{List, [], ◌∷◌, ◌++◌, append_assoc, append-nil}
use native.Mathlib.Numerals.{add-one}
use native.Mathlib.Omega.{arith}
use borrow.Author.Tests.{eq-eqb, ne_eqb}
use lib.Dec.{eqb}
use lib.ListN.{length, get_or, drop, drop_of_length-le, length-replicate}
use lib.Seq.{drop-cons}
use Rattle.hub.specs.declared.opening.Opening.{Opening}
use Rattle.hub.proofs.Laws.Bools.{if-true, if-false}
use Rattle.hub.specs.Opening.{all_passed, nobody, tests}
use Rattle.reader.specs.declared.Reader.{Reader}
use Rattle.reader.specs.Reading.{KEPT, asked, emptied, line_in, next, past, pushed}
use Rattle.reader.proofs.Laws.Pieces.{Kept, pushed-kept, asked-end, asked-within, past_one}
use Rattle.line.specs.Requests.{Request, request_of}
use Rattle.screen.specs.declared.record.Line.{Line}
use Rattle.screen.specs.declared.record.Operation.{Operation}
use Rattle.screen.specs.Fits.{line_fits}
use Rattle.screen.specs.Line.{opened_line}
use Rattle.screen.specs.Moves.{line_move, line_opening, no_line}
use Rattle.screen.proofs.Laws.Answers.{unfit}
use Rattle.screen.proofs.Laws.Fit.{fit}
use Rattle.screen.proofs.Reached.Moved.{move-sound}
use Rattle.deskreply.specs.declared.DeskReply.{DeskReply}
use Rattle.deskfeed.specs.declared.session.Fed.{Fed}
use Rattle.deskfeed.specs.declared.session.Session.{Session}
use Rattle.deskreply.specs.Replies.{Asked, an_opening, an_operation, asked_by, is_open_line, nothing, opening_reply}
use Rattle.deskreply.specs.Replies.{operation_reply, reply_to}
use Rattle.deskfeed.specs.Session.{Printable, Sound, fed, left, said, told}
use Rattle.deskline.specs.Text.{LONGEST_TEXT, line_text, put_at}
use Rattle.deskline.proofs.Laws.PutAt.{Written, from_start, next as then, none, put-at-length}

-- Every answer leaves a line that can be printed.
pub opened-printable : (o : Opening) → Printable (opened_line o)
unfolding opened_line
opened-printable o =
    record { holding = length-replicate 32 false; queue = length-replicate {A = ℕ} 32 0; few = omega arith }

move-printable : (l : Line) (o : Operation) (p : ℕ) → Printable l → Printable (line_move l o p).line
move-printable l o p r = go (line_fits l) refl
  where
    go : (b : Bool) → line_fits l ≡ b → Printable (line_move l o p).line
    go false e = subst (λ m. Printable m.line) (sym (unfit l p o e)) r
    go true e =
        let s = move-sound l o p (record { fit = fit l e; holding = r.holding; queue = r.queue }) in
        record { holding = s.holding; queue = s.queue; few = s.fit.short }

opening-printable : (o : Opening) → Printable (line_opening o).line
unfolding line_opening
opening-printable o = go (all_passed (tests o))
  where
    go : (b : Bool) → Printable (cond b (opened_line o) no_line)
    go true = opened-printable o
    go false = opened-printable nobody

either : (b : Bool) (r t : DeskReply) → Printable r.line → Printable t.line → Printable (cond b r t).line
either true r t p q = p
either false r t p q = q

pub printable : (l : Line) (a : Asked) → Printable l → Printable (reply_to l a).line
unfolding reply_to opening_reply operation_reply
printable l nothing r = r
printable l (an_opening o) r = either (is_open_line l) _ _ r (opening-printable o)
printable l (an_operation o p) r = either (is_open_line l) _ _ (move-printable l o p r) r

pub reply-printable : (l : Line) (a : Asked) (r : DeskReply) → Printable l → r ≡ reply_to l a → Printable r.line
reply-printable l a r p e = subst (λ (x : DeskReply). Printable x.line) (sym e) (printable l a p)

-- After i characters, from the line l₀, the reader r₀ and the buffer out₀; n lines have ended.
pub record Upto (l₀ : Line) (r₀ : Reader) (piece out₀ : List ℕ) (l : Line) (r : Reader) (out : List ℕ) (at i : ℕ)
    : Type 0 where
  pub lines : ℕ
  pub text : List ℕ
  pub within : i ≤ length piece
  pub printable : Printable l
  pub short : r.len ≤ KEPT
  pub size : length r.line ≡ KEPT
  pub room : LONGEST_TEXT * length (asked r₀ piece) ≤ length out₀
  pub long : length out ≡ length out₀
  pub small : at ≤ LONGEST_TEXT * lines
  pub reader : past r (drop i piece) ≡ past r₀ piece
  pub line : left l (asked r (drop i piece)) ≡ left l₀ (asked r₀ piece)
  pub count : lines + length (asked r (drop i piece)) ≡ length (asked r₀ piece)
  pub done : Written 0 text out₀ at out
  pub sum : text ++ said l (asked r (drop i piece)) ≡ said l₀ (asked r₀ piece)

pub start : (s : Session) (piece out : List ℕ) → Sound s
    → LONGEST_TEXT * length (asked s.reader piece) ≤ length out
    → Upto s.line s.reader piece out s.line s.reader out 0 0
start s piece out o h =
    record {
      lines = 0;
      text = [];
      within = omega arith;
      printable = o.line;
      short = o.short;
      size = o.size;
      room = h;
      long = refl;
      small = omega arith;
      reader = refl;
      line = refl;
      count = omega arith;
      done = none 0 out (omega arith);
      sum = refl;
    }

module _ {l₀ : Line} {r₀ : Reader} {piece out₀ : List ℕ} {l : Line} {r : Reader} {out : List ℕ} {at i : ℕ}
    (u : Upto l₀ r₀ piece out₀ l r out at i) where
  here : i < length piece → drop i piece ≡ get_or piece i 0 ∷ drop (i + 1) piece
  here h = rw (add-one, drop-cons piece i 0 h)

  -- A character within a line.
  pub onward : i < length piece → (get_or piece i 0 ≡ 0x0A → ⊥) → {q : Reader}
      → q ≡ pushed r (get_or piece i 0) → Upto l₀ r₀ piece out₀ l q out at (i + 1)
  onward h f {q} x =
      let c = get_or piece i 0 in
      let cs = drop (i + 1) piece in
      let e : next r c ≡ q = if-false (eqb c 0x0A) _ _ (ne_eqb c 0x0A f) ∙ sym x in
      let k : Kept q = subst Kept (sym x) (pushed-kept r c (record { size = u.size; short = u.short })) in
      let a : asked r (drop i piece) ≡ asked q cs =
      ap (asked r) (here h) ∙ asked-within r c cs (ne_eqb c 0x0A f) ∙ ap (λ (p : Reader). asked p cs) e in
      record {
        lines = u.lines;
        text = u.text;
        within = omega arith;
        printable = u.printable;
        short = k.short;
        size = k.size;
        room = u.room;
        long = u.long;
        small = u.small;
        reader =
            sym (ap (past r) (here h) ∙ past_one r c cs ∙ ap (λ (p : Reader). past p cs) e) ∙ u.reader;
        line = ap (left l) (sym a) ∙ u.line;
        count = ap (λ (x : List Request). u.lines + length x) (sym a) ∙ u.count;
        done = u.done;
        sum = ap (λ (x : List Request). u.text ++ said l x) (sym a) ∙ u.sum;
      }

  ended : get_or piece i 0 ≡ 0x0A → next r (get_or piece i 0) ≡ emptied r
  ended f = if-true (eqb (get_or piece i 0) 0x0A) _ _ (eq-eqb (get_or piece i 0) 0x0A f)

  asked_here : i < length piece → get_or piece i 0 ≡ 0x0A
      → asked r (drop i piece) ≡ request_of (line_in r) ∷ asked (emptied r) (drop (i + 1) piece)
  asked_here h f =
      let c = get_or piece i 0 in
      let cs = drop (i + 1) piece in
      ap (asked r) (here h) ∙ asked-end r c cs (eq-eqb c 0x0A f)
      ∙ ap (λ (p : Reader). request_of (line_in r) ∷ asked p cs) (ended f)

  -- There is room for one line more.
  pub line-room : i < length piece → get_or piece i 0 ≡ 0x0A → at + LONGEST_TEXT ≤ length out
  line-room h f =
      omega (arith, u.room, u.long, u.small, u.count, ap length (asked_here h f))

  -- The end of a line: it is answered, and the answer is printed.
  answered : i < length piece → get_or piece i 0 ≡ 0x0A → (a : DeskReply)
      → a ≡ reply_to l (asked_by (request_of (line_in r))) → (end : ℕ) (v : List ℕ) → end ≡ at + length (line_text a)
      → v ≡ put_at at (line_text a) out → end ≤ at + LONGEST_TEXT
      → Upto l₀ r₀ piece out₀ a.line (emptied r) v end (i + 1)
  unfolding said left
  answered h f a e end v x y z =
      let c = get_or piece i 0 in
      let cs = drop (i + 1) piece in
      let rs = asked (emptied r) cs in
      let b = asked_here h f in
      let k = line-room h f in
      record {
        lines = u.lines + 1;
        text = u.text ++ line_text a;
        within = omega arith;
        printable = reply-printable l _ a u.printable e;
        short = omega arith;
        size = u.size;
        room = u.room;
        long = ap length y ∙ put-at-length out (line_text a) at (omega (arith, x)) ∙ u.long;
        small = omega (arith, u.small);
        reader =
            sym (ap (past r) (here h) ∙ past_one r c cs ∙ ap (λ (p : Reader). past p cs) (ended f))
            ∙ u.reader;
        line = ap (λ (p : DeskReply). left p.line rs) e ∙ ap (left l) (sym b) ∙ u.line;
        count = omega (arith, u.count, ap length b);
        done = then u.done (line_text a) x y (omega (arith, x, u.long));
        sum =
            append_assoc u.text (line_text a) (said a.line rs)
            ∙ ap (λ (p : DeskReply). u.text ++ (line_text p ++ said p.line rs)) e
            ∙ ap (λ (q : List Request). u.text ++ said l q) (sym b)
            ∙ u.sum;
      }

  pub line-end : i < length piece → get_or piece i 0 ≡ 0x0A → (a : DeskReply)
      → a ≡ reply_to l (asked_by (request_of (line_in r))) → (end : ℕ) (v : List ℕ) → end ≡ at + length (line_text a)
      → v ≡ put_at at (line_text a) out → end ≤ at + LONGEST_TEXT → {q : Reader} → q ≡ emptied r
      → Upto l₀ r₀ piece out₀ a.line q v end (i + 1)
  line-end h f a e end v x y z {q} k =
      subst (λ (p : Reader). Upto l₀ r₀ piece out₀ a.line p v end (i + 1)) (sym k) (answered h f a e end v x y z)

-- At the end of the piece.
pub finished : (s : Session) (piece out₀ : List ℕ) {l : Line} {r : Reader} {out : List ℕ} {at i : ℕ}
    → Upto s.line s.reader piece out₀ l r out at i → length piece ≤ i
    → (◌≡◌ {A = Fed} (record { session = record { line = l; reader = r }; size = at })
    (record { session = fed s piece; size = length (told s piece) }))
    × (out ≡ told s piece ++ drop (length (told s piece)) out₀)
unfolding fed told asked past left said
finished s piece out₀ {l} {r} {out} {at} {i} u h =
    let n : drop i piece ≡ [] = drop_of_length-le piece {i = i} h in
    let t : u.text ≡ said s.line (asked s.reader piece) =
    sym (append-nil u.text) ∙ sym (ap (λ (p : List ℕ). u.text ++ said l (asked r p)) n) ∙ u.sum in
    let z : at ≡ length u.text = omega (arith, u.done.past) in (
      (λ j. record {
        session =
            record {
              line = (sym (ap (λ (p : List ℕ). left l (asked r p)) n) ∙ u.line) j;
              reader = (sym (ap (past r) n) ∙ u.reader) j;
            };
        size = (z ∙ ap length t) j;
      }),
      u.done.same ∙ from_start out₀ u.text
          ∙ ap (λ (x : List ℕ). x ++ drop (length x) out₀) t,
    )
