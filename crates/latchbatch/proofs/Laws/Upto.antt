-- The loop over the calls: what is written and what is still to come are the whole.
use Prim.Native.Nat.{ℕ, suc, ◌+◌, ◌-◌, ◌*◌, ◌≤◌, ◌<◌}
use mathlib.Core.Path.{◌≡◌, refl, sym, ap, subst, ◌∙◌}
use mathlib.Core.List.{List, ◌++◌, append_assoc}
use native.Mathlib.Nat.{add-zero}
use native.Mathlib.Omega.{arith}
use borrow.Rule.Slice.PartMut.{put_mid}
use lib.ListN.{length, get_or, take, drop, take-append-drop}
use lib.Seq.{drop-drop, get_or-drop}
use Rattle.hub.specs.Answers.{printed}
use Rattle.encoding.specs.Frame.{frame_of}
use Rattle.line.specs.Program.{rendered}
use Rattle.encoding.proofs.Laws.Parts.{parts, put-length, put-take, put-drop}
use Rattle.latch.specs.declared.moves.LatchCall.{LatchCall}
use Rattle.latch.specs.declared.record.Latch.{Latch}
use Rattle.latch.specs.declared.record.LatchOutcome.{LatchOutcome}
use Rattle.latch.specs.Calls.{called}
use Rattle.latch.specs.Schedule.{entries, run}
use Rattle.latchbatch.specs.Batch.{Lasting, answered, call_at, call_for, calls_in, frames_of}
use Rattle.latchbatch.specs.Batch.{with_reply}
use Rattle.latchbatch.proofs.Laws.Answered.{one_more}

-- Its answer, in seven bytes.
abbrev pub frame : LatchCall → LatchOutcome → List ℕ
frame c o = frame_of c.party (printed o.answer)

-- A call takes its bytes off the calls, and its answer off the buffer.
one-record : (h : Latch) (m : ℕ) (l : List ℕ)
    → run h (calls_in (suc m) l) ≡ run (called h (call_at l 0)).latch (calls_in m (drop 2 l))
unfolding run calls_in
one-record h m l = refl

one-reply : (h : Latch) (m : ℕ) (l out : List ℕ)
    → let c = call_at l 0 in
    let t = called h c in
    answered h (suc m) l out ≡ frame c t ++ answered t.latch m (drop 2 l) (drop 7 out)
unfolding rendered entries calls_in
one-reply h m l out =
    let c = call_at l 0 in
    let t = called h c in
    let rest = frames_of t.latch (calls_in m (drop 2 l)) in
    append_assoc (frame c t) rest _
    ∙ ap (λ (r : List ℕ). frame c t ++ (rest ++ r))
    (ap (λ (n : ℕ). drop n out) (count m) ∙ sym (drop-drop (7 * m) 7 out))
  where
    count : (n : ℕ) → 7 * suc n ≡ 7 + 7 * n
    count n = omega arith

-- After i of the n calls, from the record h₀ and the buffer out₀.
pub record Upto (h₀ : Latch) (n : ℕ) (l out₀ : List ℕ) (h : Latch) (out : List ℕ) (i : ℕ) : Type 0 where
  pub within : i ≤ n
  pub asked : 2 * n ≤ length l
  pub room : 7 * n ≤ length out
  pub length : length out ≡ length out₀
  pub lasting : Lasting h
  pub left : run h (calls_in (n - i) (drop (2 * i) l)) ≡ run h₀ (calls_in n l)
  pub same : take (7 * i) out ++ answered h (n - i) (drop (2 * i) l) (drop (7 * i) out)
      ≡ answered h₀ n l out₀

pub start : (h : Latch) (n : ℕ) (l out : List ℕ) → Lasting h → 2 * n ≤ length l → 7 * n ≤ length out
    → Upto h n l out h out 0
start h n l out r a b =
    record {
      within = omega arith;
      asked = a;
      room = b;
      length = refl;
      lasting = r;
      left = (λ i. run h (calls_in (all n i) l));
      same = (λ i. answered h (all n i) l out);
    }
  where
    all : (n : ℕ) → n - 0 ≡ n
    all n = omega arith

module _ (h₀ : Latch) (n : ℕ) (l out₀ : List ℕ) (h : Latch) (out : List ℕ) (i : ℕ)
    (u : Upto h₀ n l out₀ h out i) where
  module _ (more : i < n) where
    pub whole-call : 2 * i + 2 ≤ length l
    whole-call = omega (arith, u.asked)

    pub whole-reply : 7 * i + 7 ≤ length out
    whole-reply = omega (arith, u.room)

    abbrev at : ℕ
    at = 7 * i

    abbrev here : List ℕ
    here = drop (2 * i) l

    in-front : call_at l (2 * i) ≡ call_at here 0
    in-front =
        (λ j. call_for
        ((ap (λ (k : ℕ). get_or l k 0) (sym (add-zero (2 * i))) ∙ sym (get_or-drop (2 * i) l 0 0)) j)
        (sym (get_or-drop (2 * i) l 1 0) j))

    fewer : n - i ≡ suc (n - (i + 1))
    fewer = omega arith

    -- One more call c, answered and left as t, whose answer is written in out' and whose record is h'.
    pub replied : (c : LatchCall) (t : LatchOutcome) (out' : List ℕ) (h' : Latch) → c ≡ call_at l (2 * i)
        → called h c ≡ t → out' ≡ with_reply i (frame c t) out → h' ≡ t.latch
        → Upto h₀ n l out₀ h' out' (i + 1)
    replied c t out' h' b e f g =
        let text = frame c t in
        let put : out' ≡ put_mid at (at + 7 - at) out text = f ∙ sym (parts out text at 7 whole-reply refl) in
        let long = ap length put ∙ put-length out text at 7 whole-reply refl in
        let m = n - (i + 1) in
        let is : t ≡ called h (call_at here 0) = sym e ∙ ap (called h) (b ∙ in-front) in
        let later : drop (2 * (i + 1)) l ≡ drop 2 here =
        ap (λ (k : ℕ). drop k l) (next i) ∙ sym (drop-drop 2 (2 * i) l) in
        record {
          within = omega arith;
          asked = u.asked;
          room = omega (arith, u.room, long);
          length = long ∙ u.length;
          lasting =
              subst Lasting (sym (g ∙ ap (λ (t : LatchOutcome). t.latch) (sym e))) (one_more h c u.lasting);
          left =
              (λ j. run ((g ∙ ap (λ (t : LatchOutcome). t.latch) is) j) (calls_in m (later j)))
              ∙ sym (one-record h m here)
              ∙ ap (λ (k : ℕ). run h (calls_in k here)) (sym fewer)
              ∙ u.left;
          same =
              (λ j. take (by-7 i j) (put j) ++ answered (g j) m (later j) (drop (by-7 i j) (put j)))
              ∙ (λ j. put-take out text at 7 whole-reply refl j
              ++ answered t.latch m (drop 2 here) (put-drop out text at 7 whole-reply refl j))
              ∙ append_assoc (take at out) text _
              ∙ ap (λ (r : List ℕ). take at out ++ r)
              ((λ j. frame ((b ∙ in-front) j) (is j)
              ++ answered (is j).latch m (drop 2 here) (drop 7 (drop at out)))
              ∙ sym (one-reply h m here (drop at out))
              ∙ ap (λ (k : ℕ). answered h k here (drop at out)) (sym fewer))
              ∙ u.same;
        }
      where
        next : (i : ℕ) → 2 * (i + 1) ≡ 2 * i + 2
        next i = omega arith

        by-7 : (i : ℕ) → 7 * (i + 1) ≡ 7 * i + 7
        by-7 i = omega arith

  pub ended : n ≤ i → (h ≡ run h₀ (calls_in n l)) × (out ≡ answered h₀ n l out₀)
  unfolding run rendered entries calls_in
  ended e = (
    ap (λ (k : ℕ). run h (calls_in k (drop (2 * i) l))) (sym none) ∙ u.left,
    sym (take-append-drop (7 * i) out)
        ∙ ap (λ (k : ℕ). take (7 * i) out ++ answered h k (drop (2 * i) l) (drop (7 * i) out)) (sym none)
        ∙ u.same,
  )
    where
      none : n - i ≡ 0
      none = omega arith
