-- The loop over the operations: what is written and what is still to come are the whole.
use Prim.Native.Nat.{ℕ, ◌+◌, ◌-◌, ◌*◌, ◌/◌, ◌≤◌, ◌<◌}
use mathlib.Core.Path.{◌≡◌, refl, sym, ap, subst, ◌∙◌}
use mathlib.Core.Bool.{true, true≢false}
use mathlib.Core.List.{List, [], ◌∷◌, ◌++◌, append_assoc, append-nil}
use native.Mathlib.Omega.{arith}
use borrow.Rule.Slice.PartMut.{put_mid}
use lib.ListN.{length, get_or, take, drop, take-append-drop, length-drop}
use lib.Seq.{drop-drop}
use Rattle.hub.specs.declared.moves.Call.{Call}
use Rattle.hub.specs.declared.record.Hub.{Hub}
use Rattle.hub.proofs.Laws.Bools.{first, second}
use Rattle.encoding.specs.Frame.{op_of}
use Rattle.encoding.proofs.Laws.Parts.{parts, put-length, put-take, put-drop}
use Rattle.operations.specs.Operation.{operated}
use Rattle.run.specs.Bytes.{calls_of, well_formed}
use Rattle.run.proofs.Laws.Pairs.{one-formed, pair}
use Rattle.perform.specs.Bytes.{answer_bytes, answers_to, answers_written, is_operation_code, with_answer}
use Rattle.perform.specs.Rested.{Rested}
use Rattle.perform.proofs.Laws.Codes.{an-operation}
use Rattle.perform.proofs.Laws.Rested.{rested-again}

-- The operation of the i-th two bytes, as a call.
abbrev pub code_at : List ℕ → ℕ → ℕ
code_at l i = get_or l (2 * i) 0

abbrev pub call_at : List ℕ → ℕ → Call
call_at l i = record { op = op_of (code_at l i); party = get_or l (2 * i + 1) 0 }

-- Its answer stands in front of those that are still to come.
one_answer : (h : Hub) (l : List ℕ) (i : ℕ) → i < length l / 2
    → let r = operated h (call_at l i) in
    answers_to h (calls_of (drop (2 * i) l))
    ≡ answer_bytes r ++ answers_to r.hub (calls_of (drop (2 * (i + 1)) l))
unfolding answers_to calls_of
one_answer h l i k = ap (λ (m : List ℕ). answers_to h (calls_of m)) (pair l i k)

-- Past the last pair nothing is left.
none_left : (l : List ℕ) → length l ≤ 1 → well_formed is_operation_code l ≡ true → l ≡ []
unfolding well_formed
none_left [] k w = refl
none_left (c ∷ []) k w = absurd (true≢false (sym w))
none_left (c ∷ p ∷ l) k w = absurd (omega arith)

-- After i of the operations, from the record h₀ and the buffer out₀.
pub record Upto (h₀ : Hub) (l out₀ : List ℕ) (h : Hub) (out : List ℕ) (i : ℕ) : Type 0 where
  pub within : i ≤ length l / 2
  pub formed : well_formed is_operation_code (drop (2 * i) l) ≡ true
  pub room : 3 * (length l / 2) ≤ length out
  pub length : length out ≡ length out₀
  pub rested : Rested h
  pub rest : drop (3 * i) out ≡ drop (3 * i) out₀
  pub same : take (3 * i) out ++ answers_to h (calls_of (drop (2 * i) l)) ≡ answers_to h₀ (calls_of l)

pub start : (h : Hub) (l out : List ℕ) → Rested h → well_formed is_operation_code l ≡ true
    → 3 * (length l / 2) ≤ length out → Upto h l out h out 0
start h l out r w k =
    record { within = omega arith; formed = w; room = k; length = refl; rested = r; rest = refl; same = refl }

module _ (h₀ : Hub) (l out₀ : List ℕ) (h : Hub) (out : List ℕ) (i : ℕ) (u : Upto h₀ l out₀ h out i) where
  module _ (more : i < length l / 2) where
    pub whole-operation : 2 * i + 2 ≤ length l
    whole-operation = omega arith

    pub whole-answer : 3 * i + 3 ≤ length out
    whole-answer = omega (arith, u.room)

    pub code_here : is_operation_code (code_at l i) ≡ true
    code_here = first _ _ (sym (one-formed is_operation_code l i more) ∙ u.formed)

    formed-on : well_formed is_operation_code (drop (2 * (i + 1)) l) ≡ true
    formed-on = second (is_operation_code (code_at l i)) _ (sym (one-formed is_operation_code l i more) ∙ u.formed)

    -- One operation c more, whose answer is written in out' and whose record is h'.
    pub answered : (c : Call) (text out' : List ℕ) (h' : Hub) → c ≡ call_at l i
        → out' ≡ with_answer i text out → text ≡ answer_bytes (operated h c) → h' ≡ (operated h c).hub
        → Upto h₀ l out₀ h' out' (i + 1)
    answered c text out' h' b w f₀ g₀ =
        let f = f₀ ∙ ap (λ (c : Call). answer_bytes (operated h c)) b in
        let g = g₀ ∙ ap (λ (c : Call). (operated h c).hub) b in
        let r = operated h (call_at l i) in
        let rest = calls_of (drop (2 * (i + 1)) l) in
        let fits : length text ≡ 3 = ap length f in
        let put : out' ≡ put_mid (3 * i) (3 * i + 3 - 3 * i) out text =
        w ∙ sym (parts out text (3 * i) 3 whole-answer fits) in
        let long = ap length put ∙ put-length out text (3 * i) 3 whole-answer fits in
        record {
          within = omega arith;
          formed = formed-on;
          room = omega (arith, u.room, long);
          length = long ∙ u.length;
          rested =
              subst Rested (sym g)
              (rested-again h u.rested (call_at l i) (an-operation (code_at l i) code_here));
          rest =
              (λ j. drop (next i j) (put j))
              ∙ put-drop out text (3 * i) 3 whole-answer fits
              ∙ ap (drop 3) u.rest
              ∙ drop-drop 3 (3 * i) out₀
              ∙ ap (λ (k : ℕ). drop k out₀) (sym (next i));
          same =
              (λ j. take (next i j) (put j) ++ answers_to h' rest)
              ∙ (λ j. put-take out text (3 * i) 3 whole-answer fits j ++ answers_to (g j) rest)
              ∙ append_assoc (take (3 * i) out) text _
              ∙ ap (λ (m : List ℕ). take (3 * i) out ++ m)
              (ap (λ (m : List ℕ). m ++ answers_to r.hub rest) f ∙ sym (one_answer h l i more))
              ∙ u.same;
        }
      where
        next : (i : ℕ) → 3 * (i + 1) ≡ 3 * i + 3
        next i = omega arith

  pub ended : length l / 2 ≤ i → out ≡ answers_written h₀ l out₀
  unfolding answers_to calls_of
  ended e =
      let last = none_left (drop (2 * i) l) (simp length-drop (omega arith)) u.formed in
      sym (take-append-drop (3 * i) out)
      ∙ (λ j. (sym (append-nil (take (3 * i) out))
      ∙ ap (λ (m : List ℕ). take (3 * i) out ++ answers_to h (calls_of m)) (sym last)
      ∙ u.same) j ++ (u.rest ∙ ap (λ (k : ℕ). drop (3 * k) out₀) (all i u.within e)) j)
    where
      all : (i : ℕ) → i ≤ length l / 2 → length l / 2 ≤ i → i ≡ length l / 2
      all i a b = omega arith
