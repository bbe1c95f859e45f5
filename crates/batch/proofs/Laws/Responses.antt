-- The loop over the requests: what is written and what is still to come are the whole.
use Prim.Native.Nat.{ℕ, suc, ◌+◌, ◌-◌, ◌*◌, ◌≤◌, ◌<◌}
use mathlib.Core.Path.{◌≡◌, refl, sym, ap, subst, ◌∙◌}
use mathlib.Core.List.{List, ◌++◌, append_assoc}
use native.Mathlib.Nat.{add-zero, mul-zero, mul-suc, mul-le-mul_left}
use native.Mathlib.Omega.{arith}
use borrow.Rule.Slice.PartMut.{put_mid}
use lib.ListN.{length, get_or, take, drop, take-append-drop}
use lib.Seq.{drop-drop, get_or-drop}
use Rattle.hub.specs.declared.record.Hub.{Hub}
use Rattle.encoding.specs.Form.{Form, as_text, as_bytes, reply_size}
use Rattle.line.specs.Program.{Reply, Response, respond, after, replies, reply_in, rendered}
use Rattle.line.specs.Program.{replies_in}
use Rattle.line.specs.Requests.{Request}
use Rattle.encoding.specs.Frame.{frame_of}
use Rattle.encoding.proofs.Laws.Parts.{parts, put-length, put-take, put-drop}
use Rattle.exchange.specs.Wire.{with_reply}
use Rattle.batch.specs.Batch.{request_for, requests_in, replied, Reachable}
use Rattle.batch.proofs.Laws.Reachable.{response-reachable}

-- The request of the two bytes from a place on.
abbrev pub request_at : List ℕ → ℕ → Request
request_at l from = request_for (get_or l from 0) (get_or l (from + 1) 0)

reply-size : (form : Form) (r : Reply) → length (reply_in form r) ≡ reply_size form
reply-size as_text r = refl
reply-size as_bytes r = refl

-- Multiples of a size k: one more, and that there is still one before the n-th.
next : (k i : ℕ) → k * (i + 1) ≡ k * i + k
next k i = ap (λ (j : ℕ). k * j) (one i) ∙ mul-suc k i
  where
    one : (i : ℕ) → i + 1 ≡ suc i
    one i = omega arith

one-fits : (k i n : ℕ) → i < n → k * i + k ≤ k * n
one-fits k i n l = omega (arith, next k i, mul-le-mul_left {m = i + 1} {n = n} k (omega arith))

module _ (form : Form) where
  -- A request takes its bytes off the requests, and its answer off the buffer.
  one-record : (h : Hub) (m : ℕ) (l : List ℕ)
      → after h (requests_in (suc m) l)
      ≡ after (respond h (request_at l 0)).hub (requests_in m (drop 2 l))
  unfolding after requests_in
  one-record h m l = refl

  one-reply : (h : Hub) (m : ℕ) (l out : List ℕ)
      → let t = respond h (request_at l 0) in
      replied form h (suc m) l out
      ≡ reply_in form t.reply ++ replied form t.hub m (drop 2 l) (drop (reply_size form) out)
  unfolding replies rendered requests_in
  one-reply h m l out =
      let t = respond h (request_at l 0) in
      let rest = replies_in form t.hub (requests_in m (drop 2 l)) in
      append_assoc (reply_in form t.reply) rest _
      ∙ ap (λ (r : List ℕ). reply_in form t.reply ++ (rest ++ r))
      (ap (λ (n : ℕ). drop n out) (count (reply_size form) m)
      ∙ sym (drop-drop (reply_size form * m) (reply_size form) out))
    where
      count : (k n : ℕ) → k * suc n ≡ k + k * n
      count k n = omega (arith, mul-suc k n)

  -- A reply's width. After i of the n requests, from the record h₀ and the buffer out₀.
  abbrev width : ℕ
  width = reply_size form

  pub record Upto (h₀ : Hub) (n : ℕ) (l out₀ : List ℕ) (h : Hub) (out : List ℕ) (i : ℕ) : Type 0 where
    pub within : i ≤ n
    pub asked : 2 * n ≤ length l
    pub room : width * n ≤ length out
    pub length : length out ≡ length out₀
    pub reachable : Reachable h
    pub left : after h (requests_in (n - i) (drop (2 * i) l)) ≡ after h₀ (requests_in n l)
    pub same : take (width * i) out ++ replied form h (n - i) (drop (2 * i) l) (drop (width * i) out)
        ≡ replied form h₀ n l out₀

  pub start : (h : Hub) (n : ℕ) (l out : List ℕ) → Reachable h → 2 * n ≤ length l → width * n ≤ length out
      → Upto h n l out h out 0
  start h n l out r a b =
      record {
        within = omega arith;
        asked = a;
        room = b;
        length = refl;
        reachable = r;
        left = (λ i. after h (requests_in (all n i) l));
        same =
            (λ i. take (mul-zero width i) out
            ++ replied form h (all n i) l (drop (mul-zero width i) out));
      }
    where
      all : (n : ℕ) → n - 0 ≡ n
      all n = omega arith

  module _ (h₀ : Hub) (n : ℕ) (l out₀ : List ℕ) (h : Hub) (out : List ℕ) (i : ℕ)
      (u : Upto h₀ n l out₀ h out i) where
    module _ (more : i < n) where
      pub whole-request : 2 * i + 2 ≤ length l
      whole-request = omega (arith, u.asked)

      pub whole-reply : width * i + width ≤ length out
      whole-reply = omega (arith, u.room, one-fits width i n more)

      abbrev at : ℕ
      at = width * i

      abbrev here : List ℕ
      here = drop (2 * i) l

      in-front : request_at l (2 * i) ≡ request_at here 0
      in-front =
          (λ j. request_for
          ((ap (λ (k : ℕ). get_or l k 0) (sym (add-zero (2 * i))) ∙ sym (get_or-drop (2 * i) l 0 0)) j)
          (sym (get_or-drop (2 * i) l 1 0) j))

      fewer : n - i ≡ suc (n - (i + 1))
      fewer = omega arith

      -- One more response t, whose reply was put into the buffer and whose record is h'.
      put_in : (text : List ℕ) (h' : Hub) (t : Response)
          → respond h (request_at l (2 * i)) ≡ t → text ≡ reply_in form t.reply → h' ≡ t.hub
          → Upto h₀ n l out₀ h' (put_mid at (at + width - at) out text) (i + 1)
      put_in text h' t e f g =
          let fits : length text ≡ width = ap length f ∙ reply-size form t.reply in
          let long = put-length out text at width whole-reply fits in
          let m = n - (i + 1) in
          let is : t ≡ respond h (request_at here 0) = sym e ∙ ap (respond h) in-front in
          let later : drop (2 * (i + 1)) l ≡ drop 2 here =
          ap (λ (k : ℕ). drop k l) (next 2 i) ∙ sym (drop-drop 2 (2 * i) l) in
          record {
            within = omega arith;
            asked = u.asked;
            room = omega (arith, u.room, long);
            length = long ∙ u.length;
            reachable =
                subst Reachable (sym (g ∙ ap (λ (t : Response). t.hub) (sym e)))
                (response-reachable h (request_at l (2 * i)) u.reachable);
            left =
                (λ j. after ((g ∙ ap (λ (t : Response). t.hub) is) j) (requests_in m (later j)))
                ∙ sym (one-record h m here)
                ∙ ap (λ (k : ℕ). after h (requests_in k here)) (sym fewer)
                ∙ u.left;
            same =
                ap (λ (k : ℕ). let put = put_mid at (at + width - at) out text in
                take k put ++ replied form h' m (drop (2 * (i + 1)) l) (drop k put))
                (next width i)
                ∙ (λ j. put-take out text at width whole-reply fits j
                ++ replied form h' m (later j) (put-drop out text at width whole-reply fits j))
                ∙ append_assoc (take at out) text _
                ∙ ap (λ (r : List ℕ). take at out ++ r)
                ((λ j. f j ++ replied form (g j) m (drop 2 here) (drop width (drop at out)))
                ∙ (λ j. reply_in form (is j).reply
                ++ replied form (is j).hub m (drop 2 here) (drop (reply_size form) (drop at out)))
                ∙ sym (one-reply h m here (drop at out))
                ∙ ap (λ (k : ℕ). replied form h k here (drop at out)) (sym fewer))
                ∙ u.same;
          }

      -- The same of a buffer out' that has the reply.
      pub responded : (out' : List ℕ) (h' : Hub) (t : Response) → respond h (request_at l (2 * i)) ≡ t
          → out' ≡ with_reply form at (frame_of t.reply.party t.reply.answer) out → h' ≡ t.hub
          → Upto h₀ n l out₀ h' out' (i + 1)
      responded out' h' t e f g =
          let text = reply_in form t.reply in
          let size = reply-size form t.reply in
          subst (λ (o : List ℕ). Upto h₀ n l out₀ h' o (i + 1))
          (sym (f ∙ sym (parts out text at width whole-reply size)))
          (put_in text h' t e refl g)

    pub ended : n ≤ i → (h ≡ after h₀ (requests_in n l)) × (out ≡ replied form h₀ n l out₀)
    unfolding after replies rendered requests_in
    ended e = (
      ap (λ (k : ℕ). after h (requests_in k (drop (2 * i) l))) (sym none) ∙ u.left,
      sym (take-append-drop (width * i) out)
          ∙ ap (λ (k : ℕ). take (width * i) out ++ drop k (drop (width * i) out))
          (sym (mul-zero (reply_size form)))
          ∙ ap (λ (k : ℕ). take (width * i) out
          ++ replied form h k (drop (2 * i) l) (drop (width * i) out)) (sym none)
          ∙ u.same,
    )
      where
        none : n - i ≡ 0
        none = omega arith
