-- The loop over the pieces of an input: what is printed and what is still to come are the whole.
use Prim.Native.Nat.{ℕ, suc, ◌+◌, ◌-◌, ◌*◌, ◌/◌, ◌≤◌, ◌<◌}
use mathlib.Core.Path.{◌≡◌, refl, sym, ap, ◌∙◌, subst}
use mathlib.Core.Bool.{true, false}
use mathlib.Core.List.{List, [], ◌∷◌, ◌++◌, append_assoc}
use native.Mathlib.Omega.{arith}
use borrow.Author.Tests.{le-leb, lt-leb}
use borrow.Rule.Slice.PartMut.{put_mid}
use lib.ListN.{length, take, drop, length-append, length-drop}
use lib.Seq.{drop-drop, take_at, drop_at, take_all, length-take-le}
use Rattle.line.specs.Program.{after, closing, lines_of, output_of}
use Rattle.frame.specs.declared.session.Fed.{Fed}
use Rattle.frame.specs.declared.session.Session.{Session}
use Rattle.reader.specs.Reading.{asked}
use Rattle.frame.specs.Session.{at_start, fed, told, rest, finished, Sound}
use Rattle.wholeinput.specs.Whole.{has_room, size, filled}
use Rattle.hub.proofs.Laws.Bools.{if-true, if-false}
use Rattle.frame.proofs.Laws.Feeding.{start-sound, fed-sound, told-size}
use Rattle.frame.proofs.Laws.Feeding.{tail-put, tail-size}
use Rattle.beforeopen.proofs.Laws.Appended.{lines}
use Rattle.frame.proofs.Laws.Sessions.{wholly, in_one, wholly-append, one_piece}
use Rattle.beforeopen.proofs.Laws.Sizes.{replies-size, output-size}

pub finished-size : (s : Session) → length (finished s) ≡ 15 * suc (length (rest s.reader))
unfolding finished
finished-size s =
    length-append (lines s.hub (rest s.reader)) (closing (after s.hub (rest s.reader)))
    ∙ omega (arith, replies-size (rest s.reader) s.hub)

-- What is printed, in front of what the buffer holds past it.
abbrev over : List ℕ → List ℕ → List ℕ
over text out = text ++ drop (length text) out

over-append : (a b out : List ℕ) → over (a ++ b) out ≡ a ++ over b (drop (length a) out)
over-append a b out =
    append_assoc a b (drop (length (a ++ b)) out)
    ∙ ap (λ (l : List ℕ). a ++ (b ++ l))
    (ap (λ (n : ℕ). drop n out) (length-append a b) ∙ sym (drop-drop (length b) (length a) out))

-- With n lines printed, and `rest` of the input still to come.
pub record Printing (input out₀ : List ℕ) (s : Session) (out : List ℕ) (n : ℕ) (rest_of : List ℕ) : Type 0 where
  pub sound : Sound s
  pub long : length out ≡ length out₀
  pub room : 15 * n + length (wholly s rest_of) ≤ length out
  pub same : take (15 * n) out ++ over (wholly s rest_of) (drop (15 * n) out)
      ≡ over (output_of input) out₀

pub nothing-printed : (input out : List ℕ) → length (output_of input) ≤ length out → {s : Session} → s ≡ at_start
    → {rest_of : List ℕ} → rest_of ≡ input → Printing input out s out 0 rest_of
nothing-printed input out l {s} e {rest_of} f =
    subst (λ (s : Session). Printing input out s out 0 rest_of) (sym e)
    (subst (Printing input out at_start out 0) (sym f)
    (record {
      sound = start-sound;
      long = refl;
      room = omega (arith, ap length (in_one input));
      same = ap (λ (t : List ℕ). over t out) (in_one input);
    }))

module _ {input out₀ : List ℕ} {s : Session} {out : List ℕ} {n : ℕ} {rest_of : List ℕ}
    (u : Printing input out₀ s out n rest_of) where
  -- The part of the buffer that is lent.
  abbrev lent : List ℕ
  lent = take (length out - 15 * n) (drop (15 * n) out)

  lent_is : lent ≡ drop (15 * n) out
  lent_is = take_all (length out - 15 * n) (drop (15 * n) out) (simp length-drop (omega arith))

  lent-size : length lent ≡ length out - 15 * n
  lent-size = ap length lent_is ∙ length-drop (15 * n) out

  pub before-end : 15 * n ≤ length out
  before-end = omega (arith, u.room)

  -- One piece of what is still to come.
  module _ (piece others : List ℕ) (joins : rest_of ≡ piece ++ others) where
    abbrev k : ℕ
    k = length (asked s.reader piece)

    cut : wholly s rest_of ≡ told s piece ++ wholly (fed s piece) others
    cut = ap (wholly s) joins ∙ wholly-append s piece others

    cut-size : length (wholly s rest_of) ≡ 15 * k + length (wholly (fed s piece) others)
    cut-size =
        ap length cut
        ∙ length-append (told s piece) (wholly (fed s piece) others)
        ∙ ap (λ (m : ℕ). m + length (wholly (fed s piece) others)) (told-size s piece)

    pub piece-room : 15 * k ≤ length lent
    piece-room = omega (arith, u.room, cut-size, lent-size)

    module _ (part : List ℕ) (e : part ≡ told s piece ++ drop (15 * k) lent) where
      part-size : length part ≡ length out - 15 * n
      part-size =
          ap length e ∙ length-append (told s piece) (drop (15 * k) lent)
          ∙ omega (arith, told-size s piece, length-drop (15 * k) lent, piece-room, lent-size)

      abbrev out' : List ℕ
      out' = put_mid (15 * n) (length out - 15 * n) out part

      front : List ℕ
      front = take (15 * n) out ++ told s piece

      out'-is : out' ≡ front ++ drop (15 * k) (drop (15 * n) out)
      unfolding front
      out'-is =
          tail-put out part (15 * n) (length out) before-end refl part-size
          ∙ ap (λ (l : List ℕ). take (15 * n) out ++ l)
          (e ∙ ap (λ (l : List ℕ). told s piece ++ drop (15 * k) l) lent_is)
          ∙ sym (append_assoc (take (15 * n) out) (told s piece) _)

      front-size : length front ≡ 15 * (n + k)
      unfolding front
      front-size =
          length-append (take (15 * n) out) (told s piece)
          ∙ omega (arith, told-size s piece, length-take-le (15 * n) out before-end)

      long-still : length out' ≡ length out
      long-still =
          ap length (tail-put out part (15 * n) (length out) before-end refl part-size)
          ∙ tail-size out part (15 * n) (length out) before-end refl part-size

      on : Printing input out₀ (fed s piece) out' (n + k) others
      unfolding front
      on =
          let rest_out = drop (15 * n) out in
          let w = wholly (fed s piece) others in
          record {
            sound = fed-sound s piece u.sound;
            long = long-still ∙ u.long;
            room = omega (arith, long-still, cut-size, u.room);
            same =
                (λ i. take (15 * (n + k)) (out'-is i) ++ over w (drop (15 * (n + k)) (out'-is i)))
                ∙ (λ i. take_at front (drop (15 * k) rest_out) (15 * (n + k)) front-size i
                ++ over w (drop_at front (drop (15 * k) rest_out) (15 * (n + k)) front-size i))
                ∙ append_assoc (take (15 * n) out) (told s piece) (over w (drop (15 * k) rest_out))
                ∙ ap (λ (l : List ℕ). take (15 * n) out ++ l)
                (ap (λ (m : ℕ). told s piece ++ over w (drop m rest_out)) (sym (told-size s piece))
                ∙ sym (over-append (told s piece) w rest_out)
                ∙ ap (λ (t : List ℕ). over t rest_out) (sym cut))
                ∙ u.same;
          }

      -- What `feed` gave.
      module _ {r : Fed} (g : r ≡ record { session = fed s piece; lines = k }) where
        pub printed-on : Printing input out₀ r.session out' (n + r.lines) others
        printed-on =
            subst (λ (q : Fed). Printing input out₀ q.session out' (n + q.lines) others) (sym g) on

        pub few-lines : 15 * (n + r.lines) ≤ length out
        few-lines = omega (arith, ap (λ (q : Fed). q.lines) g, u.room, cut-size)

  -- At the end of the input.
  module _ (no_more : length rest_of ≡ 0) where
    at-end : wholly s rest_of ≡ finished s
    at-end = ap (wholly s) (none rest_of no_more) ∙ sym (one_piece s)
      where
        none : (l : List ℕ) → length l ≡ 0 → l ≡ []
        none [] e = refl
        none (c ∷ l) e = absurd (omega arith)

    pub end-room : 15 * suc (length (rest s.reader)) ≤ length lent
    end-room = omega (arith, u.room, ap length at-end, finished-size s, lent-size)

    pub all-printed : (part : List ℕ)
        → part ≡ finished s ++ drop (15 * suc (length (rest s.reader))) lent
        → (put_mid (15 * n) (length out - 15 * n) out part ≡ over (output_of input) out₀)
    all-printed part e =
        tail-put out part (15 * n) (length out) before-end refl part-size
        ∙ ap (λ (l : List ℕ). take (15 * n) out ++ l)
        (e
        ∙ (λ i. finished s ++ drop (sym (finished-size s) i) (lent_is i))
        ∙ ap (λ (t : List ℕ). over t (drop (15 * n) out)) (sym at-end))
        ∙ u.same
      where
        part-size : length part ≡ length out - 15 * n
        part-size =
            ap length e ∙ length-append (finished s) (drop (15 * suc (length (rest s.reader))) lent)
            ∙ omega (
              arith,
              finished-size s,
              length-drop (15 * suc (length (rest s.reader))) lent,
              end-room,
              lent-size,
            )

-- Room or none, as the lines are counted.
module _ (input out : List ℕ) (n : ℕ) (e : n ≡ length (lines_of input)) where
  no_room : length out / 15 ≤ n → has_room input out ≡ false
  no_room l = lt-leb (length (output_of input)) (length out) (omega (arith, e, output-size input))

  pub none_written : length out / 15 ≤ n → (0 ≡ size input out) × (out ≡ filled input out)
  none_written l = (
    sym (if-false (has_room input out) _ _ (no_room l)),
    sym (if-false (has_room input out) _ _ (no_room l)),
  )

  module _ (l : n < length out / 15) where
    pub enough : length (output_of input) ≤ length out
    enough = omega (arith, e, output-size input)

    room : has_room input out ≡ true
    room = le-leb (length (output_of input)) (length out) enough

    pub all-written : (out' : List ℕ) → out' ≡ over (output_of input) out
        → (15 * (n + 1) ≡ size input out) × (out' ≡ filled input out)
    all-written out' f = (
      ap (λ (m : ℕ). 15 * (m + 1)) e ∙ sym (output-size input)
          ∙ sym (if-true (has_room input out) _ _ room),
      f ∙ sym (if-true (has_room input out) _ _ room),
    )
