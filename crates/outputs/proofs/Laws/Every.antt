-- Every input: what is left out is 12, 13 and refused openings, and the rest is a schedule's.
use mathlib.Core.Path.{◌≡◌, refl, sym, ap, ◌∙◌}
use mathlib.Core.Bool.{Bool, true, false, cond, ◌&&◌}
use mathlib.Core.List.{List, [], ◌∷◌, ◌++◌, map}
use lib.Dec.{leb}
use Rattle.hub.specs.declared.answers.Answer.{Answer}
use Rattle.hub.specs.declared.moves.Call.{Call}
use Rattle.hub.specs.declared.moves.Op.{Op}
use Rattle.hub.specs.declared.moves.Sight.{Sight}
use Rattle.hub.specs.declared.opening.Opening.{Opening}
use Rattle.hub.specs.declared.record.Hub.{Hub}
use Rattle.hub.specs.declared.record.Outcome.{Outcome}
use Rattle.hub.specs.Answers.{plain, printed, refusal_code}
use Rattle.hub.specs.Basics.{all_of}
use Rattle.hub.specs.Calls.{answer_of, called, checked}
use Rattle.hub.specs.Demand3.{Demand3}
use Rattle.hub.specs.Look.{look}
use Rattle.hub.specs.Moves.{Move}
use Rattle.hub.specs.Opening.{Test, all_passed, fresh, not_opened, opening, opening_if, tests}
use Rattle.hub.specs.Schedule.{entries, run}
use Rattle.hub.specs.Table.{acquire, cancel, release, tell_radio, decide}
use Rattle.hub.proofs.Demand3.{demand3}
use Rattle.hub.proofs.Laws.Bools.{first, if-true, if-false, never, second}
use Rattle.hub.proofs.Laws.Opening.{Ends, each-passed, ends, opened, refused}
use Rattle.hub.proofs.Laws.Rows.{calls-alike, open_row}
use Rattle.encoding.specs.Form.{as_text}
use Rattle.line.specs.Program.{unopened, is_open, Reply, reply_of, when_open, before_open}
use Rattle.line.specs.Program.{replies, after, rendered, closing, lines_of, output_of}
use Rattle.line.specs.Requests.{Request, malformed, to_open, to_call, request_of}
use Rattle.line.proofs.Laws.Schedules.{respond-open, respond-before, still_open}
use Rattle.outputs.specs.Schedule.{Schedule, started, replies_of, left_by, Holds}
use Rattle.outputs.specs.Schedule.{calls_in, schedule_of, left_out, kept, EveryInput}
use Rattle.beforeopen.proofs.Laws.Opening.{shut, stays-shut}

-- No call is answered by 2, 3 or 12 to 17.
abbrev is_left_out : Move → Bool
is_left_out m = left_out (printed (answer_of m)).code

own-decided : (o : Op) (full : Bool) (s : Sight) → is_left_out (decide o full s) ≡ false
unfolding open_row acquire cancel release tell_radio
own-decided o full s = calls-alike s is_left_out false (λ t q. refl) (λ x. refl) o full

own-checked : (a b : Bool) (m : Move) → is_left_out m ≡ false → is_left_out (checked a b m) ≡ false
unfolding checked
own-checked false b m e = refl
own-checked true false m e = refl
own-checked true true m e = e

own-call : (h : Hub) (c : Call) → left_out (printed (called h c).answer).code ≡ false
own-call h c = own-checked _ _ _ (own-decided c.op _ (look h c.party))

-- On an open hub: the calls are kept, and they alone change the record.
pub open_kept : (rs : List Request) (h : Hub) → is_open h ≡ true
    → (kept (replies h rs) ≡ map reply_of (entries h (calls_in rs))) × (after h rs ≡ run h (calls_in rs))
unfolding replies after kept entries run calls_in when_open
open_kept [] h o = (refl, refl)
open_kept (malformed ∷ rs) h o =
    let t = respond-open h malformed o in
    let i = open_kept rs h o in (
      (λ j. kept ((t j).reply ∷ replies (t j).hub rs)) ∙ i.0,
      (λ j. after (t j).hub rs) ∙ i.1,
    )
open_kept (to_open a ∷ rs) h o =
    let t = respond-open h (to_open a) o in
    let i = open_kept rs h o in (
      (λ j. kept ((t j).reply ∷ replies (t j).hub rs)) ∙ i.0,
      (λ j. after (t j).hub rs) ∙ i.1,
    )
open_kept (to_call c ∷ rs) h o =
    let t = respond-open h (to_call c) o in
    let r = when_open h (to_call c) in
    let i = open_kept rs r.hub (still_open h (to_call c) o) in (
      (λ j. kept ((t j).reply ∷ replies (t j).hub rs))
          ∙ if-false (left_out r.reply.answer.code) _ _ (own-call h c)
          ∙ ap (λ (l : List Reply). r.reply ∷ l) i.0,
      (λ j. after (t j).hub rs) ∙ i.1,
    )

-- The test that an opening is refused by says why.
refused-for : (o : Opening) (ts : List Test) → all_of (map (λ (t : Test). left_out (refusal_code t.why)) ts) ≡ true
    → all_passed ts ≡ false → left_out (printed (opening_if ts o).answer).code ≡ true
unfolding opening_if all_of
refused-for o [] w e = never e
refused-for o (t ∷ ts) w e =
    go t.passed (first (left_out (refusal_code t.why)) _ w)
    (refused-for o ts (second (left_out (refusal_code t.why)) _ w)) e
  where
    omitted : Outcome → Bool
    omitted x = left_out (printed x.answer).code

    go : (b : Bool) → omitted (not_opened t.why) ≡ true → (all_passed ts ≡ false → omitted (opening_if ts o) ≡ true)
        → b && all_passed ts ≡ false → omitted (cond b (opening_if ts o) (not_opened t.why)) ≡ true
    go true w later e = later e
    go false w later e = w

-- An opening that opens a hub is accepted, and one that does not is answered by 2, 3 or 14 to 17.
module _ (o : Opening) where
  opens : is_open (opening o).hub ≡ true → (opening o).answer ≡ Answer.Opened
  unfolding fresh
  opens = go _ _ (ends o (tests o))
    where
      go : (b : Bool) (x : Outcome) → Ends o b x → is_open x.hub ≡ true → x.answer ≡ Answer.Opened
      go false x (refused r) z = never (sym z)
      go true x opened z = refl

  opens_not : is_open (opening o).hub ≡ false → left_out (printed (opening o).answer).code ≡ true
  unfolding fresh all_of
  opens_not z = go (all_passed (tests o)) refl
    where
      go : (b : Bool) → all_passed (tests o) ≡ b → left_out (printed (opening o).answer).code ≡ true
      go false e = refused-for o (tests o) refl e
      go true e = never (sym (made _ _ (ends o (tests o)) e) ∙ z)
        where
          made : (b : Bool) (x : Outcome) → Ends o b x → b ≡ true → is_open x.hub ≡ true
          made false x (refused r) f = never (sym f)
          made true x opened f = first (leb 1 o.permits) (leb o.permits 32) (each-passed o e 0)

-- Before an opening, and from it on.
abbrev Follows : List Request → Schedule → Type 0
Follows rs s =
    (kept (replies unopened rs) ≡ replies_of s) × (after unopened rs ≡ left_by s) × Holds s

follows : (rs : List Request) → Follows rs (schedule_of rs)
unfolding replies after kept before_open schedule_of Demand3
follows [] = (refl, refl, tt)
follows (malformed ∷ rs) =
    let t = respond-before unopened malformed shut in
    let i = follows rs in (
      (λ j. kept ((t j).reply ∷ replies (t j).hub rs)) ∙ i.0,
      (λ j. after (t j).hub rs) ∙ i.1,
      i.2,
    )
follows (to_open o ∷ rs) = go (is_open (opening o).hub) refl (follows rs)
  where
    go : (b : Bool) → is_open (opening o).hub ≡ b → Follows rs (schedule_of rs)
        → Follows (to_open o ∷ rs) (cond b (started o (calls_in rs)) (schedule_of rs))
    go true e i =
        let t = respond-before unopened (to_open o) shut in
        let a = opens o e in
        let k = open_kept rs (opening o).hub e in (
          (λ j. kept ((t j).reply ∷ replies (t j).hub rs))
              ∙ (λ j. kept (record { party = 0xFF; answer = printed (a j) } ∷ replies (opening o).hub rs))
              ∙ ap (λ (l : List Reply). record { party = 0xFF; answer = plain 0x1F } ∷ l) k.0,
          (λ j. after (t j).hub rs) ∙ k.1,
          (a, demand3 o a (calls_in rs)),
        )
    go false e i =
        let t = respond-before unopened (to_open o) shut in
        let n = stays-shut (to_open o) e in (
          (λ j. kept ((t j).reply ∷ replies (t j).hub rs))
              ∙ if-true (left_out (printed (opening o).answer).code) _ _ (opens_not o e)
              ∙ ap (λ (h : Hub). kept (replies h rs)) n
              ∙ i.0,
          (λ j. after (t j).hub rs) ∙ ap (λ (h : Hub). after h rs) n ∙ i.1,
          i.2,
        )
follows (to_call c ∷ rs) =
    let t = respond-before unopened (to_call c) shut in
    let i = follows rs in (
      (λ j. kept ((t j).reply ∷ replies (t j).hub rs)) ∙ i.0,
      (λ j. after (t j).hub rs) ∙ i.1,
      i.2,
    )

pub every-input : EveryInput
unfolding EveryInput output_of
every-input input =
    let rs = map request_of (lines_of input) in
    let f = follows rs in
    (ap (λ (h : Hub). rendered as_text (replies unopened rs) ++ closing h) f.1, f.0, f.2)
