-- The links counted over a schedule's lines are its 26 and 27 lines and the holders at its end: the
-- ledger of the third demand counts the same, and what it has given and not taken is held.
use Prim.Native.Nat.{ℕ, ◌+◌, ◌*◌, ◌/◌, ◌≤◌, ◌<◌}
use mathlib.Core.Path.{◌≡◌, refl, sym, ap, subst, ◌∙◌}
use mathlib.Core.Bool.{Bool, true, false, cond, ◌&&◌, ◌||◌}
use mathlib.Core.List.{List, [], ◌∷◌, map}
use native.Mathlib.Omega.{arith}
use borrow.Author.Tests.{le-ltb, eqb-true, ltb-true}
use lib.Dec.{eqb, leb, ltb}
use lib.ListN.{length, take, drop}
use lib.Seq.{take_at}
use Rattle.hub.specs.declared.answers.Answer.{Answer}
use Rattle.hub.specs.declared.moves.Call.{Call}
use Rattle.hub.specs.declared.opening.Opening.{Opening}
use Rattle.hub.specs.declared.record.Hub.{Hub}
use Rattle.hub.specs.declared.record.Outcome.{Outcome}
use Rattle.hub.specs.declared.record.Phase.{Phase}
use Rattle.hub.specs.Answers.{printed, refusal_code}
use Rattle.hub.specs.Basics.{among, bit, count, weight}
use Rattle.hub.specs.Calls.{called}
use Rattle.hub.specs.Demand3.{Demand3}
use Rattle.hub.specs.Ledger.{opened}
use Rattle.hub.specs.Opening.{fresh, opening, tests}
use Rattle.hub.specs.Phases.{is_one_of, holds}
use Rattle.hub.specs.Record.{PARTIES, phases_of}
use Rattle.hub.specs.Schedule.{entries, run}
use Rattle.hub.proofs.Demand3.{in-range, demand3}
use Rattle.hub.proofs.Laws.Bools.{first, second}
use Rattle.hub.proofs.Laws.Lists.{weight-map, weight-replicate}
use Rattle.hub.proofs.Laws.Opening.{Ends, ends, opened as accepted, refused}
use Rattle.hub.proofs.Laws.Printed.{no-refusal}
use Rattle.encoding.specs.Form.{as_bytes}
use Rattle.encoding.specs.Frame.{is_call, op_of}
use Rattle.line.specs.Program.{unopened, Reply, reply_of, replies, rendered, lines_of}
use Rattle.line.specs.Requests.{request_of, to_open}
use Rattle.run.specs.Bytes.{calls_of, frames_of, well_formed}
use Rattle.run.specs.Run.{OwnNumbers, end_if, framed_run, written}
use Rattle.run.specs.declared.RunError.{RunError}
use Rattle.run.proofs.Numbers.{own-numbers}
use Rattle.std.specs.Prelude.{Err, Ok}
use Rattle.outputs.specs.Schedule.{Schedule, unstarted, started, replies_of, left_by, Holds, schedule_of}
use Rattle.outputs.specs.Schedule.{left_out, left_out_codes, kept, EveryInput}
use Rattle.outputs.proofs.Laws.Every.{every-input}
use Rattle.billing.specs.Counting.{grants_of, receiver_of, sum}
use Rattle.billing.specs.Promises.{parties_of, Balanced, EveryOutput, EveryRun, EverySchedule, returns}
use Rattle.billing.proofs.Laws.Counting.{to-nobody}
use Rattle.billing.proofs.Laws.Holders.{start, all-given, all-returned, takes_low}
use Rattle.billing.proofs.Laws.Lines.{worth_of, tally-replies, granting, returning, grants-tally}
use Rattle.billing.proofs.Laws.Lines.{returns-tally}
use Rattle.billing.proofs.Laws.Sums.{bit-false}

abbrev held : Schedule → ℕ
held s = count holds (phases_of (left_by s).slots)

-- The claim over the replies themselves.
abbrev Even : Schedule → List Reply → Type 0
Even s rs =
    weight (worth_of (granting (parties_of s))) rs ≡ weight (worth_of returning) rs + held s

in_bytes_lem : (s : Schedule) (rs : List Reply) → Even s rs → Balanced s rs
in_bytes_lem s rs e =
    let l = rendered as_bytes rs in
    omega (
      arith,
      grants-tally (parties_of s) l,
      tally-replies (granting (parties_of s)) rs,
      returns-tally l,
      tally-replies returning rs,
    )

module _ (o : Opening) (a : (opening o).answer ≡ Answer.Opened) (cs : List Call) where
  abbrev s : Schedule
  s = started o cs

  -- Without the line of the opening.
  even-calls : Even s (map reply_of (entries (opening o).hub cs))
  unfolding Demand3
  even-calls =
      let h = (opening o).hub in
      let d = demand3 o a cs in
      omega (
        arith,
        all-given o a (start o a) cs,
        all-returned (opened o) (entries h cs),
        weight-map (worth_of (granting o.parties)) reply_of (entries h cs),
        weight-map (worth_of returning) reply_of (entries h cs),
        d.holders,
        d.held_whole,
        ap (count holds) d.phases,
      )

  -- The line of the opening gives nobody a link.
  even : Even s (replies_of s)
  unfolding weight receiver_of
  even = omega (arith, even-calls, bit-false (le-ltb 0xFF o.parties (omega (arith, (in-range o a).parties.1))))

pub every-schedule : EverySchedule
unfolding EverySchedule
every-schedule o a cs = in_bytes_lem (started o cs) (replies_of (started o cs)) (even o a cs)

-- A reply that is left out is a refusal, and is worth nothing.
abbrev all_low : List ℕ → Bool
all_low [] = true
all_low (x ∷ l) = ltb x 0x20 && all_low l

low : (l : List ℕ) (c : ℕ) → all_low l ≡ true → among l c ≡ true → c < 0x20
low [] c e i = let z : ◌≡◌ {A = ℕ} 0 1 = cc in absurd (omega arith)
low (x ∷ l) c e i = go (eqb c x) refl (low l c (second (ltb x 0x20) _ e)) i
  where
    go : (b : Bool) → eqb c x ≡ b → (among l c ≡ true → c < 0x20) → b || among l c ≡ true → c < 0x20
    go true z later j = omega (arith, eqb-true c x z, ltb-true x 0x20 (first (ltb x 0x20) _ e))
    go false z later j = later j

left-out-low : (c : ℕ) → left_out c ≡ true → c < 0x20
left-out-low c e = low left_out_codes c refl e

module _ (worth : Reply → ℕ) (none : (r : Reply) → r.answer.code < 0x20 → worth r ≡ 0) where
  kept-worth : (rs : List Reply) → weight worth rs ≡ weight worth (kept rs)
  unfolding weight kept
  kept-worth [] = refl
  kept-worth (r ∷ rs) = go (left_out r.answer.code) refl (kept-worth rs)
    where
      go : (b : Bool) → left_out r.answer.code ≡ b → weight worth rs ≡ weight worth (kept rs)
          → worth r + weight worth rs ≡ weight worth (cond b (kept rs) (r ∷ kept rs))
      go true e i = omega (arith, none r (left-out-low r.answer.code e))
      go false e i = omega arith

no-grant : (n : ℕ) → n ≤ 32 → (r : Reply) → r.answer.code < 0x20 → worth_of (granting n) r ≡ 0
no-grant n m r e =
    ap (λ (q : ℕ). bit (ltb q n))
    (to-nobody r.answer.code r.party _ (λ i. omega arith) (λ i. omega arith) (λ i. omega arith))
    ∙ bit-false (le-ltb 0xFF n (omega arith))

no_return : (r : Reply) → r.answer.code < 0x20 → worth_of returning r ≡ 0
no_return r e = takes_low r.answer.code e

few : (s : Schedule) → Holds s → parties_of s ≤ 32
few unstarted d = omega arith
few (started o cs) d = (in-range o d.0).parties.1

even-kept : (s : Schedule) → Holds s → Even s (replies_of s)
unfolding weight fresh is_one_of
even-kept unstarted d =
    omega (arith, weight-replicate (λ (f : Phase). bit (holds f)) Phase.Free refl PARTIES)
even-kept (started o cs) d = even o d.0 cs

pub every-output : EveryOutput
unfolding EveryOutput EveryInput
every-output input =
    let rs = replies unopened (map request_of (lines_of input)) in
    let s = schedule_of (map request_of (lines_of input)) in
    let f = every-input input in
    let k : (worth : Reply → ℕ) → weight worth (kept rs) ≡ weight worth (replies_of s) =
    λ worth. ap (weight worth) f.1 in
    in_bytes_lem s rs
    (omega (
      arith,
      kept-worth (worth_of (granting (parties_of s))) (no-grant (parties_of s) (few s f.2)) rs,
      kept-worth (worth_of returning) no_return rs,
      k (worth_of (granting (parties_of s))),
      k (worth_of returning),
      even-kept s f.2,
    ))

-- A run writes seven bytes for each call.
frames-length : (calls : List ℕ) (h : Hub) → length (frames_of h (calls_of calls)) ≡ 7 * (length calls / 2)
unfolding calls_of entries rendered
frames-length [] h = refl
frames-length (c ∷ []) h = refl
frames-length (c ∷ p ∷ l) h = omega (arith, frames-length l (called h (record { op = op_of c; party = p })).hub)

-- A run that is done was opened, and left what it writes.
done-opened : (o : Opening) (b : Bool) (x : Outcome) → Ends o b x → (w m : Bool) (out done : List ℕ)
    → let c = (printed x.answer).code in
    (end_if (eqb c 0x1F) w m c out done).result ≡ 0
    → (x.answer ≡ Answer.Opened) × ((end_if (eqb c 0x1F) w m c out done).out ≡ done)
unfolding end_if OwnNumbers
done-opened o false x (refused r) w m out done e =
    let n : refusal_code r ≡ 0 = rw (no-refusal r 0x1F (omega arith)) at e in
    let z : Err (RunError.NotOpened r) ≡ Ok tt = own-numbers (Err (RunError.NotOpened r)) (Ok tt) n in
    let y : ◌≡◌ {A = ℕ} 0 1 = cc in let v : ⊥ = omega arith in absurd v
done-opened o true x accepted false m out done e = absurd (omega (arith, e))
done-opened o true x accepted true false out done e = absurd (omega (arith, e))
done-opened o true x accepted true true out done e = (refl, refl)

pub every-run : EveryRun
unfolding EveryRun
every-run o calls out e =
    let h = (opening o).hub in
    let rest = drop (7 * (length calls / 2)) out in
    let d =
    done-opened o _ _ (ends o (tests o)) (well_formed is_call calls) (leb (length calls / 2) (length out / 7)) out
    (written h calls out) e in
    let same : take (7 * (length calls / 2)) (framed_run (to_open o) calls out).out ≡ frames_of h (calls_of calls) =
    ap (take (7 * (length calls / 2))) d.1
    ∙ take_at (frames_of h (calls_of calls)) rest (7 * (length calls / 2)) (frames-length calls h) in
    subst
    (λ (l : List ℕ). sum (grants_of l) o.parties
    ≡ returns l + count holds (phases_of (run h (calls_of calls)).slots))
    (sym same)
    (in_bytes_lem (started o (calls_of calls)) (map reply_of (entries h (calls_of calls)))
    (even-calls o d.0 (calls_of calls)))
