-- Whole lists of operations: the line goes on showing the hub.
use Prim.Native.Nat.{ℕ, zero, suc}
use mathlib.Core.Path.{◌≡◌, refl, sym, ap, ap₂, subst, ◌∙◌}
use mathlib.Core.Bool.{true, false}
use mathlib.Core.List.{List, [], ◌∷◌, ◌++◌}
use lib.ListN.{get_or, replicate}
use Rattle.hub.specs.declared.answers.Answer.{Answer}
use Rattle.hub.specs.declared.moves.Call.{Call}
use Rattle.hub.specs.declared.opening.Opening.{Opening}
use Rattle.hub.specs.declared.record.Hub.{Hub}
use Rattle.hub.specs.declared.record.PartySlot.{PartySlot}
use Rattle.hub.specs.Calm.{rests}
use Rattle.hub.specs.Opening.{fresh, opening, tests}
use Rattle.hub.specs.Phases.{at_rest, holds, is_holding, is_one_of}
use Rattle.hub.specs.Record.{PARTIES, free_slot, read_slot}
use Rattle.hub.specs.Schedule.{run}
use Rattle.hub.proofs.Demand3.{start}
use Rattle.hub.proofs.Laws.Bools.{if-true}
use Rattle.hub.proofs.Laws.Opening.{by-opened, ends}
use Rattle.operations.specs.declared.Operated.{Operated}
use Rattle.operations.specs.AtRest.{ComesTo, EndsAtRest, OnRest, is_operation, operated_at_rest}
use Rattle.operations.specs.Operation.{operated, steps_after}
use Rattle.operations.proofs.Operations.{comes-to, ends-at-rest}
use Rattle.operations.proofs.Reached.{at_rest_lem, run_more}
use Rattle.operations.proofs.Rest.{AtRest}
use Rattle.screen.specs.declared.record.Line.{Line}
use Rattle.screen.specs.declared.record.Moved.{Moved}
use Rattle.screen.specs.declared.record.Operation.{Operation}
use Rattle.screen.specs.Line.{holders, holders_from, opened_line, waiters}
use Rattle.screen.specs.Moves.{call_of, line_move, line_opening}
use Rattle.screen.specs.Reached.{DeskRequest, line_after}
use Rattle.screen.specs.Steps.{steps_to_rest, woken_by}
use Rattle.screen.proofs.Reached.Moved.{move-sound, opened-sound}
use Rattle.screen.proofs.Reached.Sound.{Sound}
use Rattle.shown.specs.Parties.{holders_of, waiters_from, waiters_of}
use Rattle.shown.specs.Shows.{Alike, NoSixOrSeven, ScreenShows, call_for, hub_after, hub_told}
use Rattle.shown.specs.Shows.{is_six_or_seven, line_told}
use Rattle.shown.proofs.Parties.{parties-alike, parties-bits}
use Rattle.shown.proofs.Rest.{calm, holds-at-rest, phases}
use Rattle.shown.proofs.Seen.{Seen}
use Rattle.shown.proofs.Moves.{Same, operation-same}

-- A line that shows a record at rest has its holders.
same-holders : (h : Hub) (l : Line) → AtRest h → Seen h l → holders_of h ≡ holders l
unfolding holders_of holders
same-holders h l r s =
    parties-alike 0 holds is_holding (phases h) (λ p. holds-at-rest _ (calm h r p))
    ∙ parties-bits 0 is_holding (phases h) ∙ ap (holders_from 0) (sym s.holding)

-- At an opening nobody holds and nobody waits.
fresh-seen : (o : Opening) → Seen (fresh o) (opened_line o)
unfolding fresh opened_line is_one_of waiters_of waiters_from waiters
fresh-seen o =
    record {
      opened = record { permits = refl; parties = refl; named = refl; kinds = refl };
      holding = refl;
      waiters = refl;
    }

fresh-calm : (o : Opening) (p : ℕ) → rests (fresh o) p ≡ true
unfolding fresh read_slot is_one_of
fresh-calm o p = ap (λ (s : PartySlot). at_rest s.phase) (free PARTIES p)
  where
    free : (n i : ℕ) → get_or (replicate n free_slot) i free_slot ≡ free_slot
    free zero i = refl
    free (suc n) zero = refl
    free (suc n) (suc i) = free n i

is-operation : (o : Operation) (p : ℕ) → is_operation (call_of o p).op ≡ true
is-operation Operation.Acquire p = refl
is-operation Operation.Cancel p = refl
is-operation Operation.Release p = refl

module _ (o : Opening) (e : (opening o).answer ≡ Answer.Opened) where
  abbrev first : Hub
  first = (opening o).hub

  abbrev first_line : Line
  first_line = opened_line o

  -- A record and a line that operations lead to, the line showing the record.
  record Pair (h : Hub) (l : Line) : Type 0 where
    pub calls : List Call
    pub ran : run first calls ≡ h
    pub sound : Sound l
    pub calm : (p : ℕ) → rests h p ≡ true
    pub seen : Seen h l

  -- What is known of the record.
  known : (C : Hub → Type 0) → OnRest C → (h : Hub) (l : Line) → Pair h l → C h
  known C f h l x =
      subst C x.ran (f o e x.calls (λ p. ap (λ (g : Hub). rests g p) x.ran ∙ x.calm p))

  -- One operation more.
  module _ (h : Hub) (l : Line) (x : Pair h l) (r : DeskRequest) where
    abbrev after : Operated
    after = operated h (call_for r)

    abbrev shown : Moved
    shown = line_move l r.operation r.party

    sound-on : Sound shown.line
    sound-on = move-sound l r.operation r.party x.sound

    same_move : is_six_or_seven after.answer ≡ false → Same after l r.operation shown
    unfolding ComesTo
    same_move n =
        let eq : after ≡ operated_at_rest h (call_for r) =
        known (λ g. (c : Call) → is_operation c.op ≡ true → operated g c ≡ operated_at_rest g c) comes-to h l x
        (call_for r) (is-operation r.operation r.party) in
        subst (λ (y : Operated). Same y l r.operation shown) (sym eq)
        (operation-same h l (known AtRest at_rest_lem h l x) x.sound x.seen r.party r.operation
        (ap (λ (y : Operated). is_six_or_seven y.answer) (sym eq) ∙ n) sound-on.fit.short)

    pair-on : is_six_or_seven after.answer ≡ false → Pair after.hub shown.line
    unfolding operated EndsAtRest
    pair-on n =
        record {
          calls = x.calls ++ call_for r ∷ steps_after h (call_for r);
          ran =
              sym (run_more first x.calls (call_for r ∷ steps_after h (call_for r)))
              ∙ ap (λ (g : Hub). run g (call_for r ∷ steps_after h (call_for r))) x.ran;
          sound = sound-on;
          calm =
              known (λ g. (c : Call) → is_operation c.op ≡ true → (p : ℕ) → rests (operated g c).hub p ≡ true)
              ends-at-rest h l x (call_for r) (is-operation r.operation r.party);
          seen = (same_move n).seen;
        }

  every : (h : Hub) (l : Line) (rs : List DeskRequest) → Pair h l → NoSixOrSeven (hub_told h rs)
      → (hub_told h rs ≡ line_told l rs) × Pair (hub_after h rs) (line_after l rs)
  unfolding hub_told hub_after line_told line_after NoSixOrSeven woken_by steps_to_rest
  every h l [] x n = (refl, x)
  every h l (r ∷ rs) x n =
      let m = same_move h l x r n.0 in
      let y = every (operated h (call_for r)).hub (line_move l r.operation r.party).line rs (pair-on h l x r n.0) n.1 in
      (ap₂ ◌∷◌ (λ i. record { answer = m.answer i; woken = m.woken i; steps = m.steps i }) y.0, y.1)

  first-pair : Pair first first_line
  unfolding run line_after
  first-pair =
      record {
        calls = [];
        ran = refl;
        sound = opened-sound o e;
        calm = subst (λ (h : Hub). (p : ℕ) → rests h p ≡ true) (sym (start o e).hub) (fresh-calm o);
        seen = subst (λ (h : Hub). Seen h first_line) (sym (start o e).hub) (fresh-seen o);
      }

  same_line : (line_opening o).line ≡ first_line
  unfolding line_opening
  same_line = if-true _ first_line _ (by-opened o _ _ (ends o (tests o)) e).0

  alike : (rs : List DeskRequest) → NoSixOrSeven (hub_told first rs) → Alike first first_line rs
  alike rs n =
      let y = every first first_line rs first-pair n in
      let x = y.1 in
      record {
        holders = same-holders _ _ (known AtRest at_rest_lem _ _ x) x.seen;
        waiters = sym x.seen.waiters;
        told = y.0;
        kinds = sym x.seen.opened.kinds;
        at_rest = x.calm;
      }

pub screen-shows : ScreenShows
unfolding ScreenShows
screen-shows o e rs n =
    subst (λ (l : Line). Alike (opening o).hub l rs) (sym (same_line o e))
    (alike o e rs n)
