-- The paper's code, woken party and number of each answer.
use Rattle.std.specs.Prelude.{ℕ}
use Rattle.hub.specs.declared.answers.Answer.{Answer}
use Rattle.hub.specs.declared.answers.Refusal.{Refusal}

pub record Printed : Type 0 where
  pub code : ℕ
  pub woken : ℕ  -- FF if nobody was woken
  pub number : ℕ  -- FFFFFFFF if the answer has none

abbrev pub plain : ℕ → Printed
plain c = record { code = c; woken = 0xFF; number = 0xFFFFFFFF }

abbrev pub with_number : ℕ → ℕ → Printed
with_number c t = record { code = c; woken = 0xFF; number = t }

abbrev pub refusal_code : Refusal → ℕ
refusal_code Refusal.Unfit = 1
refusal_code Refusal.BadPermits = 2
refusal_code Refusal.BadParties = 3
refusal_code Refusal.NoSuchParty = 4
refusal_code Refusal.NotFree = 5
refusal_code Refusal.Exhausted = 6
refusal_code Refusal.Full = 7
refusal_code Refusal.AtRest = 8
refusal_code Refusal.NotWaiting = 9
refusal_code Refusal.NotCancellable = 10
refusal_code Refusal.NotHolding = 11
refusal_code Refusal.SameRadios = 14
refusal_code Refusal.MiscountedKinds = 15
refusal_code Refusal.UnknownKind = 16
refusal_code Refusal.NoDesk = 17

abbrev pub printed : Answer → Printed
printed (Answer.Refused r) = plain (refusal_code r)
printed Answer.Opened = plain 0x1F
printed Answer.Accepted = plain 0x20
printed Answer.Acquired = plain 0x21
printed Answer.MustWait = plain 0x22
printed (Answer.DrewTicket t) = with_number 0x23 t
printed (Answer.Parked t) = with_number 0x24 t
printed (Answer.TookPermit t) = with_number 0x25 t
printed Answer.Returned = plain 0x26
printed Answer.MustResume = plain 0x27
printed (Answer.StartedResume t) = with_number 0x28 t
printed (Answer.LeftPermit t) = with_number 0x29 t
printed (Answer.Woke q t) = record { code = 0x2A; woken = q; number = t }
printed (Answer.Delegated t) = with_number 0x2B t
printed (Answer.Skipped t) = with_number 0x2C t
printed (Answer.ResumeRefused t) = with_number 0x2D t
printed Answer.MustCancel = plain 0x2E
printed Answer.MustRefuse = plain 0x2F
printed (Answer.MarkedCancelled t) = with_number 0x30 t
printed (Answer.PassedOn t) = with_number 0x31 t
printed (Answer.MarkedRefused t) = with_number 0x32 t
printed (Answer.DroppedPermit t) = with_number 0x33 t
printed Answer.Fetched = plain 0x36
printed Answer.NotYet = plain 0x37
printed Answer.Stored = plain 0x38
printed (Answer.Radio r) = with_number 0x39 r
printed Answer.NoRadio = plain 0x39
