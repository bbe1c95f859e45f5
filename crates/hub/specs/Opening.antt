-- Opening a hub, with refusals 2, 3 and 14 to 17.
use Rattle.std.specs.Prelude.{ℕ, Bool, true, false, cond, List, [], ◌∷◌, ◌++◌, map, eqb, length, replicate, pos, Result, Ok, Err}
use Rattle.hub.specs.declared.answers.Answer.{Answer}
use Rattle.hub.specs.declared.answers.Refusal.{Refusal}
use Rattle.hub.specs.declared.opening.Opening.{Opening}
use Rattle.hub.specs.declared.record.Figures.{Figures}
use Rattle.hub.specs.declared.record.Hub.{Hub}
use Rattle.hub.specs.declared.record.Outcome.{Outcome}
use Rattle.hub.specs.declared.record.Pool.{Pool}
use Rattle.hub.specs.Basics.{all_of, implies, up_to32}
use Rattle.hub.specs.Kinds.{built_in, has_desk, kinds_known}
use Rattle.hub.specs.Radios.{STORE, differ, radios_of, padded}
use Rattle.hub.specs.Record.{PARTIES, control_of, empty_seat, free_slot, of_fields}
use Rattle.hub.specs.Ring.{PLACES}

-- Opening 01: K and n. Without kinds the parties have those of the built-in table, here and in 02.
abbrev pub sized : ℕ → ℕ → Opening
sized k n =
    record {
      permits = k;
      parties = n;
      named = false;
      radios = replicate STORE 0;
      kinds = built_in;
      counted = true;
    }

-- Opening 02: K, n, and K radios.
abbrev pub with_radios : ℕ → ℕ → List ℕ → Opening
with_radios k n rs =
    record {
      permits = k;
      parties = n;
      named = true;
      radios = padded rs;
      kinds = built_in;
      counted = true;
    }

-- Either of them with a house's own kinds. Those that are not 32 in number are not kept.
abbrev pub with_kinds : List ℕ → Opening → Opening
with_kinds ks o =
    let whole = eqb (length ks) PARTIES in
    record {
      permits = o.permits;
      parties = o.parties;
      named = o.named;
      radios = o.radios;
      kinds = cond whole ks built_in;
      counted = whole;
    }

abbrev pub figures_at : Opening → Figures
figures_at o =
    record { counter = pos o.permits; issued = 0; resumed = 0; begun = 0 }

-- All radios are stored, in the opening's order; without radios it counts for nothing.
abbrev pub pool_at : Opening → Pool
pool_at o =
    record {
      hands = replicate PARTIES 0;
      laid = replicate PLACES 0;
      store = padded o.radios;
      first = 0;
      stored = o.permits;
    }

-- The record of a hub just opened.
unfoldable pub fresh : Opening → Hub
fresh o =
    of_fields (replicate PLACES empty_seat) (replicate PARTIES free_slot) (control_of o (figures_at o) 0 (pool_at o))

-- A refused opening makes no record; what stands in its place refuses every call by 1.
abbrev pub nobody : Opening
nobody = sized 0 0

abbrev pub not_opened : Refusal → Outcome
not_opened r = record { answer = Answer.Refused r; hub = fresh nobody }

-- A test of an opening, and what the opening is refused by if it fails.
pub record Test : Type 0 where
  pub passed : Bool
  pub why : Refusal

abbrev pub test : Bool → Refusal → Test
test b r = record { passed = b; why = r }

abbrev pub all_passed : List Test → Bool
all_passed ts = all_of (map (λ (t : Test). t.passed) ts)

-- No two radios of an opening are alike.
unfoldable pub radios_differ : Opening → Bool
radios_differ o = implies o.named (differ (radios_of o))

-- 2, 3 and 14.
abbrev pub link_tests : Opening → List Test
link_tests o =
    test (up_to32 o.permits) Refusal.BadPermits
    ∷ test (up_to32 o.parties) Refusal.BadParties
    ∷ test (radios_differ o) Refusal.SameRadios
    ∷ []

-- 15, 16 and 17: all 32 kinds are looked at.
abbrev pub kind_tests : Opening → List Test
kind_tests o =
    test o.counted Refusal.MiscountedKinds
    ∷ test (kinds_known o.kinds) Refusal.UnknownKind
    ∷ test (has_desk o.kinds) Refusal.NoDesk
    ∷ []

abbrev pub tests : Opening → List Test
tests o = link_tests o ++ kind_tests o

-- The first test that fails decides.
unfoldable pub opening_if : List Test → Opening → Outcome
opening_if [] o = record { answer = Answer.Opened; hub = fresh o }
opening_if (t ∷ ts) o = cond t.passed (opening_if ts o) (not_opened t.why)

abbrev pub opening : Opening → Outcome
opening o = opening_if (tests o) o

-- The same as a result: why it is refused, or what is asked for.
abbrev pub unless_refused : {A : Type 0} → A → Answer → Result A Refusal
unless_refused x (Answer.Refused r) = Err r
unless_refused x a = Ok x

-- And back.
abbrev pub opened : Result Hub Refusal → Outcome
opened (Ok h) = record { answer = Answer.Opened; hub = h }
opened (Err r) = not_opened r

-- And its answer alone.
abbrev pub answered : {A : Type 0} → Result A Refusal → Answer
answered (Ok x) = Answer.Opened
answered (Err r) = Answer.Refused r
