-- A phase as bytes: its name and its ticket; whether it has a mark stands elsewhere.
use Rattle.std.specs.Prelude.{ℕ, ◌%◌, cond, List, [], ◌∷◌, eqb, leb, get_or}
use Rattle.hub.specs.declared.record.Phase.{Phase}
use Rattle.hub.specs.declared.record.Phase.TheVariants.{Free, Holding, Waiting, Acquiring}
use Rattle.hub.specs.declared.record.Phase.TheVariants.{Suspending, Ticketed, Aborting}
use Rattle.hub.specs.declared.record.Phase.TheVariants.{Cancelling, Refusing, Releasing}
use Rattle.hub.specs.declared.record.Phase.TheVariants.{Resuming, ResumingAt, Fetching, Storing}
use Rattle.hub.specs.declared.record.Phase.TheVariants.{AcquiringMarked, SuspendingMarked, TicketedMarked}
use Rattle.hub.specs.Basics.{bit}
use Rattle.hub.specs.Phases.{is_marked, is_one_of, rank, ticket_of}

-- The phases in the order of their names, with their ticket t.
abbrev pub named_phases : ℕ → List Phase
named_phases t =
    Free ∷ Holding ∷ Waiting t ∷ Acquiring ∷ Suspending ∷ Ticketed t ∷ Aborting t ∷ Cancelling t
    ∷ Refusing t ∷ Releasing ∷ Resuming ∷ ResumingAt t ∷ Fetching ∷ Storing ∷ []

-- What has another name is asked.
abbrev pub phase_named : ℕ → ℕ → Phase
phase_named name t = get_or (named_phases t) name Acquiring

-- Asked, unnumbered and numbered with a mark; any other phase as it is.
abbrev pub with_mark : Phase → Phase
with_mark f =
    cond (eqb (rank f) 3) AcquiringMarked
    (cond (eqb (rank f) 4) SuspendingMarked (cond (eqb (rank f) 5) (TicketedMarked (ticket_of f)) f))

-- A mark counts modulo 2.
abbrev pub marked : Phase → ℕ → Phase
marked f mark = cond (eqb (mark % 2) 0) f (with_mark f)

abbrev pub mark_of : Phase → ℕ
mark_of f = bit (is_marked f)

-- The name of a phase. One with a mark has that of the phase without; a phase that has no name is written as asked.
abbrev pub phase_name : Phase → ℕ
phase_name f =
    cond (is_one_of (SuspendingMarked ∷ []) f) 4
    (cond (is_one_of (TicketedMarked 0 ∷ []) f) 5 (cond (leb (rank f) 13) (rank f) 3))
