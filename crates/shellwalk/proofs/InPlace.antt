-- The signature of a shell, which takes the record by reference and then what the slots say.
use mathlib.Core.List.{[], ◌∷◌, List}
use denote.Builtin.{RefMutOf}
use denote.Exit.{yes}
use denote.RattleType.{RattleType}
use denote.Signature.{Signature, Slot, plain}
use denote.Triple.Clauses.{Ended}
use denote.Triple.End.{Kepts}
use Rattle.hub.specs.contracts.record.Hub as Hub

abbrev pub signature : List (Slot 1) → RattleType → Signature
signature slots R = record {
  lifetimes = 1;
  outlives = [];
  params = RefMutOf (0 ∷ []) tt (plain (λ _. Hub.the_row)) (λ _. tt) ∷ slots;
  result = plain (λ _. R);
}

abbrev pub ended : (slots : List (Slot 1)) → Kepts slots → RattleType → Ended
ended slots kept R = record { signature = signature slots R; kept = (yes, kept) }
