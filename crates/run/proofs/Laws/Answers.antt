-- The bytes of the calls are requests that make them, and are answered as the schedule is.
use Prim.Native.Nat.{ℕ, suc, ◌*◌, ◌/◌}
use mathlib.Core.Path.{◌≡◌, refl, ap, ◌∙◌}
use mathlib.Core.Bool.{true}
use mathlib.Core.List.{List, [], ◌∷◌, ◌++◌, map}
use native.Mathlib.Omega.{arith}
use lib.ListN.{length, drop}
use Rattle.hub.specs.declared.record.Hub.{Hub}
use Rattle.hub.proofs.Laws.Bools.{first, second, if-true}
use Rattle.encoding.specs.Form.{as_bytes}
use Rattle.encoding.specs.Frame.{is_call, op_of}
use Rattle.line.specs.Program.{is_open, Reply, replies, rendered}
use Rattle.line.specs.Requests.{Request, to_call}
use Rattle.line.proofs.Laws.Schedules.{schedule-replies}
use Rattle.batch.specs.Batch.{requests_in, replied}
use Rattle.run.specs.Bytes.{well_formed, calls_of}
use Rattle.run.specs.Run.{written}

makes-calls : (l : List ℕ) → well_formed is_call l ≡ true
    → requests_in (length l / 2) l ≡ map to_call (calls_of l)
unfolding well_formed calls_of requests_in
makes-calls [] w = refl
makes-calls (c ∷ []) w = let z : ◌≡◌ {A = ℕ} 0 1 = cc in absurd (omega arith)
makes-calls (c ∷ p ∷ l) w =
    ap (λ (n : ℕ). requests_in n (c ∷ p ∷ l)) (half (length l))
    ∙ ap (λ (q : Request). q ∷ requests_in (length l / 2) l)
    (if-true (is_call c) _ _ (first (is_call c) (well_formed is_call l) w))
    ∙ ap (λ (l : List Request). to_call (record { op = op_of c; party = p }) ∷ l)
    (makes-calls l (second (is_call c) (well_formed is_call l) w))
  where
    half : (n : ℕ) → suc (suc n) / 2 ≡ suc (n / 2)
    half n = omega arith

pub all-answered : (calls out : List ℕ) (h : Hub) → well_formed is_call calls ≡ true → is_open h ≡ true
    → replied as_bytes h (length calls / 2) calls out ≡ written h calls out
all-answered calls out h w o =
    ap (λ (l : List Reply). rendered as_bytes l ++ drop (7 * (length calls / 2)) out)
    (ap (replies h) (makes-calls calls w) ∙ schedule-replies (calls_of calls) h o)
