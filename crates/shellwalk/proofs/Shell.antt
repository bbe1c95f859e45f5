-- A shell hands the fields behind a `&mut Hub` to a function over them, stores the record that it answers and returns
-- the rest, so it meets its contract whatever that function answers: one walk serves all shells.
use mathlib.Core.Path.{◌≡◌, refl, ap}
use Prim.Native.Nat.{ℕ, ◌<◌, ◌^◌}
use mathlib.Core.List.{[], ◌∷◌, List}
use seplogic.Ra.Ura.{Ura}
use base.Fraction.{full_share}
use mir.Syntax.{Callee, Ty, Body, Opd as Operand, named, mut, w8, ty_ref, ty_array, place}
use mir.Val.{Val, vint, vptr}
use base.Logic.{SProp, ent, emp, via, fst∗}
use base.Stored.{Gv}
use base.Fml.{GName, Lft, Share, ftrue, fat, fauth, flft, fobor, fobs, fbor}
use prog.Wp.{Calls, Loops}
use types.Logic.{Logic, sem}
use contract.Lifetimes.{Lfts}
use contract.Monad.{Fun, Mono}
use contract.Notation as Notation
use types.Kit.{
  Item,
  Goal,
  Go,
  Post,
  Step,
  Soaks,
  Sq,
  prop,
  runs,
  lands,
  step,
  ‵,
  raw,
  ◌⊛◌,
  ◌$◌,
  ◌∵◌,
  !,
  qed,
  move,
  keep,
  use0,
  use1,
  split,
  join,
  fsplit,
  fsplit3,
  fjoin,
  fjoin3,
  feq_i,
  suffices,
  frame,
  done,
}
use types.Run.{Opd}
use types.SemTy.{Body as Held}
use sound.WpLaws.{FmC}
use denote.RattleType.{RattleType, Denots, Valss, flat, owns}
use denote.Laws.{Are, Is, Ises, Spells, Tellss, shows, valss}
use denote.Memory.{mem, pointee, cell_at}
use denote.Ref.{MutRef, mut_vals, mut_Tells}
use denote.Signature.{Slot, plain, types_at}
use denote.Steps.{opens, closes, owned, facts, nothing}
use denote.Struct.Laws as LL
use denote.Struct.Steps.{spelt}
use denote.Triple.Statement.{Contract, Triple}
use denote.Triple.Clauses.{Clauses, Ended, closing}
use denote.Triple.End.{Kepts, Fins}
use denote.Triple.Spec.{Meets, triple_of}
use denote.Triple.Walked.{
  says,
  Stays,
  stay_ref,
  walk_of,
  AllGo,
  fits_of,
  Goes-ref,
  has_of,
  ends_at,
  walked,
  walk_Meets,
}
use Rattle.hub.specs.declared.answers.Answer.{Answer}
use Rattle.hub.specs.declared.moves.Op.{Op}
use Rattle.hub.specs.declared.record.Hub.{Hub}
use Rattle.hub.specs.Answers.{printed}
use Rattle.hub.specs.contracts.moves.Op as O
use Rattle.hub.proofs.record.Control.TheLaws as Control'
use Rattle.hub.specs.contracts.record.Hub as T
use Rattle.hub.proofs.record.Hub.TheLaws as T'
use Rattle.hub.proofs.record.PartySlot.TheLaws as PartySlot'
use Rattle.hub.proofs.record.PlaceSlot.TheLaws as PlaceSlot'
use Rattle.shellwalk.proofs.Body.{ShellSpots, Types, cleared, env, handing, hands-over, taken}
use Rattle.shellwalk.proofs.InPlace as shell
use Rattle.shellwalk.proofs.OverFields.{Core, answers, field_vals, goes-core, hub_val, to-core, typed}

-- What a shell does, beside the code: the parameters after the reference, which stay as they were; what the function
-- over the fields answers, the record in it, and what the shell tells of it, the hub's answer in that.
pub record Kind : Type 2 where
  pub slots : List (Slot 1)
  pub kept : Kepts slots
  pub stay : Stays slots kept
  pub Left : RattleType
  pub Told : RattleType
  pub hub : Left.Denot → Hub
  pub told : Left.Denot → Told.Denot
  pub answer : Told.Denot → Answer
  pub does : (κs : Lfts 1) → Hub → Denots (types_at slots κs) → Left.Denot

abbrev pub ended : Kind → Ended
ended k = shell.ended k.slots k.kept k.Told

abbrev stayed : (k : Kind) → Stays (ended k).signature.params (ended k).kept
stayed k = (stay_ref (0 ∷ []) tt (plain (λ _. T.the_row)), k.stay)

-- what a shell shows of what the function left: what it tells, what the paper prints for the answer, and the record
abbrev pub Does : (k : Kind) → k.Left.Denot → k.Told.Denot → Hub → Type 0
Does k l r h = (r ≡ k.told l) × (printed (k.answer r) ≡ printed (k.answer (k.told l))) × (h ≡ k.hub l)

shown : (k : Kind) {l r : k.Left.Denot} → r ≡ l → Does k l (k.told r) (k.hub r)
shown k e = (ap k.told e, ap (λ (y : k.Left.Denot). printed (k.answer (k.told y))) e, ap k.hub e)

module _ {M : Type 1} (𝓤 : Ura M) (k : Kind) where
  open Notation.connectives 𝓤 use {⌜◌⌝, ⊤ₛ}

  abbrev pub clauses : Clauses 𝓤 (ended k)
  clauses = λ κs a. record {
    ghost = Unit {0};
    requires = λ g. ⊤ₛ;
    ensures = λ g r e. ⌜ Does k (k.does κs a.0.now a.1) r e.0.now ⌝;
  }

module _ {M : Type 1} {𝓤 : Ura M} (𝓛 : Logic 𝓤) (k : Kind) where
  abbrev pub Shell : Contract 𝓤
  Shell = triple_of 𝓛 (ended k).signature (closing 𝓛 (ended k) (clauses 𝓤 k))

-- the record behind the reference, borrowed: h is what it is, under the name γ
module _ {M : Type 1} {𝓤 : Ura M} (𝓛 : Logic 𝓤) (κ : Lft) (q : Share) (b o : ℕ)
    (γ : GName) where
  open 𝓛 use {H}

  abbrev pub borrowed : Hub → List (Item 𝓤) → List (Item 𝓤)
  borrowed h Γ =
      ‵ (fobs γ ((T.the_row).coded.code h)) ∷ ‵ (fbor κ (Held (mem T.the_row) b o γ)) ∷ ‵ (flft κ q) ∷ Γ

  -- while the borrow is open: the borrow itself, and what its name says to the caller and to the record
  abbrev pub X : Item 𝓤
  X = ‵ (fobor κ q (Held (mem T.the_row) b o γ))

  abbrev pub Y : Gv → Item 𝓤
  Y g = ‵ (fobs γ g)

  abbrev pub Z : Gv → Item 𝓤
  Z g = ‵ (fauth γ g)

  -- the borrow is opened
  pub opening :
      (h : Hub) (Γ : List (Item 𝓤)) (G : Goal 𝓤 H) → Soaks G
      → (Is T.the_row h (hub_val h ∷ [])
      → Sq 𝓛
      (‵ (fat full_share T'.mir b o (hub_val h)) ∷ X ∷ Y ((T.the_row).coded.code h) ∷ Z ((T.the_row).coded.code h)
      ∷ Γ) G)
      → Sq 𝓛 (borrowed h Γ) G
  opening h Γ G z k =
      opens ! z T.the_row {h = h} b o (λ vs.
      spelt ! T.the_row (Is T.the_row) (shows 𝓛 T.the_row) (LL.vals T.the_type T'.the_laws)
      (LL.tells T.the_type T'.the_laws) full_share h vs b o $
      use1 𝓛 (‵ (fat full_share T'.mir b o (hub_val h))) (𝓛.laws.raw_at full_share T'.mir b o (hub_val h)) $
      move ! (1 ∷ []) $ facts ! T.the_row (Is T.the_row) (shows 𝓛 T.the_row) h (hub_val h ∷ []) k)

  -- and closed over another record
  pub shuts :
      (h : Hub) → Is T.the_row h (hub_val h ∷ []) → (g : Gv) (Γ : List (Item 𝓤)) (G : Goal 𝓤 H) → Soaks G
      → Step (Go {0}) 𝓛 (borrowed h Γ) G (‵ (fat full_share T'.mir b o (hub_val h)) ∷ X ∷ Y g ∷ Z g ∷ Γ) G
  shuts h is g Γ G z =
      step (λ s.
      owned ! T.the_row (Is T.the_row) (LL.makes T.the_type T'.the_plain 𝓛) h _ is $ move ! (1 ∷ []) $
      use1 𝓛 (‵ (cell_at full_share (T.the_row).mir (hub_val h ∷ []) b o))
      (𝓛.laws.at_raw full_share T'.mir b o (hub_val h)) $ closes ! z T.the_row h (hub_val h ∷ []) b o $ s)

-- a shell's locals: what it returns, the reference, three more, the record's fields
abbrev pub ref : Ty
ref = ty_ref (named 0) mut (pointee (T.the_row).written)

abbrev pub field_types : List Ty
field_types =
    ty_array PlaceSlot'.mir 256
    ∷ ty_array PartySlot'.mir 32
    ∷ Control'.mir
    ∷ []

abbrev pub local_types : Ty → Ty → Ty → Ty → Types
local_types τ₀ τ₂ τ₃ τ₄ = record { t0 = τ₀; t1 = ref; t2 = τ₂; t3 = τ₃; t4 = τ₄; fields = field_types }

-- the call of the function over the fields, which has the contract D: what it answers lands in local d
module _ {M : Type 1} {𝓤 : Ura M} (𝓛 : Logic 𝓤) (C : Calls 𝓤 𝓛.H) (Λ : Loops 𝓤 𝓛.H)
    (R : RattleType) (D : Hub → Op → ℕ → R.Denot) (τ₀ τ₂ τ₃ τ₄ : Ty) (s : ShellSpots field_types) (b o : ℕ) (X Y Z i₂ i₃ i₄ : Item 𝓤)
  where
    open 𝓛 use {H}

    abbrev t : Types
    t = local_types τ₀ τ₂ τ₃ τ₄

    pub over-fields :
        FmC 𝓤 H 𝓛.laws C → (key : Callee) → Triple 𝓤 (C key) (Core 𝓛 R D)
        → (x y : Operand) (d : ℕ) (rest : Body) (q : Post 𝓤 H) (h : Hub) (a : Op) (u : Val) (n : ℕ)
        → Is T.the_row h (hub_val h ∷ []) → Is O.the_row a (u ∷ []) → n < 2 ^ 8
        → Opd (Go {0}) 𝓛
        (raw ((Core 𝓛 R D).pre (to-core 𝓛 R D a u h n))
        ∷ taken 𝓛 C Λ t s T'.mir b o X Y Z i₂ i₃ i₄ (field_vals h)) (env 𝓤 H t s) x u
        → Opd (Go {0}) 𝓛
        (raw ((Core 𝓛 R D).pre (to-core 𝓛 R D a u h n))
        ∷ taken 𝓛 C Λ t s T'.mir b o X Y Z i₂ i₃ i₄ (field_vals h)) (env 𝓤 H t s) y (vint w8 n)
        → ((v : Val) (r : R.Denot) → r ≡ D h a n → Is R r (v ∷ [])
        → Sq 𝓛 (cleared 𝓛 C Λ t s T'.mir b o X Y Z i₂ i₃ i₄ (hub_val h))
        (lands C Λ (env 𝓤 H t s) (place d []) v rest q))
        → Sq 𝓛 (cleared 𝓛 C Λ t s T'.mir b o X Y Z i₂ i₃ i₄ (hub_val h))
        (runs C Λ (env 𝓤 H t s) (handing T'.mir field_types key x y d rest) q)
    over-fields fm key known x y d rest q h a u n is is-op fits is_x is_y k =
        hands-over 𝓛 C Λ t s T'.mir b o X Y Z i₂ i₃ i₄ (field_vals h) fm
        (refl, (refl, (refl, tt))) (refl, (refl, (refl, tt)))
        (typed 𝓛 h is)
        key x y d rest q u (vint w8 n) ((Core 𝓛 R D).pre (to-core 𝓛 R D a u h n))
        ((Core 𝓛 R D).post (to-core 𝓛 R D a u h n)) (goes-core 𝓛 R D a u h n is-op fits is)
        (known (to-core 𝓛 R D a u h n)) is_x is_y (λ v.
        answers 𝓛 R D a u h n v _ _ tt (k v))

-- what a shell of a kind is to reach, from what it is called with: a reference to h at (b, o), x, and x's machine values vs
module _ {M : Type 1} {𝓤 : Ura M} (𝓛 : Logic 𝓤) (k : Kind) where
  module _ (κ : Lft) (q : Share) (b o : ℕ) (γ : GName) (h : Hub) (x : Denots (types_at k.slots (κ, tt)))
      (vs : Valss (types_at k.slots (κ, tt))) where
    abbrev bound : (walk_of 𝓛 (ended k) (stayed k) (clauses 𝓤 k)).Ghost
    bound = (((κ, tt), (q, tt), tt, (record { ref_ptr = (b, o); ghost_name = γ; now = h }, x), (vptr b o ∷ [], vs)), tt)

    abbrev pub AtEnd : Val → SProp 𝓤
    AtEnd = (walk_of 𝓛 (ended k) (stayed k) (clauses 𝓤 k)).post bound

    -- it is reached with the record that the function left behind the reference
    pub reaches :
        (ws : Fins (κ, tt) k.slots k.kept x) → fits_of (κ, tt) k.slots k.kept k.stay x ws
        → ent 𝓤 (emp 𝓤) (sem 𝓛 (has_of (κ, tt) k.slots k.kept k.stay x ws vs))
        → (r : k.Left.Denot) → r ≡ k.does (κ, tt) h x → (v : Val)
        → ent 𝓤 (emp 𝓤) (sem 𝓛 (k.Told.own_val (k.told r) (v ∷ [])))
        → Sq 𝓛 (borrowed 𝓛 κ q b o γ (k.hub r) []) (prop (AtEnd v))
    reaches ws fit has r e v tells =
        suffices ! _ (ends_at 𝓛 (ended k) (stayed k) (clauses 𝓤 k) bound v (k.told r) (k.hub r, ws) (tt, fit)) $
        says ! (shown k e) $ nothing ! $ move ! (3 ∷ 0 ∷ []) $ join ! $ frame ! $
        feq_i ! (List Val) (vptr b o ∷ []) (vptr b o ∷ []) refl $ fjoin3 ! $
        use0 𝓛 (‵ (has_of (κ, tt) k.slots k.kept k.stay x ws vs)) has $
        move ! (1 ∷ 0 ∷ []) $ fjoin ! $ frame ! $ use0 𝓛 (‵ (k.Told.own_val (k.told r) (v ∷ []))) tells $ done !

  -- so a function that reaches it from the borrow meets the shell's contract
  pub meets :
      AllGo 𝓛 1 k.slots k.kept k.stay → (sp : (κs : Lfts 1) → Spells (types_at k.slots κs))
      → ((κs : Lfts 1) → Tellss (types_at k.slots κs) (Ises (types_at k.slots κs)) (sp κs))
      → (run : Fun 𝓤) → ((vs : List Val) → Mono 𝓤 (run vs))
      → ((κ : Lft) (q : Share) (b o : ℕ) (γ : GName) (h : Hub) (x : Denots (types_at k.slots (κ, tt)))
      → Are (types_at k.slots (κ, tt)) (Ises (types_at k.slots (κ, tt))) x
      (valss (types_at k.slots (κ, tt)) (sp (κ, tt)) x)
      → Sq 𝓛 (borrowed 𝓛 κ q b o γ h [])
      (prop
      (run (vptr b o ∷ flat (types_at k.slots (κ, tt)) (valss (types_at k.slots (κ, tt)) (sp (κ, tt)) x))
      (AtEnd κ q b o γ h x (valss (types_at k.slots (κ, tt)) (sp (κ, tt)) x)))))
      → Meets 𝓛 (ended k).signature run (closing 𝓛 (ended k) (clauses 𝓤 k))
  meets go sp tells run mono walk =
      walk_Meets 𝓛 (ended k) (stayed k) (Goes-ref 𝓛 1 0 tt (plain (λ _. T.the_row)), go) (clauses 𝓤 k) run mono
      (walked 𝓛 (ended k) (stayed k) (clauses 𝓤 k) run (λ κs. (mut_vals, sp κs))
      (λ κs. (mut_Tells (named 0) κs.0 T.the_row, tells κs))
      (λ κs qs bounds y g are. via 𝓤 _ (fst∗ 𝓤 _ (emp 𝓤))
      (qed 𝓛 ((‵ (flft κs.0 qs.0) ⊛ ‵ ftrue)
      ∷ ‵ (owns (MutRef (named 0) κs.0 T.the_row ∷ types_at k.slots κs) y
      (vptr y.0.ref_ptr.0 y.0.ref_ptr.1 ∷ [], valss (types_at k.slots κs) (sp κs) y.1)) ∷ []) ∵
      split ! $ move ! (2 ∷ []) $ fsplit ! $ fsplit3 ! $ keep ! (1 ∷ 2 ∷ 4 ∷ []) $
      walk κs.0 qs.0 y.0.ref_ptr.0 y.0.ref_ptr.1 y.0.ghost_name y.0.now y.1 are.1)))
