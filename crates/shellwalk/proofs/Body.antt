-- The body of a shell, walked over types and values that are left open, so that what is here is said once and costs
-- little: the fields behind the reference go to a function over them, and what it answers is stored.
use mathlib.Core.Path.{◌≡◌, refl, subst, sym}
use Prim.Native.Nat.{ℕ, suc, ◌+◌}
use mathlib.Core.List.{[], ◌∷◌, ◌++◌, List}
use mathlib.Core.Option
use lib.Dec.{T as Holds}
use seplogic.Ra.Ura.{Ura}
use base.Fraction.{full_share}
use mir.Syntax.{
  Callee,
  Ty,
  Fn,
  ty_int,
  ty_bool,
  ty_float,
  ty_ptr,
  ty_ref,
  ty_array,
  ty_unit,
  ty_struct,
  ty_enum,
  ty_param,
  ty_const,
  ty_array_p,
  ty_named,
  Body,
  Opd as Operand,
  Rv as RValue,
  local,
  value_local,
  place,
  deref,
  field,
  copy,
  rv_opd,
  assign,
  call,
  seq,
  return,
}
use mir.Fields.{get_v, set_v}
use mir.Val.{Val, Vals, WT, has_ty, vptr, vstruct}
use base.Logic.{SProp, ent}
use base.Fml.{ftrue, fat, fdies, froom}
use prog.Memory.{field_of}
use prog.Wp.{Heap, Env, Spot, Calls, Loops, WpFn, spot_of}
use types.Logic.{Logic, sem}
use types.Kit.{
  Item,
  Goal,
  Go,
  Post,
  Step,
  Soaks,
  Sq,
  prop,
  runs,
  lands,
  passes,
  at_ret,
  mean,
  nth,
  ‵,
  raw,
  ◌$◌,
  !,
  move,
  use1,
}
use types.Run.{
  Opd,
  Rv,
  Walks,
  look,
  init,
  forget,
  stop,
  hop,
  fld,
  from,
  load,
  of_opd,
  and_then,
  assigns,
  returns,
  enter,
  alloc1,
  params1,
  free1,
}
use types.Part.{Part, whole, sub, look_in, store_in}
use sound.WpLaws.{FmC}
use denote.Steps.{nothing}
use denote.Triple.Call.{calls_from}
use Rattle.shellwalk.proofs.Locals.{
  Lie,
  Spots,
  all-emptied,
  allocates,
  behind,
  copies,
  env_of,
  filled,
  found,
  holding,
  holds,
  joins,
  locals,
  nothing-behind,
  releases,
  rooms,
  swapped,
  unset,
  values,
}

-- a value is of a machine type
abbrev pub OfTy : Ty → Val → Type 0
OfTy τ v = Holds (has_ty τ v) × WT v

-- where field k lies in a record of type m
abbrev pub offset_in : Ty → ℕ → ℕ
offset_in m k = (Option.get_or (field_of m k) (m, 0)).1

module _ {M : Type 1} {𝓤 : Ura M} (𝓛 : Logic 𝓤) where
  -- a type that has a field is a struct
  open 𝓛 use {H}

  part_of :
      (m : Ty) (k : ℕ) (τ : Ty) (d b o : ℕ) (vs : Vals) → field_of m k ≡ Option.some (τ, d)
      → Part (Go {0}) 𝓛 (‵ (fat full_share m b o (vstruct vs))) full_share τ b (o + d) (get_v vs k)
      (λ u. ‵ (fat full_share m b o (vstruct (set_v vs k u))))
  part_of (ty_struct ν τs) k τ d b o vs e = sub ! k e (whole !)
  part_of (ty_int w) k τ d b o vs e = absurd (Option.none-ne-some (τ, d) e)
  part_of ty_bool k τ d b o vs e = absurd (Option.none-ne-some (τ, d) e)
  part_of (ty_float f) k τ d b o vs e = absurd (Option.none-ne-some (τ, d) e)
  part_of ty_ptr k τ d b o vs e = absurd (Option.none-ne-some (τ, d) e)
  part_of (ty_ref κ μ σ) k τ d b o vs e = absurd (Option.none-ne-some (τ, d) e)
  part_of (ty_array σ n) k τ d b o vs e = absurd (Option.none-ne-some (τ, d) e)
  part_of ty_unit k τ d b o vs e = absurd (Option.none-ne-some (τ, d) e)
  part_of (ty_enum ν τss) k τ d b o vs e = absurd (Option.none-ne-some (τ, d) e)
  part_of (ty_param ι) k τ d b o vs e = absurd (Option.none-ne-some (τ, d) e)
  part_of (ty_const ι) k τ d b o vs e = absurd (Option.none-ne-some (τ, d) e)
  part_of (ty_array_p υ ι) k τ d b o vs e = absurd (Option.none-ne-some (τ, d) e)
  part_of (ty_named ν θ) k τ d b o vs e = absurd (Option.none-ne-some (τ, d) e)

  -- field k of the record that local i holds, which entry n says
  pub field_in :
      (Γ : List (Item 𝓤)) (E : Env 𝓤 H) (i k n : ℕ) (m τ : Ty) (l d : ℕ) (vs : Vals)
      → spot_of 𝓤 H E i ≡ (m, l, 0) → nth 𝓛 n Γ ≡ ‵ (fat full_share m l 0 (vstruct vs))
      → field_of m k ≡ Option.some (τ, d) → Opd (Go {0}) 𝓛 Γ E (copy (place i (field k ∷ []))) (get_v vs k)
  field_in Γ E i k n m τ l d vs at has f =
      load !
      (from !
      (subst (λ (sp : Spot 𝓤 H). Walks (Go {0}) 𝓛 Γ E sp (field k ∷ []) (τ, l, 0 + d)) (sym at) (fld ! f (stop !))))
      (look_in ! n
      (subst (λ (j : Item 𝓤). Part (Go {0}) 𝓛 j full_share τ l (0 + d) (get_v vs k)
      (λ u. ‵ (fat full_share m l 0 (vstruct (set_v vs k u))))) (sym has) (part_of m k τ d l 0 vs f)))

-- field k of the record behind the reference, of type m, goes to local i
abbrev pub reads : Ty → ℕ → ℕ → Body → Body
reads m i k = seq (assign (place i []) (rv_opd (copy (place 1 (deref m ∷ field k ∷ [])))))

-- the fields from the kth on go to the locals from the ith on, one for each of these types
abbrev pub reads_all : Ty → List Ty → ℕ → ℕ → Body → Body
reads_all m [] i k rest = rest
reads_all m (τ ∷ τs) i k rest = reads m i k (reads_all m τs (suc i) (suc k) rest)

-- all go to the locals from the fifth on, and with x and y before them to the function called key, which answers into local d
abbrev pub handing : Ty → List Ty → Callee → Operand → Operand → ℕ → Body → Body
handing m τs key x y d rest =
    reads_all m τs 5 0 (seq (call key (x ∷ y ∷ copies τs 5) (place d [])) rest)

-- the record that src has is stored behind the reference, and rv is what is returned
abbrev pub storing : Ty → Operand → RValue → Body
storing m src rv =
    seq (assign (place 1 (deref m ∷ [])) (rv_opd src)) (seq (assign (place 0 []) rv) return)

-- the types of a shell's locals: what it returns, the reference, three more, the record's fields
pub record Types : Type 0 where
  pub t0 : Ty
  pub t1 : Ty
  pub t2 : Ty
  pub t3 : Ty
  pub t4 : Ty
  pub fields : List Ty

-- and where they lie
pub record ShellSpots (τs : List Ty) : Type 0 where
  pub l0 : ℕ
  pub l1 : ℕ
  pub l2 : ℕ
  pub l3 : ℕ
  pub l4 : ℕ
  pub fields : Spots τs

-- a shell of p parameters
abbrev pub shell_of : ℕ → Types → Body → Fn
shell_of p t b = record {
  lifetimes = 1;
  outlives = [];
  ty_params = [];
  givens = 0;
  params = p;
  locals =
      local t.t0 value_local
      ∷ local t.t1 value_local
      ∷ local t.t2 value_local
      ∷ local t.t3 value_local
      ∷ local t.t4 value_local
      ∷ locals t.fields;
  body = b;
}

module _ {M : Type 1} (𝓤 : Ura M) (H : Heap 𝓤) (t : Types) (s : ShellSpots t.fields) where
  abbrev pub passed : Env 𝓤 H
  passed =
      (t.t1, s.l1) ∷ (t.t2, s.l2) ∷ (t.t3, s.l3) ∷ (t.t4, s.l4) ∷ env_of 𝓤 H t.fields s.fields

  abbrev pub env : Env 𝓤 H
  env = (t.t0, s.l0) ∷ passed

-- the fields of a record of type m, from the kth on, are of these types
abbrev pub Fields : Ty → List Ty → ℕ → Type 0
Fields m [] k = Unit {0}
Fields m (τ ∷ τs) k = (field_of m k ≡ Option.some (τ, offset_in m k)) × Fields m τs (suc k)

module _ {M : Type 1} {𝓤 : Ura M} (𝓛 : Logic 𝓤) (C : Calls 𝓤 𝓛.H) (Λ : Loops 𝓤 𝓛.H) (t : Types)
  where
    -- the locals are there, and the parameters are still to be passed
    open 𝓛 use {H}

    pub enters :
        (Γ : List (Item 𝓤)) (p : ℕ) (b : Body) (vs : List Val) (Q : Val → SProp 𝓤)
        → ((s : ShellSpots t.fields)
        → Sq 𝓛
        (unset t.t4 s.l4 (unset t.t3 s.l3 (unset t.t2 s.l2 (unset t.t1 s.l1
        (unset t.t0 s.l0 Γ)))) ++ rooms t.fields s.fields)
        (passes (passed 𝓤 H t s) vs (runs C Λ (env 𝓤 H t s) b (at_ret (env 𝓤 H t s) Q))))
        → Sq 𝓛 Γ (prop (WpFn 𝓤 H C Λ (shell_of p t b) vs Q))
    enters Γ p b vs Q k =
        enter ! C Λ (shell_of p t b) vs Q $
        alloc1 ! (λ l₀. alloc1 ! (λ l₁. alloc1 ! (λ l₂. alloc1 ! (λ l₃. alloc1 ! (λ l₄.
        allocates 𝓛 t.fields _ _ (λ s. params1 ! $ swapped 𝓛 (rooms t.fields s) _ _ $
        k record { l0 = l₀; l1 = l₁; l2 = l₂; l3 = l₃; l4 = l₄; fields = s }))))))

    -- the record, of type m at (b, o), behind the reference; its borrow is open, which X, Y and Z say, and i₂, i₃ and i₄
    -- are what the locals between hold
    module _ (s : ShellSpots t.fields) (m : Ty) (b o : ℕ) (X Y Z i₂ i₃ i₄ : Item 𝓤) where
      -- [the record; its open borrow, three; _4; …; _3; …; _0; …] stand in front of the fields' locals
      abbrev front : Val → List (Item 𝓤)
      front w =
          ‵ (fat full_share m b o w) ∷ X ∷ Y ∷ Z ∷ i₄ ∷ ‵ (fdies t.t4 s.l4) ∷ i₃ ∷ ‵ (fdies t.t3 s.l3)
          ∷ i₂ ∷ ‵ (fdies t.t2 s.l2) ∷ holds t.t1 s.l1 (vptr b o) (unset t.t0 s.l0 [])

      abbrev opened : Val → List (Item 𝓤) → List (Item 𝓤)
      opened w Γ = ‵ (fat full_share m b o w) ∷ X ∷ Y ∷ Z ∷ Γ

      -- the locals of the fields hold nothing
      abbrev pub cleared : Val → List (Item 𝓤)
      cleared w = front w ++ rooms t.fields s.fields

      -- they hold the fields
      abbrev pub taken : Vals → List (Item 𝓤)
      taken vs = front (vstruct vs) ++ filled vs t.fields s.fields 0 []

      module _ (vs : Vals) where
        -- the values of the fields from the kth on are of these types
        abbrev pub OfTys : List Ty → ℕ → Type 0
        OfTys [] k = Unit {0}
        OfTys (τ ∷ τs) k = OfTy τ (get_v vs k) × OfTys τs (suc k)

        -- a field goes to its local
        abbrev takes :
            (Γ : List (Item 𝓤)) (k : ℕ) (τ : Ty) → field_of m k ≡ Option.some (τ, offset_in m k)
            → Rv (Go {0}) 𝓛 (front (vstruct vs) ++ Γ) (env 𝓤 H t s) (rv_opd (copy (place 1 (deref m ∷ field k ∷ []))))
            (get_v vs k)
        takes Γ k τ f =
            of_opd ! (load ! (from ! (hop ! (look ! 10 refl) (fld ! f (stop !))))
            (look_in ! 0 (part_of 𝓛 m k τ (offset_in m k) b o vs f)))

        take_all :
            (τs : List Ty) (r : Spots τs) (i k : ℕ) (Γ : List (Item 𝓤)) → Lie 𝓤 H (env 𝓤 H t s) τs r i → Fields m τs k
            → OfTys τs k → (rest : Body) (q : Post 𝓤 H)
            → Sq 𝓛 (front (vstruct vs) ++ filled vs τs r k Γ) (runs C Λ (env 𝓤 H t s) rest q)
            → Sq 𝓛 (front (vstruct vs) ++ (rooms τs r ++ Γ)) (runs C Λ (env 𝓤 H t s) (reads_all m τs i k rest) q)
        take_all [] r i k Γ at has ty rest q then = then
        take_all (τ ∷ τs) r i k Γ at has ty rest q then =
            assigns ! (takes (unset τ r.0 (rooms τs r.1 ++ Γ)) k τ has.0)
            (found 𝓛 (front (vstruct vs) ++ unset τ r.0 (rooms τs r.1 ++ Γ)) (env 𝓤 H t s) i at.0)
            (init ! 14 refl ty.0) $
            behind 𝓛 (front (vstruct vs)) (holds τ r.0 (get_v vs k) (rooms τs r.1 ++ Γ))
            (rooms τs r.1 ++ holds τ r.0 (get_v vs k) Γ) _ (joins 𝓛 τ r.0 (get_v vs k) τs r.1 Γ) $
            take_all τs r.1 (suc i) (suc k) (holds τ r.0 (get_v vs k) Γ) at.1 has.1 ty.1 rest q then

        -- the call, from what the function asks, which is had for nothing, to what it leaves
        pub hands-over :
            FmC 𝓤 H 𝓛.laws C → Lie 𝓤 H (env 𝓤 H t s) t.fields s.fields 5 → Fields m t.fields 0
            → OfTys t.fields 0
            → (key : Callee) (x y : Operand) (d : ℕ) (rest : Body) (q : Post 𝓤 H) (u w : Val) (pre : SProp 𝓤)
            (Q : Val → SProp 𝓤)
            → ent 𝓤 (sem 𝓛 ftrue) pre
            → ent 𝓤 pre (C key (u ∷ w ∷ values vs t.fields 0) Q)
            → Opd (Go {0}) 𝓛 (raw pre ∷ taken vs) (env 𝓤 H t s) x u
            → Opd (Go {0}) 𝓛 (raw pre ∷ taken vs) (env 𝓤 H t s) y w
            → ((v : Val)
            → Sq 𝓛 (raw (Q v) ∷ cleared (vstruct vs)) (lands C Λ (env 𝓤 H t s) (place d []) v rest q))
            → Sq 𝓛 (cleared (vstruct vs)) (runs C Λ (env 𝓤 H t s) (handing m t.fields key x y d rest) q)
        hands-over fm at has ty key x y d rest q u w pre Q gives met is_x is_y k =
            behind 𝓛 (front (vstruct vs)) (rooms t.fields s.fields) (rooms t.fields s.fields ++ []) _
            (nothing-behind 𝓛 (rooms t.fields s.fields)) $
            take_all t.fields s.fields 5 0 [] at has ty _ q
            (nothing ! $ use1 𝓛 (raw pre) gives $
            calls_from ! fm (raw pre) (u ∷ w ∷ values vs t.fields 0) Q met
            (and_then ! is_x (and_then ! is_y
            (holding 𝓛 vs (raw pre ∷ front (vstruct vs)) (env 𝓤 H t s) t.fields s.fields 5 0 [] at))) (λ v.
            behind 𝓛 (raw (Q v) ∷ front (vstruct vs)) (filled vs t.fields s.fields 0 [])
            (rooms t.fields s.fields) _
            (all-emptied 𝓛 vs t.fields s.fields 0) $ k v))

      -- the end: the borrow is closed over the record v, and the locals are freed, whatever those between held
      pub stores :
          (w v u : Val) (Q : Val → SProp 𝓤) (X' Y' Z' : Item 𝓤) (src : Operand) (rv : RValue)
          → Opd (Go {0}) 𝓛 (cleared w) (env 𝓤 H t s) src v → Rv (Go {0}) 𝓛 (cleared v) (env 𝓤 H t s) rv u
          → OfTy m v → OfTy t.t0 u
          → ((Γ : List (Item 𝓤)) (G : Goal 𝓤 H) → Soaks G → Step (Go {0}) 𝓛 (X' ∷ Y' ∷ Z' ∷ Γ) G (opened v Γ) G)
          → ent 𝓤 (mean 𝓛 i₂) (sem 𝓛 (froom t.t2 s.l2 0))
          → ent 𝓤 (mean 𝓛 i₃) (sem 𝓛 (froom t.t3 s.l3 0))
          → ent 𝓤 (mean 𝓛 i₄) (sem 𝓛 (froom t.t4 s.l4 0))
          → Sq 𝓛 (X' ∷ Y' ∷ Z' ∷ []) (prop (Q u))
          → Sq 𝓛 (cleared w) (runs C Λ (env 𝓤 H t s) (storing m src rv) (at_ret (env 𝓤 H t s) Q))
      stores w v u Q X' Y' Z' src rv is-v is-u t-v t-u shuts r₂ r₃ r₄ k =
          assigns ! (of_opd ! is-v) (from ! (hop ! (look ! 10 refl) (stop !))) (store_in ! 0 (whole !) t-v) $
          assigns ! is-u (from ! (stop !)) (init ! 12 refl t-u) $ shuts _ _ tt $
          -- [what is left of the borrow, three; _4; …; _3; …; _0; …]
          returns ! (look ! 11 refl) $ forget ! 9 refl $ forget ! 11 refl $ move ! (11 ∷ 12 ∷ []) $ free1 ! $
          move ! (9 ∷ 10 ∷ []) $ free1 ! $
          move ! (7 ∷ 8 ∷ []) $ use1 𝓛 (‵ (froom t.t2 s.l2 0)) r₂ $ free1 ! $
          move ! (5 ∷ 6 ∷ []) $ use1 𝓛 (‵ (froom t.t3 s.l3 0)) r₃ $ free1 ! $
          move ! (3 ∷ 4 ∷ []) $ use1 𝓛 (‵ (froom t.t4 s.l4 0)) r₄ $ free1 ! $
          swapped 𝓛 (X' ∷ Y' ∷ Z' ∷ []) (rooms t.fields s.fields) _ $
          releases 𝓛 t.fields s.fields (X' ∷ Y' ∷ Z' ∷ []) _ k
