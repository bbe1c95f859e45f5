-- The locals that a record's fields go to, as many as it has: how they are made, filled, read and freed. Whoever walks the
-- code beside them counts no positions among them: they stand behind all else that is known.
use mathlib.Core.Path.{◌≡◌, refl, subst, sym, ◌∙◌}
use Prim.Native.Nat.{ℕ, suc}
use mathlib.Core.List.{[], ◌∷◌, ◌++◌, List, append-nil}
use seplogic.Ra.Ura.{Ura}
use base.Fraction.{full_share}
use mir.Syntax.{Ty, Local, Opd as Operand, local, value_local, place, copy}
use mir.Fields.{get_v}
use mir.Val.{Val, Vals}
use base.Logic.{ent, id⊢, via, comm∗, mono_r, sep}
use base.Fml.{fat, fdies, froom}
use prog.Wp.{Heap, Env, Spot, spot_of}
use types.Logic.{Logic}
use types.Kit.{
  Item,
  Goal,
  Go,
  Step,
  Sq,
  allocs,
  frees,
  nth,
  step,
  ⋆,
  ++⊢,
  ⊢++,
  ‵,
  ◌$◌,
  ◌∵◌,
  !,
  by,
  move,
  qed,
}
use types.Run.{Finds, Opds, Walks, alloc1, alloc0, and_then, forget, free1, free0, from, load, look, no_more, stop}

-- where locals of some types lie
abbrev pub Spots : List Ty → Type 0
Spots [] = Unit {0}
Spots (τ ∷ τs) = ℕ × Spots τs

abbrev pub locals : List Ty → List Local
locals [] = []
locals (τ ∷ τs) = local τ value_local ∷ locals τs

-- they as operands, the first of which is local i
abbrev pub copies : List Ty → ℕ → List Operand
copies [] i = []
copies (τ ∷ τs) i = copy (place i []) ∷ copies τs (suc i)

-- as many fields of a record, from the kth on
abbrev pub values : Vals → List Ty → ℕ → List Val
values vs [] k = []
values vs (τ ∷ τs) k = get_v vs k ∷ values vs τs (suc k)

module _ {M : Type 1} {𝓤 : Ura M} where
  abbrev pub unset : Ty → ℕ → List (Item 𝓤) → List (Item 𝓤)
  unset τ l Γ = ‵ (froom τ l 0) ∷ ‵ (fdies τ l) ∷ Γ

  abbrev pub holds : Ty → ℕ → Val → List (Item 𝓤) → List (Item 𝓤)
  holds τ l v Γ = ‵ (fat full_share τ l 0 v) ∷ ‵ (fdies τ l) ∷ Γ

  -- they hold nothing
  abbrev pub rooms : (τs : List Ty) → Spots τs → List (Item 𝓤)
  rooms [] s = []
  rooms (τ ∷ τs) s = unset τ s.0 (rooms τs s.1)

  -- they hold the fields from the kth on, the last one in front
  abbrev pub filled : Vals → (τs : List Ty) → Spots τs → ℕ → List (Item 𝓤) → List (Item 𝓤)
  filled vs [] s k Γ = Γ
  filled vs (τ ∷ τs) s k Γ = filled vs τs s.1 (suc k) (holds τ s.0 (get_v vs k) Γ)

abbrev pub env_of : {M : Type 1} (𝓤 : Ura M) (H : Heap 𝓤) (τs : List Ty) → Spots τs → Env 𝓤 H
env_of 𝓤 H [] s = []
env_of 𝓤 H (τ ∷ τs) s = (τ, s.0) ∷ env_of 𝓤 H τs s.1

-- in an environment they are the locals from the ith on
abbrev pub Lie : {M : Type 1} (𝓤 : Ura M) (H : Heap 𝓤) → Env 𝓤 H → (τs : List Ty) → Spots τs → ℕ → Type 0
Lie 𝓤 H E [] s i = Unit {0}
Lie 𝓤 H E (τ ∷ τs) s i = (spot_of 𝓤 H E i ≡ (τ, s.0, 0)) × Lie 𝓤 H E τs s.1 (suc i)

module _ {M : Type 1} {𝓤 : Ura M} (𝓛 : Logic 𝓤) where
  open 𝓛 use {H}

  abbrev Cx : Type 2
  Cx = List (Item 𝓤)

  -- what stands behind Δ, changed
  abbrev pub behind : (Δ Γ Γ' : Cx) (G : Goal 𝓤 H) → ent 𝓤 (⋆ 𝓛 Γ) (⋆ 𝓛 Γ') → Step (Go {0}) 𝓛 (Δ ++ Γ') G (Δ ++ Γ) G
  behind Δ Γ Γ' G e =
      step (λ s. by !
      (via 𝓤 (sep 𝓤 (⋆ 𝓛 Δ) (⋆ 𝓛 Γ)) (⊢++ 𝓛 Δ Γ)
      (via 𝓤 (sep 𝓤 (⋆ 𝓛 Δ) (⋆ 𝓛 Γ')) (mono_r 𝓤 (⋆ 𝓛 Δ) e)
      (via 𝓤 (⋆ 𝓛 (Δ ++ Γ')) (++⊢ 𝓛 Δ Γ') s.prf))))

  -- what stands in front goes behind
  abbrev pub swapped : (Δ Γ : Cx) (G : Goal 𝓤 H) → Step (Go {0}) 𝓛 (Γ ++ Δ) G (Δ ++ Γ) G
  swapped Δ Γ G =
      step (λ s. by !
      (via 𝓤 (sep 𝓤 (⋆ 𝓛 Δ) (⋆ 𝓛 Γ)) (⊢++ 𝓛 Δ Γ)
      (via 𝓤 (sep 𝓤 (⋆ 𝓛 Γ) (⋆ 𝓛 Δ)) (comm∗ 𝓤 (⋆ 𝓛 Δ) (⋆ 𝓛 Γ))
      (via 𝓤 (⋆ 𝓛 (Γ ++ Δ)) (++⊢ 𝓛 Γ Δ) s.prf))))

  -- nothing behind
  pub nothing-behind : (Γ : Cx) → ent 𝓤 (⋆ 𝓛 Γ) (⋆ 𝓛 (Γ ++ []))
  nothing-behind Γ = subst (λ (Δ : Cx). ent 𝓤 (⋆ 𝓛 Γ) (⋆ 𝓛 Δ)) (sym (append-nil Γ)) (id⊢ 𝓤 (⋆ 𝓛 Γ))

  behind-nothing : (Γ : Cx) → ent 𝓤 (⋆ 𝓛 (Γ ++ [])) (⋆ 𝓛 Γ)
  behind-nothing Γ = subst (λ (Δ : Cx). ent 𝓤 (⋆ 𝓛 Δ) (⋆ 𝓛 Γ)) (sym (append-nil Γ)) (id⊢ 𝓤 (⋆ 𝓛 Γ))

  module _ (x y : Item 𝓤) where
    -- two entries go past the locals, and back
    sunk : (τs : List Ty) (s : Spots τs) (Γ : Cx) → ent 𝓤 (⋆ 𝓛 (x ∷ y ∷ rooms τs s ++ Γ)) (⋆ 𝓛 (rooms τs s ++ (x ∷ y ∷ Γ)))
    sunk [] s Γ = id⊢ 𝓤 (⋆ 𝓛 (x ∷ y ∷ Γ))
    sunk (τ ∷ τs) s Γ =
        qed 𝓛 (x ∷ y ∷ unset τ s.0 (rooms τs s.1 ++ Γ)) ∵ move ! (2 ∷ 3 ∷ []) $
        behind (unset τ s.0 []) (x ∷ y ∷ rooms τs s.1 ++ Γ) (rooms τs s.1 ++ (x ∷ y ∷ Γ)) _ (sunk τs s.1 Γ) $
        by ! (id⊢ 𝓤 (⋆ 𝓛 (unset τ s.0 (rooms τs s.1 ++ (x ∷ y ∷ Γ)))))

    risen : (τs : List Ty) (s : Spots τs) (Γ : Cx) → ent 𝓤 (⋆ 𝓛 (rooms τs s ++ (x ∷ y ∷ Γ))) (⋆ 𝓛 (x ∷ y ∷ rooms τs s ++ Γ))
    risen [] s Γ = id⊢ 𝓤 (⋆ 𝓛 (x ∷ y ∷ Γ))
    risen (τ ∷ τs) s Γ =
        qed 𝓛 (unset τ s.0 (rooms τs s.1 ++ (x ∷ y ∷ Γ))) ∵
        behind (unset τ s.0 []) (rooms τs s.1 ++ (x ∷ y ∷ Γ)) (x ∷ y ∷ rooms τs s.1 ++ Γ) _ (risen τs s.1 Γ) $
        move ! (2 ∷ 3 ∷ []) $ by ! (id⊢ 𝓤 (⋆ 𝓛 (x ∷ y ∷ unset τ s.0 (rooms τs s.1 ++ Γ))))

  -- a function's last locals are there
  pub allocates :
      (τs : List Ty) (Γ : Cx) (K : Env 𝓤 H → Goal 𝓤 H) → ((s : Spots τs) → Sq 𝓛 (rooms τs s ++ Γ) (K (env_of 𝓤 H τs s)))
      → Sq 𝓛 Γ (allocs (locals τs) K)
  allocates [] Γ K k = alloc0 ! $ k tt
  allocates (τ ∷ τs) Γ K k =
      alloc1 ! (λ l. allocates τs (unset τ l Γ) (λ E. K ((τ, l) ∷ E)) (λ s.
      behind [] (rooms τs s ++ unset τ l Γ) (unset τ l (rooms τs s ++ Γ)) (K ((τ, l) ∷ env_of 𝓤 H τs s))
      (risen (‵ (froom τ l 0)) (‵ (fdies τ l)) τs s Γ) $ k (l, s)))

  -- they are freed
  pub releases :
      (τs : List Ty) (s : Spots τs) (Γ : Cx) (G : Goal 𝓤 H) → Sq 𝓛 Γ G → Sq 𝓛 (rooms τs s ++ Γ) (frees (env_of 𝓤 H τs s) G)
  releases [] s Γ G k = free0 ! $ k
  releases (τ ∷ τs) s Γ G k = free1 ! $ releases τs s.1 Γ G k

  -- the first of them has got its value, and joins those that have
  pub joins :
      (τ : Ty) (l : ℕ) (v : Val) (τs : List Ty) (s : Spots τs) (Γ : Cx)
      → ent 𝓤 (⋆ 𝓛 (holds τ l v (rooms τs s ++ Γ))) (⋆ 𝓛 (rooms τs s ++ holds τ l v Γ))
  joins τ l v = sunk (‵ (fat full_share τ l 0 v)) (‵ (fdies τ l))

  module _ (vs : Vals) where
    -- whatever they hold, there is room in them
    emptied :
        (τs : List Ty) (s : Spots τs) (k : ℕ) (Γ : Cx) → ent 𝓤 (⋆ 𝓛 (filled vs τs s k Γ)) (⋆ 𝓛 (rooms τs s ++ Γ))
    emptied [] s k Γ = id⊢ 𝓤 (⋆ 𝓛 Γ)
    emptied (τ ∷ τs) s k Γ =
        via 𝓤 (⋆ 𝓛 (rooms τs s.1 ++ holds τ s.0 (get_v vs k) Γ))
        (emptied τs s.1 (suc k) (holds τ s.0 (get_v vs k) Γ))
        (via 𝓤 (⋆ 𝓛 (holds τ s.0 (get_v vs k) (rooms τs s.1 ++ Γ)))
        (risen (‵ (fat full_share τ s.0 0 (get_v vs k))) (‵ (fdies τ s.0)) τs s.1 Γ)
        (qed 𝓛 (holds τ s.0 (get_v vs k) (rooms τs s.1 ++ Γ)) ∵ forget ! 0 refl $
        by ! (id⊢ 𝓤 (⋆ 𝓛 (unset τ s.0 (rooms τs s.1 ++ Γ))))))

    pub all-emptied : (τs : List Ty) (s : Spots τs) (k : ℕ) → ent 𝓤 (⋆ 𝓛 (filled vs τs s k [])) (⋆ 𝓛 (rooms τs s))
    all-emptied τs s k =
        via 𝓤 (⋆ 𝓛 (rooms τs s ++ [])) (emptied τs s k []) (behind-nothing (rooms τs s))

  pub found :
      (Γ : Cx) (E : Env 𝓤 H) (i : ℕ) {sp : Spot 𝓤 H} → spot_of 𝓤 H E i ≡ sp → Finds (Go {0}) 𝓛 Γ E (place i []) sp
  found Γ E i at = from ! (subst (λ (sp : Spot 𝓤 H). Walks (Go {0}) 𝓛 Γ E (spot_of 𝓤 H E i) [] sp) at (stop !))

  -- entry n, with Δ in front of it, and with locals in front of it
  abbrev past : Cx → ℕ → ℕ
  past [] n = n
  past (x ∷ Δ) n = suc (past Δ n)

  past_is : (Δ Γ : Cx) (n : ℕ) → nth 𝓛 (past Δ n) (Δ ++ Γ) ≡ nth 𝓛 n Γ
  past_is [] Γ n = refl
  past_is (x ∷ Δ) Γ n = past_is Δ Γ n

  abbrev under : List Ty → ℕ → ℕ
  under [] n = n
  under (τ ∷ τs) n = under τs (suc (suc n))

  module _ (vs : Vals) where
    under-is :
        (τs : List Ty) (s : Spots τs) (k : ℕ) (Γ : Cx) (n : ℕ)
        → nth 𝓛 (under τs n) (filled vs τs s k Γ) ≡ nth 𝓛 n Γ
    under-is [] s k Γ n = refl
    under-is (τ ∷ τs) s k Γ n = under-is τs s.1 (suc k) (holds τ s.0 (get_v vs k) Γ) (suc (suc n))

    -- they are read, as operands of a call
    pub holding :
        (Δ : Cx) (E : Env 𝓤 H) (τs : List Ty) (s : Spots τs) (i k : ℕ) (Γ : Cx) → Lie 𝓤 H E τs s i
        → Opds (Go {0}) 𝓛 (Δ ++ filled vs τs s k Γ) E (copies τs i) (values vs τs k)
    holding Δ E [] s i k Γ at = no_more !
    holding Δ E (τ ∷ τs) s i k Γ at =
        let Γ' = holds τ s.0 (get_v vs k) Γ in
        and_then !
        (load ! (found (Δ ++ filled vs τs s.1 (suc k) Γ') E i at.0)
        (look ! (past Δ (under τs 0))
        (past_is Δ (filled vs τs s.1 (suc k) Γ') (under τs 0) ∙ under-is τs s.1 (suc k) Γ' 0)))
        (holding Δ E τs s.1 (suc i) (suc k) Γ' at.1)
