-- A record in a local is lent to a shell for a lifetime that ends after the call, so it comes back as the shell's
-- contract says.
use mathlib.Core.Path.{refl, subst}
use Prim.Native.Nat.{ℕ}
use mathlib.Core.List.{[], ◌∷◌, List}
use seplogic.Ra.Ura.{Ura}
use base.Fraction.{full_share}
use mir.Syntax.{named}
use mir.Val.{Val, vptr}
use base.Logic.{SProp, ent, sep, ex, emp, guard, id⊢}
use base.Fml.{Fml, GName, ftrue, fsep, fat, flft, flent}
use types.Logic.{Logic, sem}
use contract.Lifetimes.{Lfts}
use contract.Monad.{fact}
use types.Kit.{
  ‵,
  raw,
  some,
  later,
  ◌⊛◌,
  ◌$◌,
  ◌∵◌,
  !,
  qed,
  move,
  keep,
  use0,
  use1,
  use3,
  split,
  join,
  pick,
  rewrite,
  fsplit,
  fjoin,
  fpick,
  fpack,
  check,
  updating,
  now as at_once,
  show,
  await,
  done,
}
use types.SemTy.{Body as Held}
use types.Tokens.{lft_new, lft_end}
use denote.RattleType.{Denots, Valss, owns}
use denote.Laws.{Is, shows}
use denote.Memory.{mem, cell_at, part_of}
use denote.Ref.{MutBor, MutRef}
use denote.Signature.{types_at}
use denote.Lend.{lends_ref, ref_back}
use denote.Steps.{facts, owned, heard, nothing}
use denote.Struct.Laws as LL
use denote.Struct.Steps.{spelt}
use denote.Triple.Clauses.{ensured, lasts}
use denote.Triple.End.{Fins}
use Rattle.hub.specs.declared.record.Hub.{Hub}
use Rattle.hub.specs.contracts.record.Hub as T
use Rattle.hub.proofs.record.Hub.TheLaws as T'
use Rattle.shellwalk.proofs.OverFields.{hub_val}
use Rattle.shellwalk.proofs.Shell.{Does, Kind, Shell, clauses, ended}

-- the local at l, which holds h, for a shell of kind k; y is what it is called with besides, and vs y's machine values
module _ {M : Type 1} {𝓤 : Ura M} (𝓛 : Logic 𝓤) (k : Kind) (l : ℕ) (h : Hub)
    (y : (κs : Lfts 1) → Denots (types_at k.slots κs)) (vs : (κs : Lfts 1) → Valss (types_at k.slots κs)) where
  -- the local under the name γ, for the lifetime α
  open 𝓛 use {H}

  abbrev x : (α : ℕ) → GName → MutBor Hub × Denots (types_at k.slots (α ∷ [], tt))
  x α γ = (record { ref_ptr = (l, 0); ghost_name = γ; now = h }, y (α ∷ [], tt))

  abbrev pub to-shell : ℕ → GName → (Shell 𝓛 k).Ghost
  to-shell α γ = (((α ∷ [], tt), (full_share, tt), tt, x α γ, (vptr l 0 ∷ [], vs (α ∷ [], tt))), tt)

  -- what the caller keeps meanwhile
  abbrev pub loan : ℕ → GName → Fml
  loan α γ = flent (α ∷ []) (Held (mem T.the_row) l 0 γ)

  abbrev Lent : ℕ → GName → SProp 𝓤
  Lent α γ = sep 𝓤 ((Shell 𝓛 k).pre (to-shell α γ)) (sem 𝓛 (loan α γ))

  pub lends :
      ((κs : Lfts 1) → ent 𝓤 (emp 𝓤) (sem 𝓛 (owns (types_at k.slots κs) (y κs) (vs κs))))
      → Is T.the_row h (hub_val h ∷ [])
      → ent 𝓤 (H.at full_share T'.mir l 0 (hub_val h))
      (H.⇛ (ex 𝓤 (λ (α : ℕ). ex 𝓤 (λ (γ : GName). Lent α γ))))
  unfolding part_of
  lends has is =
      qed 𝓛 (‵ (fat full_share T'.mir l 0 (hub_val h)) ∷ []) ∵ updating ! $
      use1 𝓛 (‵ (cell_at full_share (T.the_row).mir (hub_val h ∷ []) l 0))
      (𝓛.laws.at_raw full_share T'.mir l 0 (hub_val h)) $
      owned ! T.the_row (Is T.the_row) (LL.makes T.the_type T'.the_plain 𝓛) h _ is $
      move ! (1 ∷ 0 ∷ []) $ fjoin ! $
      fpack ! (List Val) (λ us. fsep (cell_at full_share (T.the_row).mir us l 0) ((T.the_row).own_val h us))
      (hub_val h ∷ []) $ lft_new ! tt (λ α. move ! (1 ∷ []) $
      use1 𝓛 (later (some (λ (γ : GName).
      ‵ ((MutRef (named 0) (α ∷ []) T.the_row).own_val (x α γ).0 (vptr l 0 ∷ [])) ⊛ ‵ (loan α γ))))
      (lends_ref 𝓛 T.the_row (named 0) (α ∷ []) h l 0) $ await ! tt $ pick ! (λ γ. split ! $
      -- [the reference; the loan; the token]
      at_once ! $ show ! (λ (a : ℕ). ex 𝓤 (Lent a)) α $ show ! (Lent α) γ $
      use0 𝓛 (‵ (owns (types_at k.slots (α ∷ [], tt)) (y (α ∷ [], tt)) (vs (α ∷ [], tt)))) (has (α ∷ [], tt)) $
      move ! (1 ∷ 0 ∷ []) $ fjoin ! $ nothing ! $ move ! (3 ∷ 0 ∷ []) $ join ! $ join ! $
      nothing ! $ move ! (1 ∷ 0 ∷ []) $ join ! $ done !))

  pub comes_back :
      (α : ℕ) (γ : GName) (v : Val)
      → let d = k.does (α ∷ [], tt) h (y (α ∷ [], tt)) in
      ent 𝓤 (sep 𝓤 ((Shell 𝓛 k).post (to-shell α γ) v) (sem 𝓛 (loan α γ)))
      (H.⇛ (guard 𝓤
      (Is k.Told (k.told d) (v ∷ []) × Is T.the_row (k.hub d) (hub_val (k.hub d) ∷ []))
      (H.at full_share T'.mir l 0 (hub_val (k.hub d)))))
  unfolding part_of
  comes_back α γ v =
      let d = k.does (α ∷ [], tt) h (y (α ∷ [], tt)) in
      qed 𝓛 (raw ((Shell 𝓛 k).post (to-shell α γ) v) ∷ ‵ (loan α γ) ∷ []) ∵ updating ! $
      use1 𝓛 (later (some (λ (r : k.Told.Denot).
      ((‵ (flft (α ∷ []) full_share) ⊛ ‵ ftrue) ⊛ ‵ (k.Told.own_val r (v ∷ [])))
      ⊛ raw (ensured 𝓛 (ended k) (clauses 𝓤 k) (α ∷ [], tt) (x α γ) tt r)))) (id⊢ 𝓤 _) $
      await ! tt $ pick ! (λ r. split ! $ move ! (1 ∷ []) $
      use1 𝓛 (some (λ (ws : Hub × Fins (α ∷ [], tt) k.slots k.kept (y (α ∷ [], tt))).
      ‵ (lasts (ended k) (α ∷ [], tt) (x α γ) ws)
      ⊛ raw (fact 𝓤 (Does k d r ws.0)))) (id⊢ 𝓤 _) $
      pick ! (λ ws. split ! $ move ! (1 ∷ []) $
      heard ! (Does k d r ws.0) (λ e.
      fsplit ! $ fsplit ! $ move ! (3 ∷ []) $ split ! $ split ! $
      -- [the token; true; what is told; the last value; the borrow, closed; those of the rest; the loan]
      lft_end ! tt $ move ! (0 ∷ 6 ∷ 3 ∷ []) $
      use3 𝓛 (later (‵ ((mem T.the_row).own_at ws.0 l 0)))
      (ref_back 𝓛 T.the_row (α ∷ []) γ ws.0 l 0) $ await ! tt $
      rewrite ! 0 (λ (z : Hub). ‵ ((mem T.the_row).own_at z l 0)) e.2 refl $ fpick ! (λ us. fsplit ! $
      spelt ! T.the_row (Is T.the_row) (shows 𝓛 T.the_row) (LL.vals T.the_type T'.the_laws)
      (LL.tells T.the_type T'.the_laws) full_share (k.hub d) us l 0 $
      use1 𝓛 (‵ (fat full_share T'.mir l 0 (hub_val (k.hub d))))
      (𝓛.laws.raw_at full_share T'.mir l 0 (hub_val (k.hub d))) $
      -- [the record; what it owns; true; what is told; the borrow; those of the rest]
      move ! (1 ∷ []) $ facts ! T.the_row (Is T.the_row) (shows 𝓛 T.the_row) (k.hub d) _ (λ is.
      move ! (2 ∷ []) $ facts ! k.Told (Is k.Told) (shows 𝓛 k.Told) r (v ∷ []) (λ is'.
      at_once ! $ check ! (subst (λ (z : k.Told.Denot). Is k.Told z (v ∷ [])) e.0 is', is) $
      keep ! (0 ∷ []) $ done !))))))
