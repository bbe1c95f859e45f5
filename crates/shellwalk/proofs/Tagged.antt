-- The shells that make one call of the hub each, `fn(&mut Hub, u8) -> Answer`: which call, is a tag in their code.
use mathlib.Core.Path.{◌≡◌, refl, ap}
use Prim.Native.Nat.{ℕ, ◌<◌, ◌^◌}
use mathlib.Core.List.{[], ◌∷◌}
use lib.Dec.{T as Holds, ltb}
use seplogic.Ra.Ura.{Ura}
use base.Fraction.{full_share}
use mir.Syntax.{Callee, Fn, w8, ty_int, place, field, copy, int, rv_opd, aggregate, assign, seq}
use mir.Val.{Val, Vals, of_list, vint, vptr, vstruct}
use base.Fml.{GName, Lft, Share, fat, fbor, flft, fobs, froom}
use prog.Model.{Model}
use prog.Routine.{Routine, Env}
use prog.Wp.{Calls, Loops, WpFn, Tables, Closed}
use types.Logic.{Logic}
use contract.Running.{Running, tables, tables_of}
use types.Kit.{Sq, prop, ‵, ◌$◌, ◌∵◌, !, qed, move, rewrite, fjoin, done}
use types.Run.{look, init, stop, from, load, of_opd, lit, and_then, no_more, assigns, land, pass1, pass0}
use types.Part.{agg}
use types.SemTy.{Body as Held}
use sound.WpLaws.{FmC, fm_of, WpFn-mono}
use denote.Laws.{Is}
use denote.Memory.{mem}
use denote.Plain.{uint_vals, uint_Tells, uint_Makes}
use denote.Builtin.{u8}
use denote.Exit.{yes}
use denote.Signature.{plain}
use denote.Steps.{only, owned, nothing}
use denote.Struct.Laws as LL
use denote.Enum.Laws as EL
use denote.Triple.Statement.{Triple}
use denote.Triple.Clauses.{closing}
use denote.Triple.Spec.{Meets}
use denote.Triple.Table.{entered, cited}
use denote.Triple.Walked.{Goes-none, stay_none}
use Rattle.hub.specs.declared.answers.Answer.{Answer}
use Rattle.hub.specs.declared.moves.Op.{Op}
use Rattle.hub.specs.declared.record.Hub.{Hub}
use Rattle.hub.specs.declared.record.Outcome.{Outcome}
use Rattle.hub.specs.Calls.{called}
use Rattle.hub.specs.contracts.answers.Answer as P
use Rattle.hub.proofs.answers.Answer.TheLaws as P'
use Rattle.hub.specs.contracts.moves.Op as O
use Rattle.hub.proofs.moves.Op.TheLaws as O'
use Rattle.hub.specs.contracts.record.Hub as T
use Rattle.hub.proofs.record.Hub.TheLaws as T'
use Rattle.hub.specs.contracts.record.Outcome as R
use Rattle.hub.proofs.record.Outcome.TheLaws as R'
use Rattle.shellwalk.proofs.Body.{enters, field_in, handing, offset_in, shell_of, storing, stores}
use Rattle.shellwalk.proofs.OverFields as core
use Rattle.shellwalk.proofs.OverFields.{Core, core_clauses, hub_val}
use Rattle.shellwalk.proofs.Shell.{
  Kind,
  AtEnd,
  Shell,
  X,
  Y,
  Z,
  borrowed,
  clauses,
  ended,
  field_types,
  local_types,
  meets,
  opening,
  over-fields,
  reaches,
  shuts,
}

-- the MIR of the shell over the function called key, for the call whose tag is k
abbrev pub shell_fn : Callee → ℕ → Fn
shell_fn key k =
    shell_of 2 (local_types P'.mir (ty_int w8) R'.mir O'.mir)
    (seq (assign (place 4 []) (aggregate (int w8 k ∷ [])))
    (handing T'.mir field_types key (copy (place 4 [])) (copy (place 2 [])) 3
    (storing T'.mir (copy (place 3 (field 1 ∷ []))) (rv_opd (copy (place 3 (field 0 ∷ [])))))))

-- a shell whose call leaves f: it tells the answer
abbrev pub kind : (Hub → ℕ → Outcome) → Kind
kind f = record {
  slots = plain (λ _. u8) ∷ [];
  kept = (yes, tt);
  stay = (stay_none (λ _. u8) yes, tt);
  Left = R.the_row;
  Told = P.the_row;
  hub = λ o. o.hub;
  told = λ o. o.answer;
  answer = λ r. r;
  does = λ κs h x. f h x.0;
}

-- what a call by its operation answers
abbrev pub by-op : Hub → Op → ℕ → Outcome
by-op h a p = called h (record { op = a; party = p })

-- the machine's values of what the paper calls an answer, and of an outcome, which is an answer and a record
abbrev pub answer_val : Answer → Val
answer_val = EL.val P.the_type P'.the_laws

abbrev pub outcome_val : Outcome → Val
outcome_val = LL.val R.the_type R'.the_laws

abbrev outcome_vals : Outcome → Vals
outcome_vals r = of_list (answer_val r.answer ∷ hub_val r.hub ∷ [])

pub parts :
    (r : Outcome) (v : Val) → Is R.the_row r (v ∷ [])
    → Is P.the_row r.answer (answer_val r.answer ∷ [])
    × (Is T.the_row r.hub (hub_val r.hub ∷ []) × Unit {0})
parts r v is = LL.owed R.the_type R'.the_laws r _ is

-- the machine's value of the call whose tag is k, and the tag of each call
abbrev pub tag_val : ℕ → Val
tag_val k = vstruct (of_list (vint w8 k ∷ []))

abbrev pub tag : Op → ℕ
tag Op.Acquire = 0
tag Op.Step = 1
tag Op.Cancel = 2
tag Op.Release = 3
tag Op.Radio = 4

pub tagged : (a : Op) → Is O.the_row a (tag_val (tag a) ∷ [])
tagged Op.Acquire = EL.owes O.the_type O'.the_laws Op.Acquire tt
tagged Op.Step = EL.owes O.the_type O'.the_laws Op.Step tt
tagged Op.Cancel = EL.owes O.the_type O'.the_laws Op.Cancel tt
tagged Op.Release = EL.owes O.the_type O'.the_laws Op.Release tt
tagged Op.Radio = EL.owes O.the_type O'.the_laws Op.Radio tt

module _ {M : Type 1} {𝓤 : Ura M} (𝓛 : Logic 𝓤)
    (D : Hub → Op → ℕ → Outcome) (a : Op) (k : ℕ) (is-op : Is O.the_row a (tag_val k ∷ []))
    (small : Holds (ltb k (2 ^ 8))) (key : Callee) (C : Calls 𝓤 𝓛.H) (Λ : Loops 𝓤 𝓛.H) (fm : FmC 𝓤 𝓛.H 𝓛.laws C)
    (known : Triple 𝓤 (C key) (Core 𝓛 R.the_row D)) where
  open 𝓛 use {H}

  abbrev K : Kind
  K = kind (λ h p. D h a p)

  walk :
      (κ : Lft) (q : Share) (b o : ℕ) (γ : GName) (h : Hub) (n : ℕ) → n < 2 ^ 8
      → Sq 𝓛 (borrowed 𝓛 κ q b o γ h [])
      (prop
      (WpFn 𝓤 H C Λ (shell_fn key k) (vptr b o ∷ vint w8 n ∷ [])
      (AtEnd 𝓛 K κ q b o γ h (n, tt) (vint w8 n ∷ [], tt))))
  walk κ q b o γ h n fits =
      enters 𝓛 C Λ (local_types P'.mir (ty_int w8) R'.mir O'.mir) (borrowed 𝓛 κ q b o γ h []) 2 _
      (vptr b o ∷ vint w8 n ∷ []) (AtEnd 𝓛 K κ q b o γ h (n, tt) (vint w8 n ∷ [], tt)) (λ s.
      pass1 ! (init ! 6 refl (tt, tt)) $ pass1 ! (init ! 4 refl (tt, record { fits = fits })) $ pass0 ! $
      move ! (10 ∷ 11 ∷ 12 ∷ []) $ opening 𝓛 κ q b o γ h _ _ tt (λ is.
      -- [the record; its open borrow, three; _4; …; _3; …; _0; …; the fields' locals]
      assigns ! (agg ! (and_then ! (lit ! small) (no_more !))) (from ! (stop !))
      (init ! 4 refl ((EL.lawful O.the_type O'.the_laws 𝓛 tt).typed a _ is-op).0) $
      over-fields 𝓛 C Λ R.the_row D P'.mir (ty_int w8) R'.mir O'.mir s b o (X 𝓛 κ q b o γ)
      (Y 𝓛 κ q b o γ ((T.the_row).coded.code h)) (Z 𝓛 κ q b o γ ((T.the_row).coded.code h))
      (‵ (fat full_share (ty_int w8) s.l2 0 (vint w8 n))) (‵ (froom R'.mir s.l3 0))
      (‵ (fat full_share O'.mir s.l4 0 (tag_val k))) fm key known (copy (place 4 [])) (copy (place 2 [])) 3
      _ _ h a (tag_val k) n is is-op fits (load ! (from ! (stop !)) (look ! 5 refl))
      (load ! (from ! (stop !)) (look ! 9 refl)) (λ v r e is'.
      land ! (from ! (stop !)) (init ! 6 refl ((LL.lawful R.the_type R'.the_laws 𝓛).typed r _ is').0) $
      rewrite ! 6 (λ (u : Val). ‵ (fat full_share R'.mir s.l3 0 u))
      (ap only (LL.tells R.the_type R'.the_laws r _ is')) refl $
      stores 𝓛 C Λ (local_types P'.mir (ty_int w8) R'.mir O'.mir) s T'.mir b o (X 𝓛 κ q b o γ)
      (Y 𝓛 κ q b o γ ((T.the_row).coded.code h)) (Z 𝓛 κ q b o γ ((T.the_row).coded.code h))
      (‵ (fat full_share (ty_int w8) s.l2 0 (vint w8 n))) (‵ (fat full_share R'.mir s.l3 0 (outcome_val r)))
      (‵ (fat full_share O'.mir s.l4 0 (tag_val k))) (hub_val h) (hub_val r.hub) (answer_val r.answer)
      (AtEnd 𝓛 K κ q b o γ h (n, tt) (vint w8 n ∷ [], tt))
      (‵ (fobs γ ((T.the_row).coded.code r.hub))) (‵ (fbor κ (Held (mem T.the_row) b o γ))) (‵ (flft κ q))
      (copy (place 3 (field 1 ∷ []))) (rv_opd (copy (place 3 (field 0 ∷ []))))
      (field_in 𝓛 _ _ 3 1 6 R'.mir T'.mir s.l3 (offset_in R'.mir 1) (outcome_vals r) refl refl refl)
      (of_opd !
      (field_in 𝓛 _ _ 3 0 6 R'.mir P'.mir s.l3 (offset_in R'.mir 0) (outcome_vals r) refl refl refl))
      ((LL.lawful T.the_type T'.the_laws 𝓛).typed r.hub _ (parts r v is').1.0).0
      ((EL.lawful P.the_type P'.the_laws 𝓛 tt).typed r.answer _ (parts r v is').0).0
      (shuts 𝓛 κ q b o γ r.hub (parts r v is').1.0 ((T.the_row).coded.code h))
      (𝓛.laws.at_room (ty_int w8) s.l2 0 (vint w8 n)) (𝓛.laws.at_room R'.mir s.l3 0 (outcome_val r))
      (𝓛.laws.at_room O'.mir s.l4 0 (tag_val k))
      (reaches 𝓛 K κ q b o γ h (n, tt) (vint w8 n ∷ [], tt) (tt, tt) (tt, tt)
      (qed 𝓛 [] ∵ nothing ! $ owned ! u8 (Is u8) (uint_Makes 𝓛 w8) n _ (refl, fits) $ fjoin ! $ done !)
      r e (answer_val r.answer)
      (EL.makes P.the_type P'.the_plain 𝓛 r.answer _ (parts r v is').0)))))

-- a shell's own routine, from what is known of the function over the fields: the tag that the shell
-- hands over is read off its code, and must be the operation's
pub shell-spec :
    {M : Type 1} {𝓤 : Ura M} (𝓛 : Logic 𝓤) (𝓜 : Model 𝓤 𝓛.H) (𝓡 : Running 𝓤 𝓛.H 𝓜)
    (D : Hub → Op → ℕ → Outcome) (a : Op) (env : Env) (own key : Callee) (routine : Routine) {k : ℕ}
    → Closed 𝓤 𝓛.H (tables 𝓤 𝓛.H 𝓜 𝓡 env).C (tables 𝓤 𝓛.H 𝓜 𝓡 env).Λ own (shell_fn key k)
    → Is O.the_row a (tag_val k ∷ []) → Holds (ltb k (2 ^ 8)) → env key ≡ routine
    → Meets 𝓛 (core.signature R.the_row) (𝓡.run routine)
    (closing 𝓛 (core.ended R.the_row) (core_clauses 𝓤 R.the_row D))
    → Meets 𝓛 (ended (kind (λ h p. D h a p))).signature (𝓡.run (env own))
    (closing 𝓛 (ended (kind (λ h p. D h a p))) (clauses 𝓤 (kind (λ h p. D h a p))))
unfolding tables_of
shell-spec {𝓤 = 𝓤} 𝓛 𝓜 𝓡 D a env own key routine {k} closed is-op small calls met =
    let 𝓣 : Tables 𝓤 𝓛.H = tables_of 𝓤 𝓛.H 𝓜 (tables 𝓤 𝓛.H 𝓜 𝓡 env) in
    entered 𝓤 𝓛.H (Shell 𝓛 (kind (λ h p. D h a p))) (tables 𝓤 𝓛.H 𝓜 𝓡 env).C (tables 𝓤 𝓛.H 𝓜 𝓡 env).Λ own
    (shell_fn key k) closed
    (meets 𝓛 (kind (λ h p. D h a p))
    (Goes-none 𝓛 1 (λ _. u8) yes (λ κs x f. refl), tt) (λ κs. (uint_vals w8, tt)) (λ κs. (uint_Tells w8, tt))
    (WpFn 𝓤 𝓛.H 𝓣.C 𝓣.Λ (shell_fn key k)) (WpFn-mono 𝓤 𝓛.H 𝓛.laws 𝓣 (shell_fn key k))
    (λ κ q b o γ h x are. walk 𝓛 D a k is-op small key 𝓣.C 𝓣.Λ (fm_of 𝓤 𝓛.H 𝓛.laws 𝓣)
    (cited 𝓤 𝓛.H (Core 𝓛 R.the_row D) 𝓜 𝓡 env key routine calls met) κ q b o γ h x.0 are.0.1))
