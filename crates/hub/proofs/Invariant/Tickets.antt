-- The part of the invariant that concerns tickets and cells: a predicate of phases and cells, of
-- the figures, and of two plain numbers, due and load. What the counter is, is not asked here.
use Prim.Native.Nat.{ℕ, suc, ◌+◌, ◌≤◌, ◌<◌}
use mathlib.Core.Path.{◌≡◌, refl, sym, ap, subst, ◌∙◌}
use mathlib.Core.List.{List}
use mathlib.Core.Logic.{◌≢◌}
use native.Mathlib.Decide.{ℕ_discrete, dec_le}
use native.Mathlib.Omega.{arith}
use lib.ListN.{length}
use Rattle.hub.specs.declared.record.Phase.{Phase}
use Rattle.hub.specs.declared.record.Place.{Place}
use Rattle.hub.specs.declared.record.Place.TheVariants.{Empty, Waiting as WaitedBy, Permit}
use Rattle.hub.specs.declared.record.Place.TheVariants.{Cancelled, Refused, Done}
use Rattle.hub.specs.Basics.{weight}
use Rattle.hub.specs.Ledger.{phase_in}
use Rattle.hub.specs.Phases.{is_one_of, is_place_of}
use Rattle.hub.specs.Record.{PARTIES, MAX_BEGUN}
use Rattle.hub.proofs.Laws.Lists.{weight-le, weight-add, weight-one, weight-all}
use Rattle.hub.proofs.Invariant.Weights.{same, same_self, same-other, lt, lt-le, lt-pos}
use Rattle.hub.proofs.Invariant.Weights.{pick, resuming, refusing, drawing, suspending}
use Rattle.hub.proofs.Invariant.Weights.{live, handing, cancelling, own, hand, stand, stage}
use Rattle.hub.proofs.Invariant.Weights.{permit_cell, cancelled_cell, refused_cell, spent, served}
use Rattle.hub.proofs.Invariant.Weights.{least, most, total, TICKETS, stage-own, stand-le}
use Rattle.hub.proofs.Invariant.Weights.{suspending-drawing, handing-resuming, carrying, carrying-resuming}

-- What holds of ticket t: it has one owner from its drawing until it is spent, one hand from its
-- drawing to resume until it is served, and its cell says how far the owner may be.
pub record At (t owners hands stages : ℕ) (a : Place) (issued resumed : ℕ) : Type 0 where
  pub owned : owners + spent a ≡ lt t issued
  pub handed : hands + served a ≡ lt t resumed
  pub low : least a ≤ stages
  pub high : stages ≤ most a

abbrev pub AtIn : List Phase → ℕ → ℕ → ℕ → Place → Type 0
AtIn l i r t a = At t (weight (own t) l) (weight (hand t) l) (weight (stage t) l) a i r

-- Of phases l and cells g, n parties, i tickets issued and r resumed, b acquires begun. q is due:
-- the waits that nothing has been sent for. e is the load: what those who resume have to bring.
pub record Tickets (l : List Phase) (g : ℕ → Place) (n i r b q e : ℕ) : Type 0 where
  pub size : length l ≡ PARTIES
  pub few : (1 ≤ n) × (n ≤ PARTIES)
  pub beyond : (p : ℕ) → n ≤ p → phase_in l p ≡ Phase.Free
  -- tickets to resume, drawn and to be drawn, are the tickets drawn and to be drawn
  pub line : e + weight cancelling l + total cancelled_cell g + r + q
      ≡ weight suspending l + i + weight handing l
  -- what is brought, lies there or is due is what is waited for or refused
  pub balance : e + total permit_cell g + q
      ≡ weight suspending l + weight live l + weight refusing l + total refused_cell g
  pub borne : weight resuming l ≤ e
  pub drawn : i + weight drawing l ≤ b
  pub begun : b ≤ MAX_BEGUN
  pub at : (t : ℕ) → AtIn l i r t (g t)
  -- the party of a waiting cell stands there
  pub named : (t q : ℕ) → g t ≡ WaitedBy q → stand t (phase_in l q) ≡ 1

-- Party p goes from phase f to x, and the cell of ticket t from c to a.
pub record Shift (l l' : List Phase) (g g' : ℕ → Place) (p : ℕ) (f x : Phase) (t : ℕ) (c a : Place)
    : Type 0 where
  pub size : length l' ≡ length l
  pub was : phase_in l p ≡ f
  pub now : phase_in l' p ≡ x
  pub others : (q : ℕ) → q ≢ p → phase_in l' q ≡ phase_in l q
  pub sums : (w : Phase → ℕ) → weight w l' + w f ≡ weight w l + w x
  pub cell_was : g t ≡ c
  pub cell_now : g' t ≡ a
  pub cell_others : (u : ℕ) → u ≢ t → g' u ≡ g u
  pub cell_sums : (w : Place → ℕ) → total w g' + w c ≡ total w g + w a

-- What a move owes. Of each pair the second is after the move; s is the stage of t.
pub record Owes (f x : Phase) (t : ℕ) (c a : Place) (i i' r r' b b' q q' e e' s : ℕ) : Type 0 where
  pub line : e' + cancelling x + cancelled_cell a + r' + q' + suspending f + i + handing f
      ≡ e + cancelling f + cancelled_cell c + r + q + suspending x + i' + handing x
  pub balance : e' + permit_cell a + q' + suspending f + live f + refusing f + refused_cell c
      ≡ e + permit_cell c + q + suspending x + live x + refusing x + refused_cell a
  pub borne : e + resuming x ≤ e' + resuming f
  pub drawn : i' + drawing x + b ≤ i + drawing f + b'
  pub begun : b ≤ MAX_BEGUN → b' ≤ MAX_BEGUN
  pub owned : own t x + spent a + lt t i ≡ own t f + spent c + lt t i'
  pub handed : hand t x + served a + lt t r ≡ hand t f + served c + lt t r'
  pub low : least a + stage t f ≤ s + stage t x
  pub high : s + stage t x ≤ most a + stage t f
  pub away : (u : ℕ) → same t u ≡ 0
      → (own u x ≡ own u f) × (hand u x ≡ hand u f) × (stage u x ≡ stage u f)
      × (stand u f ≤ stand u x)
  pub numbers : (u : ℕ) → same t u ≡ 0 → (lt u i' ≡ lt u i) × (lt u r' ≡ lt u r)

-- If the new cell is waiting, its party stands there: it is p, or it was there before.
abbrev pub Names : ℕ → ℕ → Phase → Place → Place → Type 0
Names p t x c Empty = Unit {0}
Names p t x c (WaitedBy q) = (q ≡ p → stand t x ≡ 1) × (q ≢ p → c ≡ WaitedBy q)
Names p t x c Permit = Unit {0}
Names p t x c Cancelled = Unit {0}
Names p t x c Refused = Unit {0}
Names p t x c Done = Unit {0}

module _ {l l' : List Phase} {g g' : ℕ → Place} {p : ℕ} {f x : Phase} {t : ℕ} {c a : Place}
    {n i i' r r' b b' q q' e e' : ℕ}
    (inv : Tickets l g n i r b q e) (sh : Shift l l' g g' p f x t c a)
    (ow : Owes f x t c a i i' r r' b b' q q' e e' (weight (stage t) l)) where
  -- ticket t, and any other
  at' : (u : ℕ) → Dec (u ≡ t) → AtIn l' i' r' u (g' u)
  at' u (yes z) =
      subst (λ (v : ℕ). AtIn l' i' r' v (g' v)) (sym z)
      (subst (AtIn l' i' r' t) (sym sh.cell_now)
      (record {
        owned = omega (arith, before.owned, sh.sums (own t), ow.owned);
        handed = omega (arith, before.handed, sh.sums (hand t), ow.handed);
        low = omega (arith, sh.sums (stage t), ow.low);
        high = omega (arith, sh.sums (stage t), ow.high);
      }))
    where
      before : AtIn l i r t c
      before = subst (AtIn l i r t) sh.cell_was (inv.at t)
  at' u (no y) =
      let v = ow.away u (same-other t u (λ z. y (sym z))) in
      let w = ow.numbers u (same-other t u (λ z. y (sym z))) in
      subst (AtIn l' i' r' u) (sym (sh.cell_others u y))
      (record {
        owned = omega (arith, (inv.at u).owned, sh.sums (own u), v.0, w.0);
        handed = omega (arith, (inv.at u).handed, sh.sums (hand u), v.1, w.1);
        low = omega (arith, (inv.at u).low, sh.sums (stage u), v.2);
        high = omega (arith, (inv.at u).high, sh.sums (stage u), v.2);
      })

  named' : Names p t x c a → (u j : ℕ) → Dec (u ≡ t) → Dec (j ≡ p) → g' u ≡ WaitedBy j
      → stand u (phase_in l' j) ≡ 1
  named' nm u j (yes z) dj e = go a nm (sym sh.cell_now ∙ ap g' (sym z) ∙ e) dj
    where
      go : (d : Place) → Names p t x c d → d ≡ WaitedBy j → Dec (j ≡ p)
          → stand u (phase_in l' j) ≡ 1
      go Empty n e d = cc
      go Permit n e d = cc
      go Cancelled n e d = cc
      go Refused n e d = cc
      go Done n e d = cc
      go (WaitedBy k) n e (yes y) =
          let one : stand t x ≡ 1 = n.0 (cc) in
          omega (
            arith,
            one,
            ap (stand u) (ap (phase_in l') y ∙ sh.now),
            ap (λ (v : ℕ). stand v x) z,
          )
      go (WaitedBy k) n e (no y) =
          let e' : k ≡ j = cc in
          let bj : c ≡ WaitedBy j = n.1 (λ i. y (sym e' ∙ i)) ∙ e in
          omega (
            arith,
            inv.named t j (sh.cell_was ∙ bj),
            ap (stand u) (sh.others j y),
            ap (λ (v : ℕ). stand v (phase_in l j)) z,
          )
  named' nm u j (no y) (yes z) e =
      omega (
        arith,
        inv.named u j (sym (sh.cell_others u y) ∙ e),
        (ow.away u (same-other t u (λ i. y (sym i)))).3,
        ap (stand u) (ap (phase_in l) z ∙ sh.was),
        ap (stand u) (ap (phase_in l') z ∙ sh.now),
        stand-le u x,
      )
  named' nm u j (no y) (no z) e =
      omega (arith, inv.named u j (sym (sh.cell_others u y) ∙ e), ap (stand u) (sh.others j z))

  -- Every move keeps it.
  pub keep-tickets : Names p t x c a → p < n → Tickets l' g' n i' r' b' q' e'
  keep-tickets nm k =
      record {
        size = sh.size ∙ inv.size;
        few = inv.few;
        beyond = λ j h. sh.others j (λ z. omega arith) ∙ inv.beyond j h;
        line = omega (
          arith,
          inv.line,
          sh.sums cancelling,
          sh.sums suspending,
          sh.sums handing,
          sh.cell_sums cancelled_cell,
          ow.line,
        );
        balance = omega (
          arith,
          inv.balance,
          sh.sums suspending,
          sh.sums live,
          sh.sums refusing,
          sh.cell_sums permit_cell,
          sh.cell_sums refused_cell,
          ow.balance,
        );
        borne = omega (arith, inv.borne, sh.sums resuming, ow.borne);
        drawn = omega (arith, inv.drawn, sh.sums drawing, ow.drawn);
        begun = ow.begun inv.begun;
        at = λ u. at' u (ℕ_discrete u t);
        named = λ u j. named' nm u j (ℕ_discrete u t) (ℕ_discrete j p);
      }

-- What a row may use.
module _ {l : List Phase} {g : ℕ → Place} {n i r b q e : ℕ} (inv : Tickets l g n i r b q e) where
  pub one_in : (w : Phase → ℕ) (p : ℕ) (f : Phase) → w Phase.Free ≡ 0 → phase_in l p ≡ f
      → w f ≤ weight w l
  one_in w p f z h = omega (arith, weight-one w Phase.Free z l p, ap w h)

  pub owner-below : (p t : ℕ) (f : Phase) → phase_in l p ≡ f → 1 ≤ own t f → t < i
  unfolding pick is_one_of
  owner-below p t f h o = lt-pos t i (omega (arith, one_in (own t) p f refl h, (inv.at t).owned))

  pub hand-below : (p t : ℕ) → phase_in l p ≡ Phase.ResumingAt t → t < r
  unfolding pick is_one_of
  hand-below p t h =
      lt-pos t r
      (omega (
        arith,
        one_in (hand t) p (Phase.ResumingAt t) refl h,
        same_self t,
        (inv.at t).handed,
      ))

  pub permit-below : (t : ℕ) → g t ≡ Place.Permit → t < r
  unfolding is_place_of
  permit-below t h = lt-pos t r (omega (arith, (inv.at t).handed, ap served h))

  pub drawing-most : weight suspending l ≤ weight drawing l
  drawing-most =
      weight-le suspending drawing Phase.Free l (λ j h. suspending-drawing (phase_in l j))

  -- No more tickets are resumed than are issued or to be issued.
  pub resumed-most : r ≤ i + weight suspending l
  resumed-most =
      omega (
        arith,
        inv.line,
        inv.borne,
        weight-le handing resuming Phase.Free l (λ j h. handing-resuming (phase_in l j)),
      )

  -- And fewer while somebody is to draw one.
  pub carried-most : weight carrying l + r ≤ i + weight suspending l
  carried-most =
      omega (
        arith,
        inv.line,
        inv.borne,
        weight-le (λ f. carrying f + handing f) resuming Phase.Free l
            (λ j h. carrying-resuming (phase_in l j)),
        weight-add carrying handing l,
      )

  -- Tickets drawn, and drawn to resume, are few.
  pub near : (i ≤ MAX_BEGUN) × (r ≤ MAX_BEGUN)
  near = omega (arith, inv.drawn, inv.begun, resumed-most, drawing-most)

  -- The one owner's stage is all there is of the stage.
  pub exact : (p t : ℕ) (f : Phase) → phase_in l p ≡ f → 1 ≤ own t f
      → weight (stage t) l ≡ stage t f
  unfolding pick is_one_of
  exact p t f h o =
      weight-all (stage t) (own t) Phase.Free (stage-own t) refl l p
      (omega (arith, (inv.at t).owned, lt-le t i)) (omega (arith, ap (own t) h))
      ∙ ap (stage t) h

  -- Whoever is not free is one of the parties.
  pub party-in : (p : ℕ) (f : Phase) → phase_in l p ≡ f → (f ≡ Phase.Free → ⊥) → p < n
  party-in p f h y = go (dec_le (suc p) n)
    where
      go : Dec (suc p ≤ n) → p < n
      go (yes z) = z
      go (no z) = absurd (y (sym h ∙ inv.beyond p (omega arith)))

  pub inside : (p : ℕ) → p < n → p < length l
  inside p j = omega (arith, inv.few, inv.size)

  -- What is known of a ticket that a party owns, and of a cell.
  pub mine : (p t : ℕ) (f : Phase) → phase_in l p ≡ f → 1 ≤ own t f
      → (weight (stage t) l ≡ stage t f) × (t < i) × (t < TICKETS)
  mine p t f h o =
      let k = owner-below p t f h o in
      (exact p t f h o, k, omega (arith, k, near))

  pub here : (t : ℕ) (a : Place) → g t ≡ a → AtIn l i r t a
  here t a h = subst (AtIn l i r t) h (inv.at t)
