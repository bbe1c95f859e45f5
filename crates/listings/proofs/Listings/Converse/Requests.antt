-- What a line and a request say of the phase: who waits, who can give up, and what becomes of them.
use Prim.Native.Nat.{ℕ}
use mathlib.Core.Path.{◌≡◌, refl, sym, ap, subst, ◌∙◌}
use mathlib.Core.Bool.{Bool, true, false, cond, not}
use mathlib.Core.Logic.{inl, inr}
use Rattle.hub.specs.declared.record.Phase.{Phase}
use Rattle.hub.specs.declared.record.Phase.TheVariants.{Holding, Waiting, Acquiring, Suspending, Ticketed}
use Rattle.hub.specs.declared.record.Phase.TheVariants.{AcquiringMarked, SuspendingMarked, TicketedMarked}
use Rattle.listings.specs.Listings.Converse.{Marked, Where, park_fits}
use Rattle.listings.specs.Listings.Machine.{Line, Listing, Request, aborted, is_parked_at}
use Rattle.listings.specs.Listings.Machine.{Outside, Inside, Acquire9, Suspend6, Suspend9, Suspend10, Suspend12, Taking12}
use Rattle.listings.specs.Listings.Machine.{Release16, Resume2, Resume4, Resume7, Resume10, Resume11, Resume19}
use Rattle.listings.specs.Listings.Machine.{Resume26, Resume28, Handler45, Handler55}
use Rattle.listings.specs.Listings.Shown.{is_parked}
use Rattle.hub.specs.Phases.{is_one_of, is_waiting, ticket_of}
use Rattle.hub.specs.Queue.{Queue}
use Rattle.hub.specs.Table.{can_cancel, given_up}
use Rattle.hub.proofs.Laws.Bools.{never}
use Rattle.hub.proofs.Laws.Phases.{one_of}
use Rattle.hub.proofs.Laws.Table.{can-cancel}
use Rattle.listings.proofs.Listings.Cells.{not-parked, parked-request}

-- Who waits is parked there, and the other way round.
pub waits-parked : (f : Phase) (g : Request) (t : ℕ) → park_fits f g ≡ true → f ≡ Waiting t → is_parked_at t g ≡ true
unfolding is_one_of
waits-parked f g t z e = subst (λ (h : Phase). park_fits h g ≡ true) e z

pub parked-waits : (f : Phase) (g : Request) (t : ℕ) → park_fits f g ≡ true → is_parked_at t g ≡ true → f ≡ Waiting t
parked-waits f g t z i = go (is_waiting f) refl z
  where
    same : (u : ℕ) → is_parked_at u g ≡ true → u ≡ t
    same u j = let y : Request.Parked u ≡ Request.Parked t = sym (parked-request u g j) ∙ parked-request t g i in cc

    go : (b : Bool) → is_waiting f ≡ b → cond b (is_parked_at (ticket_of f) g) (not (is_parked g)) ≡ true
        → f ≡ Waiting t
    go true y j = one_of (Waiting 0) f y ∙ ap Waiting (same (ticket_of f) j)
    go false y j = never (sym i ∙ not-parked t g j)

-- Who does not wait is in no cell.
pub lone : (f : Phase) (g : Request) → is_waiting f ≡ false → park_fits f g ≡ true → not (is_parked g) ≡ true
lone f g e z = rw e at z

-- After a cancel() nobody is parked.
pub aborted-none : (g : Request) → not (is_parked (aborted g)) ≡ true
aborted-none Request.Fresh = refl
aborted-none (Request.Parked j) = refl
aborted-none Request.Unparked = refl
aborted-none Request.Aborted = refl

-- A party that waits, woken.
marked-not : (g : Request) (f x y : Phase) (t : ℕ) → f ≡ Waiting t → (x ≡ Waiting t → ⊥) → (y ≡ Waiting t → ⊥) → Marked g f x y → ⊥
marked-not Request.Fresh f x y t e a b z = a (sym z ∙ e)
marked-not (Request.Parked j) f x y t e a b z = z
marked-not Request.Unparked f x y t e a b z = z
marked-not Request.Aborted f x y t e a b z = b (sym z ∙ e)

not-waiting : {A : Type 0} (f : Phase) (t : ℕ) → f ≡ Waiting t → is_waiting f ≡ false → A
unfolding is_one_of
not-waiting f t e i = never (sym (ap is_waiting e) ∙ i)

pub woken-at : (m : Queue) (s : Listing) (t : ℕ) (x : Line) (g : Request) (f : Phase) → f ≡ Waiting t → Where x m s f g
    → Where x m s Holding Request.Unparked
unfolding is_one_of
woken-at m s t Outside g f e z = not-waiting f t e (ap is_waiting z)
woken-at m s t Inside g f e z = not-waiting f t e (ap is_waiting z)
woken-at m s t Acquire9 g f e z =
    absurd (marked-not g f Acquiring AcquiringMarked t e (λ a. not-waiting Acquiring t a refl) (λ a. not-waiting AcquiringMarked t a refl) z)
woken-at m s t Suspend6 g f e z =
    absurd (marked-not g f Suspending SuspendingMarked t e (λ a. not-waiting Suspending t a refl) (λ a. not-waiting SuspendingMarked t a refl) z)
woken-at m s t (Suspend9 i) g f e z =
    absurd (marked-not g f (Ticketed i) (TicketedMarked i) t e (λ a. not-waiting (Ticketed i) t a refl) (λ a. not-waiting (TicketedMarked i) t a refl) z)
woken-at m s t (Suspend10 i) g f e z = refl
woken-at m s t (Suspend12 i) g f e z = not-waiting f t e (ap is_waiting z.0)
woken-at m s t (Taking12 i) g f e z = not-waiting f t e (ap is_waiting z.0)
woken-at m s t Release16 g f e z = not-waiting f t e (ap is_waiting z)
woken-at m s t Resume2 g f e z = not-waiting f t e (ap is_waiting z)
woken-at m s t (Resume4 i) g f e (inl z) = not-waiting f t e (ap is_waiting z)
woken-at m s t (Resume4 i) g f e (inr z) = not-waiting f t e (ap is_waiting z.0)
woken-at m s t (Resume7 i) g f e z = not-waiting f t e (ap is_waiting z)
woken-at m s t (Resume10 i q) g f e z = not-waiting f t e (ap is_waiting z.0)
woken-at m s t (Resume11 i) g f e z = not-waiting f t e (ap is_waiting z.0)
woken-at m s t (Resume19 i q) g f e z = not-waiting f t e (ap is_waiting z.0)
woken-at m s t (Resume26 i) g f e z = not-waiting f t e (ap is_waiting z)
woken-at m s t (Resume28 i) g f e z = not-waiting f t e (ap is_waiting z)
woken-at m s t (Handler45 i) g f e z = not-waiting f t e (ap is_waiting z)
woken-at m s t (Handler55 i) g f e z = not-waiting f t e (ap is_waiting z)

-- A cancel() of a party that can give up, and of one that cannot.
pub gives_up : (m : Queue) (s : Listing) (x : Line) (f : Phase) (g : Request) → can_cancel f ≡ true → Where x m s f g
    → Where x m s (given_up f) (aborted g)
unfolding is_one_of given_up
gives_up m s Outside f g c z = never (sym c ∙ ap can_cancel z)
gives_up m s Inside f g c z = never (sym c ∙ ap can_cancel z)
gives_up m s Acquire9 f Request.Fresh c z = ap given_up z
gives_up m s Acquire9 f (Request.Parked j) c z = absurd z
gives_up m s Acquire9 f Request.Unparked c z = absurd z
gives_up m s Acquire9 f Request.Aborted c z = never (sym c ∙ ap can_cancel z)
gives_up m s Suspend6 f Request.Fresh c z = ap given_up z
gives_up m s Suspend6 f (Request.Parked j) c z = absurd z
gives_up m s Suspend6 f Request.Unparked c z = absurd z
gives_up m s Suspend6 f Request.Aborted c z = never (sym c ∙ ap can_cancel z)
gives_up m s (Suspend9 i) f Request.Fresh c z = ap given_up z
gives_up m s (Suspend9 i) f (Request.Parked j) c z = absurd z
gives_up m s (Suspend9 i) f Request.Unparked c z = absurd z
gives_up m s (Suspend9 i) f Request.Aborted c z = never (sym c ∙ ap can_cancel z)
gives_up m s (Suspend10 i) f Request.Fresh c z = absurd z
gives_up m s (Suspend10 i) f (Request.Parked j) c z = ap given_up z
gives_up m s (Suspend10 i) f Request.Unparked c z = never (sym c ∙ ap can_cancel z)
gives_up m s (Suspend10 i) f Request.Aborted c z = never (sym c ∙ ap can_cancel z)
gives_up m s (Suspend12 i) f g c z = never (sym c ∙ ap can_cancel z.0)
gives_up m s (Taking12 i) f g c z = never (sym c ∙ ap can_cancel z.0)
gives_up m s Release16 f g c z = never (sym c ∙ ap can_cancel z)
gives_up m s Resume2 f g c z = never (sym c ∙ ap can_cancel z)
gives_up m s (Resume4 i) f g c (inl z) = never (sym c ∙ ap can_cancel z)
gives_up m s (Resume4 i) f g c (inr z) = never (sym c ∙ ap can_cancel z.0)
gives_up m s (Resume7 i) f g c z = never (sym c ∙ ap can_cancel z)
gives_up m s (Resume10 i q) f g c z = never (sym c ∙ ap can_cancel z.0)
gives_up m s (Resume11 i) f g c z = never (sym c ∙ ap can_cancel z.0)
gives_up m s (Resume19 i q) f g c z = never (sym c ∙ ap can_cancel z.0)
gives_up m s (Resume26 i) f g c z = never (sym c ∙ ap can_cancel z)
gives_up m s (Resume28 i) f g c z = never (sym c ∙ ap can_cancel z)
gives_up m s (Handler45 i) f g c z = never (sym c ∙ ap can_cancel z)
gives_up m s (Handler55 i) f g c z = never (sym c ∙ ap can_cancel z)

pub stays : (m : Queue) (s : Listing) (x : Line) (f : Phase) (g : Request) → can_cancel f ≡ false → Where x m s f g
    → Where x m s f (aborted g)
unfolding is_one_of
stays m s Outside f g c z = z
stays m s Inside f g c z = z
stays m s Acquire9 f Request.Fresh c z = never (sym (ap can_cancel z) ∙ c)
stays m s Acquire9 f (Request.Parked j) c z = absurd z
stays m s Acquire9 f Request.Unparked c z = z
stays m s Acquire9 f Request.Aborted c z = z
stays m s Suspend6 f Request.Fresh c z = never (sym (ap can_cancel z) ∙ c)
stays m s Suspend6 f (Request.Parked j) c z = absurd z
stays m s Suspend6 f Request.Unparked c z = z
stays m s Suspend6 f Request.Aborted c z = z
stays m s (Suspend9 i) f Request.Fresh c z = never (sym (ap can_cancel z) ∙ c)
stays m s (Suspend9 i) f (Request.Parked j) c z = absurd z
stays m s (Suspend9 i) f Request.Unparked c z = z
stays m s (Suspend9 i) f Request.Aborted c z = z
stays m s (Suspend10 i) f Request.Fresh c z = absurd z
stays m s (Suspend10 i) f (Request.Parked j) c z = never (sym (ap can_cancel z) ∙ c)
stays m s (Suspend10 i) f Request.Unparked c z = z
stays m s (Suspend10 i) f Request.Aborted c z = z
stays m s (Suspend12 i) f g c z = z
stays m s (Taking12 i) f g c z = z
stays m s Release16 f g c z = z
stays m s Resume2 f g c z = z
stays m s (Resume4 i) f g c (inl z) = inl z
stays m s (Resume4 i) f g c (inr z) = inr z
stays m s (Resume7 i) f g c z = z
stays m s (Resume10 i q) f g c z = z
stays m s (Resume11 i) f g c z = z
stays m s (Resume19 i q) f g c z = z
stays m s (Resume26 i) f g c z = z
stays m s (Resume28 i) f g c z = z
stays m s (Handler45 i) f g c z = z
stays m s (Handler55 i) f g c z = z

-- Neither waits then.
pub given-up-not : (f : Phase) → can_cancel f ≡ true → is_waiting (given_up f) ≡ false
unfolding is_one_of given_up
given-up-not = can-cancel (λ f. is_waiting (given_up f) ≡ false) (λ t. refl) refl refl (λ t. refl)

pub cannot-not : (f : Phase) → can_cancel f ≡ false → is_waiting f ≡ false
cannot-not f c = go (is_waiting f) refl
  where
    can : (t : ℕ) → can_cancel (Waiting t) ≡ true
    can t = unfold is_one_of in refl

    go : (b : Bool) → is_waiting f ≡ b → b ≡ false
    go true i = never (sym (ap can_cancel (one_of (Waiting 0) f i) ∙ can (ticket_of f)) ∙ c)
    go false i = refl

-- A request that is in no cell fits a party that does not wait.
pub lone-fits : (f : Phase) (g : Request) → is_waiting f ≡ false → not (is_parked g) ≡ true → park_fits f g ≡ true
lone-fits f g e z = rw e z
