-- Lines before a hub is open, read a character at a time.
use Prim.Native.Nat.{ℕ, suc, ◌+◌, ◌-◌, ◌*◌, ◌≤◌, ◌<◌}
use mathlib.Core.Path.{◌≡◌, refl, sym, ap, ◌∙◌, subst}
use mathlib.Core.Bool.{Bool, true, false, cond, ◌&&◌}
use mathlib.Core.List.{List, [], ◌∷◌, ◌++◌, append-nil}
use mathlib.Core.Logic.{inl, inr}
use native.Mathlib.Omega.{arith}
use borrow.Rule.Slice.PartMut.{put_mid}
use borrow.Author.Tests.{ne_eqb, eq-eqb}
use lib.Dec.{eqb}
use lib.ListN.{length, get_or, take, drop, length-append, take-append-drop, drop_of_length-le}
use lib.Seq.{drop-cons, take-suc, take_at, drop_at, drop-drop}
use Rattle.std.proofs.Common.{Option, Some, None}
use Rattle.hub.specs.declared.moves.Op.{Op}
use Rattle.hub.specs.declared.opening.Opening.{Opening}
use Rattle.hub.specs.declared.record.Hub.{Hub}
use Rattle.hub.specs.declared.record.Outcome.{Outcome}
use Rattle.hub.specs.declared.answers.Answer.{Answer}
use Rattle.hub.specs.Answers.{plain}
use Rattle.hub.specs.Opening.{fresh, opening, tests}
use Rattle.hub.proofs.Laws.Bools.{if-true, if-false}
use Rattle.hub.proofs.Laws.Opening.{Ends, ends as opening-ends, opened as accepted, refused}
use Rattle.encoding.specs.Form.{as_text}
use Rattle.encoding.specs.Frame.{code_of}
use Rattle.line.specs.Program.{unopened, is_open, Response, before_open, respond, after}
use Rattle.line.specs.Program.{replies, reply_in, rendered}
use Rattle.line.specs.Requests.{Request, malformed, to_open, to_call, request_of, header_of}
use Rattle.encoding.proofs.Laws.Parts.{parts, put-length}
use Rattle.line.proofs.Laws.Schedules.{respond-before}
use Rattle.batch.specs.Batch.{Reachable}
use Rattle.batch.proofs.Laws.Reachable.{reachable-open, opening-reachable, response-reachable}
use Rattle.beforeopen.specs.declared.opening.Begun.{Begun}
use Rattle.reader.specs.declared.Reader.{Reader}
use Rattle.beforeopen.specs.Opening.{SessionHub, refusal, opens_hub, hub_opened, until_open, open_at, early, begun_by}
use Rattle.reader.specs.Reading.{line_in, pushed, emptied, next, past, asked}
use Rattle.reader.proofs.Laws.Pieces.{Kept, pushed-kept}
use Rattle.beforeopen.proofs.Laws.Appended.{lines, replies-append, after-append}
use Rattle.beforeopen.proofs.Laws.Appended.{past-append, asked-append}
use Rattle.beforeopen.proofs.Laws.Sizes.{replies-size}

not-both : {A : Type 0} {b : Bool} → b ≡ true → b ≡ false → A
not-both e f = let z : ◌≡◌ {A = ℕ} 0 1 = cc in let y : ⊥ = omega arith in absurd y

pub shut : is_open unopened ≡ false
unfolding fresh
shut = refl

-- A session has no hub, or one that is reached from its opening.
pub session-open : (h : Hub) → SessionHub h → is_open h ≡ true → Reachable h
session-open h (inl e) o = not-both o (ap is_open e ∙ shut)
session-open h (inr r) o = r

pub session-shut : (h : Hub) → SessionHub h → is_open h ≡ false → h ≡ unopened
session-shut h (inl e) o = e
session-shut h (inr r) o = not-both (reachable-open h r) o

opening-session : (o : Opening) → SessionHub (opening o).hub
opening-session o = go _ _ (opening-ends o (tests o)) refl
  where
    go : (b : Bool) (x : Outcome) → Ends o b x → opening o ≡ x → SessionHub x.hub
    go false x (refused r) e = inl refl
    go true x accepted e =
        inr (subst (λ (x : Outcome). Reachable x.hub) e
        (opening-reachable o (ap (λ (x : Outcome). x.answer) e)))

before-session : (q : Request) → SessionHub (before_open q).hub
unfolding before_open
before-session malformed = inl refl
before-session (to_open o) = opening-session o
before-session (to_call c) = inl refl

respond-session : (h : Hub) (q : Request) → SessionHub h → SessionHub (respond h q).hub
respond-session h q (inl e) =
    subst (λ (t : Response). SessionHub t.hub) (sym (respond-before h q (ap is_open e ∙ shut)))
    (before-session q)
respond-session h q (inr r) = inr (response-reachable h q r)

pub after-session : (rs : List Request) (h : Hub) → SessionHub h → SessionHub (after h rs)
unfolding after
after-session [] h k = k
after-session (r ∷ rs) h k = after-session rs (respond h r).hub (respond-session h r k)

-- A line that opens no hub leaves none.
pub stays-shut : (q : Request) → opens_hub q ≡ false → (before_open q).hub ≡ unopened
stays-shut q e = session-shut (before_open q).hub (before-session q) e

until-few : (cs : List ℕ) (r : Reader) → until_open r cs ≤ length cs
unfolding until_open
until-few [] r = omega arith
until-few (c ∷ cs) r =
    go (eqb c 0x0A && opens_hub (request_of (line_in r))) (until-few cs (next r c))
  where
    go : (b : Bool) → until_open (next r c) cs ≤ length cs
        → suc (cond b 0 (until_open (next r c) cs)) ≤ suc (length cs)
    go true l = omega arith
    go false l = omega arith

-- If no hub is open in the end, all was read.
all-until : (cs : List ℕ) (r : Reader)
    → is_open (after unopened (asked r (take (until_open r cs) cs))) ≡ false
    → until_open r cs ≡ length cs
unfolding until_open asked after
all-until [] r z = refl
all-until (c ∷ cs) r z =
    let q = request_of (line_in r) in
    ap suc (go (eqb c 0x0A) q (opens_hub q) refl (all-until cs (next r c)) z)
  where
    go : (t : Bool) (q : Request) (o : Bool) → opens_hub q ≡ o
        → (is_open (after unopened (asked (next r c) (take (until_open (next r c) cs) cs))) ≡ false
        → until_open (next r c) cs ≡ length cs)
        → is_open
        (after unopened
        (let rs = asked (next r c) (take (cond (t && o) 0 (until_open (next r c) cs)) cs) in
        cond t (q ∷ rs) rs))
        ≡ false
        → cond (t && o) 0 (until_open (next r c) cs) ≡ length cs
    go true q true e f z =
        not-both (ap (λ (t : Response). is_open t.hub) (respond-before unopened q shut) ∙ e) z
    go true q false e f z =
        f (ap (λ (h : Hub). is_open (after h (asked (next r c) (take (until_open (next r c) cs) cs))))
        (sym (ap (λ (t : Response). t.hub) (respond-before unopened q shut) ∙ stays-shut q e))
        ∙ z)
    go false q o e f z = f z

module _ (h : Hub) (r : Reader) (piece : List ℕ) where
  pub open-few : open_at h r piece ≤ length piece
  open-few = go (is_open h)
    where
      go : (b : Bool) → cond b 0 (until_open r piece) ≤ length piece
      go true = omega arith
      go false = until-few piece r

  pub all_read : SessionHub h → is_open (after h (asked r (early h r piece))) ≡ false
      → open_at h r piece ≡ length piece
  unfolding asked after
  all_read k z = go (is_open h) refl z
    where
      go : (b : Bool) → is_open h ≡ b
          → is_open (after h (asked r (take (cond b 0 (until_open r piece)) piece))) ≡ false
          → cond b 0 (until_open r piece) ≡ length piece
      go true e z = not-both e z
      go false e z =
          all-until piece r
          (ap (λ (g : Hub). is_open (after g (asked r (take (until_open r piece) piece))))
          (sym (session-shut h k e)) ∙ z)

-- A line that is no opening is refused, by its header, and opens nothing.
pub refused-line : (q : Request) (c p : ℕ) → c ≡ (header_of q).code → p ≡ (header_of q).party
    → (c ≡ 0x01 → ⊥) → (refusal c p ≡ (before_open q).reply) × (opens_hub q ≡ false)
unfolding before_open
refused-line malformed c p e f m = ((λ i. refusal (e i) (f i)), shut)
refused-line (to_open o) c p e f m = absurd (m e)
refused-line (to_call a) c p e f m = (
  (λ i. refusal (e i) (f i))
      ∙ (λ i. record { party = a.party; answer = plain (call-code a.op i) }),
  shut,
)
  where
    call-code : (o : Op) → ◌≡◌ {A = ℕ} (cond (eqb (code_of o) 0x00) 12 13) 13
    call-code Op.Acquire = refl
    call-code Op.Step = refl
    call-code Op.Cancel = refl
    call-code Op.Release = refl
    call-code Op.Radio = refl

-- Does a line open a hub? By the hub that it opens, or that it opens none.
pub some-opened : (q : Request) {o : Option Hub} → o ≡ hub_opened q → {h : Hub} → o ≡ Some h
    → (opens_hub q ≡ true) × (h ≡ (before_open q).hub)
some-opened q {o} e {h} s = go (opens_hub q) refl (sym s ∙ e)
  where
    go : (b : Bool) → opens_hub q ≡ b → Some h ≡ cond b (Some (before_open q).hub) None
        → (opens_hub q ≡ true) × (h ≡ (before_open q).hub)
    go true b i = (b, cc)
    go false b i = absurd (cc)

pub none-opened : (q : Request) {o : Option Hub} → o ≡ hub_opened q → o ≡ None → opens_hub q ≡ false
none-opened q {o} e n = go (opens_hub q) refl (sym n ∙ e)
  where
    go : (b : Bool) → opens_hub q ≡ b → None ≡ cond b (Some (before_open q).hub) None → opens_hub q ≡ false
    go true b i = absurd (cc)
    go false b i = b

pub is-open : (o : Opening) {h : Hub} → ◌≡◌ {A = Outcome} (record { answer = Answer.Opened; hub = h }) (opening o)
    → is_open h ≡ true
is-open o {h} e =
    reachable-open h
    (subst Reachable (ap (λ (x : Outcome). x.hub) (sym e))
    (opening-reachable o (ap (λ (x : Outcome). x.answer) (sym e))))

pub is-opened : (q : Request) {h : Hub} → h ≡ (before_open q).hub → is_open h ≡ true → Some h ≡ hub_opened q
is-opened q e o = ap Some e ∙ sym (if-true (opens_hub q) _ _ (ap is_open (sym e) ∙ o))

pub is-refused : (q : Request) {h : Hub} → h ≡ (before_open q).hub → is_open h ≡ false → None ≡ hub_opened q
is-refused q e o = sym (if-false (opens_hub q) _ _ (ap is_open (sym e) ∙ o))

-- What is known once the reading stops.
abbrev pub Stops : Hub → Reader → List ℕ → List ℕ → Begun → List ℕ → Type 0
Stops h r piece out₀ b out =
    (b ≡ begun_by h r piece)
    × (out ≡ lines h (asked r (early h r piece))
    ++ drop (15 * length (asked r (early h r piece))) out₀)

-- A hub that is open already.
pub already-open : (h : Hub) (r : Reader) (piece out : List ℕ) → is_open h ≡ true
    → Stops h r piece out (record { hub = h; reader = r; read = 0; lines = 0 }) out
unfolding past asked after replies rendered
already-open h r piece out e =
    let f : 0 ≡ open_at h r piece = sym (if-true (is_open h) 0 (until_open r piece) e) in (
      (λ i. record {
        hub = after h (asked r (take (f i) piece));
        reader = past r (take (f i) piece);
        read = f i;
        lines = length (asked r (take (f i) piece));
      }),
      (λ i. lines h (asked r (take (f i) piece)) ++ drop (15 * length (asked r (take (f i) piece))) out),
    )

-- After i characters without a hub, from the reader r₀ and the buffer out₀; n lines have ended.
pub record Upto (r₀ : Reader) (piece out₀ : List ℕ) (r : Reader) (out : List ℕ) (n i : ℕ)
    : Type 0 where
  pub within : i ≤ length piece
  pub kept : Kept r
  pub long : length out ≡ length out₀
  pub room : 15 * length (asked r₀ piece) ≤ length out
  pub reader : r ≡ past r₀ (take i piece)
  pub count : n ≡ length (asked r₀ (take i piece))
  pub none : after unopened (asked r₀ (take i piece)) ≡ unopened
  pub same : out ≡ lines unopened (asked r₀ (take i piece)) ++ drop (15 * n) out₀
  pub ahead : i + until_open r (drop i piece) ≡ until_open r₀ piece

pub start : (r : Reader) (piece out : List ℕ) → Kept r
    → 15 * length (asked r piece) ≤ length out → Upto r piece out r out 0 0
unfolding past asked after replies rendered
start r piece out s l =
    record {
      within = omega arith;
      kept = s;
      long = refl;
      room = l;
      reader = refl;
      count = refl;
      none = refl;
      same = refl;
      ahead = omega arith;
    }

-- Through character n, if that is where the hub is open or the piece ends.
stops : (r₀ : Reader) (piece out₀ : List ℕ) (n : ℕ) → n ≡ until_open r₀ piece
    → Stops unopened r₀ piece out₀
    (record {
      hub = after unopened (asked r₀ (take n piece));
      reader = past r₀ (take n piece);
      read = n;
      lines = length (asked r₀ (take n piece));
    })
    (lines unopened (asked r₀ (take n piece)) ++ drop (15 * length (asked r₀ (take n piece))) out₀)
stops r₀ piece out₀ n e =
    let f : n ≡ open_at unopened r₀ piece =
    e ∙ sym (if-false (is_open unopened) 0 (until_open r₀ piece) shut) in (
      (λ i. record {
        hub = after unopened (asked r₀ (take (f i) piece));
        reader = past r₀ (take (f i) piece);
        read = f i;
        lines = length (asked r₀ (take (f i) piece));
      }),
      (λ i. lines unopened (asked r₀ (take (f i) piece))
          ++ drop (15 * length (asked r₀ (take (f i) piece))) out₀),
    )

module _ {r₀ : Reader} {piece out₀ : List ℕ} {r : Reader} {out : List ℕ} {n i : ℕ}
    (u : Upto r₀ piece out₀ r out n i) where
  -- At the end of the piece.
  pub ended : length piece ≤ i → (h : Hub) → h ≡ unopened
      → Stops h r₀ piece out₀ (record { hub = h; reader = r; read = length piece; lines = n }) out
  unfolding until_open
  ended l h none =
      let e : i ≡ until_open r₀ piece =
      omega (
        arith,
        u.ahead,
        ap (λ (k : List ℕ). until_open r k) (drop_of_length-le piece {i = i} l),
      ) in
      let all : length piece ≡ i = omega (arith, u.within) in
      let s = stops r₀ piece out₀ i e in
      subst
      (λ (h : Hub). Stops h r₀ piece out₀ (record { hub = h; reader = r; read = length piece; lines = n }) out)
      (sym none) (
        (λ j. record {
          hub = sym u.none j;
          reader = u.reader j;
          read = all j;
          lines = u.count j;
        })
            ∙ s.0,
        u.same
            ∙ ap (λ (k : ℕ). lines unopened (asked r₀ (take i piece)) ++ drop (15 * k) out₀) u.count
            ∙ s.1,
      )

  -- One character more.
  module _ (more : i < length piece) where
    abbrev c : ℕ
    c = get_or piece i 0

    -- What the line so far asks.
    abbrev q : Request
    q = request_of (line_in r)

    here : drop i piece ≡ c ∷ drop (i + 1) piece
    here = drop-cons piece i 0 more ∙ ap (λ (j : ℕ). c ∷ drop j piece) (one i)
      where
        one : (m : ℕ) → suc m ≡ m + 1
        one m = omega arith

    so_far : take (i + 1) piece ≡ take i piece ++ (c ∷ [])
    so_far = ap (λ (j : ℕ). take j piece) (one i) ∙ take-suc piece i 0 more
      where
        one : (m : ℕ) → m + 1 ≡ suc m
        one m = omega arith

    past-so-far : past r₀ (take (i + 1) piece) ≡ next r c
    unfolding past
    past-so-far =
        ap (past r₀) so_far ∙ past-append (take i piece) (c ∷ []) r₀
        ∙ ap (λ (p : Reader). next p c) (sym u.reader)

    asked-so-far : asked r₀ (take (i + 1) piece)
        ≡ asked r₀ (take i piece) ++ cond (eqb c 0x0A) (q ∷ []) []
    unfolding asked
    asked-so-far =
        ap (asked r₀) so_far ∙ asked-append (take i piece) (c ∷ []) r₀
        ∙ ap
        (λ (p : Reader). asked r₀ (take i piece) ++ cond (eqb c 0x0A) (request_of (line_in p) ∷ []) [])
        (sym u.reader)

    ahead-is : i + until_open r (drop i piece)
        ≡ i + 1 + cond (eqb c 0x0A && opens_hub q) 0 (until_open (next r c) (drop (i + 1) piece))
    unfolding until_open
    ahead-is = ap (λ (l : List ℕ). i + until_open r l) here ∙ omega arith

    -- The character ends no line.
    pub within-line : (c ≡ 0x0A → ⊥) → {p : Reader} → p ≡ pushed r c
        → Upto r₀ piece out₀ p out n (i + 1)
    within-line f {p} e =
        let b : eqb c 0x0A ≡ false = ne_eqb c 0x0A f in
        let is : p ≡ next r c = e ∙ sym (if-false (eqb c 0x0A) _ _ b) in
        let a : asked r₀ (take (i + 1) piece) ≡ asked r₀ (take i piece) =
        asked-so-far
        ∙ ap (λ (l : List Request). asked r₀ (take i piece) ++ l) (if-false (eqb c 0x0A) _ _ b)
        ∙ append-nil (asked r₀ (take i piece)) in
        record {
          within = omega arith;
          kept = subst Kept (sym e) (pushed-kept r c u.kept);
          long = u.long;
          room = u.room;
          reader = is ∙ sym past-so-far;
          count = u.count ∙ ap length (sym a);
          none = ap (after unopened) a ∙ u.none;
          same = u.same ∙ ap (λ (l : List Request). lines unopened l ++ drop (15 * n) out₀) (sym a);
          ahead =
              ap (λ (q : Reader). i + 1 + until_open q (drop (i + 1) piece)) is
              ∙ sym (ahead-is ∙ rw b) ∙ u.ahead;
        }

    -- The character ends a line.
    module _ (feed : c ≡ 0x0A) where
      ends : eqb c 0x0A ≡ true
      ends = eq-eqb c 0x0A feed

      all_asked : asked r₀ (take (i + 1) piece) ≡ asked r₀ (take i piece) ++ (q ∷ [])
      all_asked =
          asked-so-far
          ∙ ap (λ (l : List Request). asked r₀ (take i piece) ++ l) (if-true (eqb c 0x0A) _ _ ends)

      pub room-for-one : 15 * n + 15 ≤ length out
      room-for-one =
          omega (
            arith,
            u.room,
            u.count,
            ap length all_asked,
            length-append (asked r₀ (take i piece)) (q ∷ []),
            ap length
                (ap (asked r₀) (sym (take-append-drop (i + 1) piece))
                ∙ asked-append (take (i + 1) piece) (drop (i + 1) piece) r₀),
            length-append (asked r₀ (take (i + 1) piece))
                (asked (past r₀ (take (i + 1) piece)) (drop (i + 1) piece)),
          )

      -- Its reply is written.
      module _ {part : List ℕ} (p : part ≡ reply_in as_text (before_open q).reply) {clear : Reader}
          (e : clear ≡ emptied r) where
        abbrev out' : List ℕ
        out' = put_mid (15 * n) (15 * n + 15 - 15 * n) out part

        size : length part ≡ 15
        size = ap length p

        count' : n + 1 ≡ length (asked r₀ (take (i + 1) piece))
        count' =
            sym
            (ap length all_asked ∙ length-append (asked r₀ (take i piece)) (q ∷ [])
            ∙ ap (λ (k : ℕ). k + 1) (sym u.count))

        hub' : after unopened (asked r₀ (take (i + 1) piece)) ≡ (before_open q).hub
        unfolding after
        hub' =
            ap (after unopened) all_asked
            ∙ after-append (asked r₀ (take i piece)) (q ∷ []) unopened
            ∙ ap (λ (h : Hub). after h (q ∷ [])) u.none
            ∙ ap (λ (t : Response). t.hub) (respond-before unopened q shut)

        said : lines unopened (asked r₀ (take (i + 1) piece))
            ≡ lines unopened (asked r₀ (take i piece)) ++ part
        unfolding replies rendered
        said =
            ap (lines unopened) all_asked
            ∙ replies-append (asked r₀ (take i piece)) (q ∷ []) unopened
            ∙ ap (λ (h : Hub). lines unopened (asked r₀ (take i piece)) ++ lines h (q ∷ [])) u.none
            ∙ ap (λ (l : List ℕ). lines unopened (asked r₀ (take i piece)) ++ l)
            (ap (λ (t : Response). reply_in as_text t.reply ++ []) (respond-before unopened q shut)
            ∙ append-nil (reply_in as_text (before_open q).reply) ∙ sym p)

        front : length (lines unopened (asked r₀ (take i piece))) ≡ 15 * n
        front =
            replies-size (asked r₀ (take i piece)) unopened
            ∙ ap (λ (k : ℕ). 15 * k) (sym u.count)

        out'-is : out' ≡ lines unopened (asked r₀ (take (i + 1) piece)) ++ drop (15 * (n + 1)) out₀
        out'-is =
            parts out part (15 * n) 15 room-for-one size
            ∙ (λ j. (take (15 * n) (u.same j) ++ part) ++ drop (15 * n + 15) (u.same j))
            ∙ (λ j. (take_at (lines unopened (asked r₀ (take i piece))) (drop (15 * n) out₀) (15 * n)
            front j ++ part)
            ++ back j)
            ∙ (λ j. sym said j ++ drop (up n j) out₀)
          where
            up : (n : ℕ) → 15 * n + 15 ≡ 15 * (n + 1)
            up n = omega arith

            back : drop (15 * n + 15)
                (lines unopened (asked r₀ (take i piece)) ++ drop (15 * n) out₀)
                ≡ drop (15 * n + 15) out₀
            back =
                sym (drop-drop 15 (15 * n) (lines unopened (asked r₀ (take i piece)) ++ drop (15 * n) out₀))
                ∙ ap (drop 15)
                (drop_at (lines unopened (asked r₀ (take i piece))) (drop (15 * n) out₀) (15 * n) front)
                ∙ drop-drop 15 (15 * n) out₀

        is : clear ≡ next r c
        is = e ∙ sym (if-true (eqb c 0x0A) _ _ ends)

        long-still : length out' ≡ length out
        long-still = put-length out part (15 * n) 15 room-for-one size

        -- No hub is open yet.
        pub onward : opens_hub q ≡ false → Upto r₀ piece out₀ clear out' (n + 1) (i + 1)
        onward o =
            record {
              within = omega arith;
              kept = subst Kept (sym e) (record { size = u.kept.size; short = omega arith });
              long = long-still ∙ u.long;
              room = omega (arith, u.room, long-still);
              reader = is ∙ sym past-so-far;
              count = count';
              none = hub' ∙ stays-shut q o;
              same = out'-is;
              ahead =
                  ap (λ (q : Reader). i + 1 + until_open q (drop (i + 1) piece)) is
                  ∙ sym (ahead-is ∙ rw (ends, o)) ∙ u.ahead;
            }

        -- This line opens it.
        pub opened : opens_hub q ≡ true → (h₀ : Hub) → h₀ ≡ unopened → (h : Hub)
            → h ≡ (before_open q).hub
            → Stops h₀ r₀ piece out₀
            (record { hub = h; reader = clear; read = i + 1; lines = n + 1 }) out'
        opened o h₀ none h g =
            let here : i + 1 ≡ until_open r₀ piece = nought i ∙ sym (ahead-is ∙ rw (ends, o)) ∙ u.ahead in
            let s = stops r₀ piece out₀ (i + 1) here in
            subst
            (λ (h₀ : Hub). Stops h₀ r₀ piece out₀
            (record { hub = h; reader = clear; read = i + 1; lines = n + 1 }) out')
            (sym none) (
              (λ j. record {
                hub = (g ∙ sym hub') j;
                reader = (is ∙ sym past-so-far) j;
                read = i + 1;
                lines = count' j;
              })
                  ∙ s.0,
              out'-is
                  ∙ ap (λ (k : ℕ). lines unopened (asked r₀ (take (i + 1) piece)) ++ drop (15 * k) out₀)
                  count'
                  ∙ s.1,
            )
          where
            nought : (i : ℕ) → i + 1 ≡ i + 1 + 0
            nought i = omega arith
