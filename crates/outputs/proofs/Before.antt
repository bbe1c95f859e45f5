-- An input of the old format is answered as it was: its openings give no kinds, and the hub that they open holds the
-- built-in table from then on.
use Prim.Native.Nat.{ℕ, suc, ◌+◌, ◌≤◌}
use mathlib.Core.Path.{◌≡◌, refl, ap, ◌∙◌}
use mathlib.Core.Bool.{Bool, true, false, cond, ◌&&◌}
use mathlib.Core.List.{List, [], ◌∷◌, ◌++◌, map}
use native.Mathlib.Omega.{arith}
use borrow.Author.Tests.{eq-eqb, leb-false, leb-true, ltb-false, ne_eqb}
use lib.Dec.{eqb, leb, ltb}
use lib.ListN.{drop, drop_of_length-le, length, take}
use lib.Seq.{take_all}
use Rattle.hub.specs.declared.moves.Call.{Call}
use Rattle.hub.specs.declared.record.Hub.{Hub}
use Rattle.hub.specs.Opening.{fresh, sized, with_radios}
use Rattle.hub.specs.OwnKinds.{WithoutKinds}
use Rattle.hub.proofs.OwnKinds.{called-before, opened-before, opened-without, still-without}
use Rattle.encoding.specs.Form.{as_text}
use Rattle.encoding.specs.Frame.{is_call, op_of}
use Rattle.line.specs.Program.{Reply, Response, after, before_open, closing, is_open, lines_of, output_of}
use Rattle.line.specs.Program.{rendered, replies, reported, respond, unopened, when_open}
use Rattle.line.specs.Requests.{Request, malformed, to_open, to_call, given_kinds, is_opening}
use Rattle.line.specs.Requests.{opening_in, requested, request_of, spelled_by}
use Rattle.outputs.specs.Before.{OldFormat, PrintsAsBefore, after_before, before_open_before, gives_kinds}
use Rattle.outputs.specs.Before.{opening_in_before, output_before, replies_before, request_before, requested_before}
use Rattle.outputs.specs.Before.{respond_before, when_open_before}

-- A request that gives no kinds.
abbrev Old : Request → Type 0
Old malformed = Unit {0}
Old (to_open o) = WithoutKinds o
Old (to_call c) = Unit {0}

of-opening : (c k n : ℕ) (l : List ℕ) → Old (opening_in_before c k n l)
unfolding opening_in_before
of-opening c k n l = go (eqb c 0x01 && eqb (length l) 0) (eqb c 0x02 && eqb (length l) k)
  where
    go : (a b : Bool) → Old (cond a (to_open (sized k n)) (cond b (to_open (with_radios k n l)) malformed))
    go true b = record { kinds = refl; counted = refl }
    go false true = record { kinds = refl; counted = refl }
    go false false = tt

of-call : (c p : ℕ) → Old (requested (c ∷ p ∷ []))
unfolding requested
of-call c p = go (is_call c) (record { op = op_of c; party = p })
  where
    go : (b : Bool) (x : Call) → Old (cond b (to_call x) malformed)
    go true x = tt
    go false x = tt

old : (m : List ℕ) → Old (requested_before m)
unfolding requested_before
old [] = tt
old (c ∷ []) = tt
old (c ∷ p ∷ []) = of-call c p
old (c ∷ k ∷ n ∷ l) = of-opening c k n l

-- Bytes that are no opening followed by kinds ask what they did.
no_more : (l : List ℕ) → length l ≤ 0 → l ≡ []
no_more [] e = refl
no_more (x ∷ l) e = absurd (omega arith)

same-request : (m : List ℕ) → gives_kinds m ≡ false → requested m ≡ requested_before m
unfolding requested requested_before opening_in opening_in_before given_kinds
same-request [] e = refl
same-request (c ∷ []) e = refl
same-request (c ∷ p ∷ []) e = refl
same-request (c ∷ k ∷ n ∷ l) e = go (eqb c 0x01) (eqb c 0x02) (leb k (length l)) refl e
  where
    go : (a b d : Bool) → leb k (length l) ≡ d
        → let q =
        cond a (to_open (given_kinds l (sized k n)))
        (cond (b && d) (to_open (given_kinds (drop k l) (with_radios k n (take k l)))) malformed) in
        is_opening q && ltb (cond a 3 (cond b (3 + k) 0)) (suc (suc (suc (length l)))) ≡ false
        → q
        ≡ cond (a && eqb (length l) 0) (to_open (sized k n))
        (cond (b && eqb (length l) k) (to_open (with_radios k n l)) malformed)
    go true b d f e =
        let none = ltb-false 3 (suc (suc (suc (length l)))) e in
        let i = eq-eqb (length l) 0 (omega arith) in
        rw i (ap (λ (l : List ℕ). to_open (given_kinds l (sized k n))) (no_more l (omega arith)))
    go false true true f e =
        let none = ltb-false (3 + k) (suc (suc (suc (length l)))) e in
        let some = leb-true k (length l) f in
        let i = eq-eqb (length l) k (omega arith) in
        rw i (λ j. to_open
        (given_kinds (drop_of_length-le l {i = k} (omega arith) j) (with_radios k n (take_all k l (omega arith) j))))
    go false true false f e =
        let few = leb-false k (length l) f in
        let i = ne_eqb (length l) k (λ z. omega (arith, z)) in
        rw i
    go false false d f e = refl

-- A response to such a request, on a record that holds the built-in table.
module _ (h : Hub) (w : WithoutKinds h.control.opening) where
  when-open : (r : Request) → when_open h r ≡ when_open_before h r
  unfolding when_open when_open_before
  when-open malformed = refl
  when-open (to_open o) = refl
  when-open (to_call c) = ap (reported c.party) (called-before h w c)

  open-without : (r : Request) → WithoutKinds (when_open h r).hub.control.opening
  unfolding when_open
  open-without malformed = w
  open-without (to_open o) = w
  open-without (to_call c) = still-without h w c

before-open : (r : Request) → Old r → before_open r ≡ before_open_before r
unfolding before_open before_open_before
before-open malformed q = refl
before-open (to_open o) q = ap (reported 0xFF) (opened-before o q)
before-open (to_call c) q = refl

unopened-without : WithoutKinds unopened.control.opening
unfolding fresh
unopened-without = record { kinds = refl; counted = refl }

before-without : (r : Request) → Old r → WithoutKinds (before_open r).hub.control.opening
unfolding before_open
before-without malformed q = unopened-without
before-without (to_open o) q = opened-without o q
before-without (to_call c) q = unopened-without

module _ (h : Hub) (w : WithoutKinds h.control.opening) (r : Request) (q : Old r) where
  same-response : respond h r ≡ respond_before h r
  unfolding respond respond_before
  same-response = λ i. cond (is_open h) (when-open h w r i) (before-open r q i)

  holds_on : WithoutKinds (respond h r).hub.control.opening
  unfolding respond
  holds_on = go (is_open h)
    where
      go : (b : Bool) → WithoutKinds (cond b (when_open h r) (before_open r)).hub.control.opening
      go true = open-without h w r
      go false = before-without r q

-- And to all of them, the lines of an input.
same-requests : (ls : List (List ℕ)) → OldFormat ls → map request_of ls ≡ map request_before ls
unfolding OldFormat request_of
same-requests [] f = refl
same-requests (l ∷ ls) f = λ i. same-request (spelled_by l) f.0 i ∷ same-requests ls f.1 i

same-replies : (ls : List (List ℕ)) (h : Hub) → WithoutKinds h.control.opening
    → (replies h (map request_before ls) ≡ replies_before h (map request_before ls))
    × (after h (map request_before ls) ≡ after_before h (map request_before ls))
unfolding replies replies_before after after_before
same-replies [] h w = (refl, refl)
same-replies (l ∷ ls) h w =
    let r = request_before l in
    let q = old (spelled_by l) in
    let t = same-response h w r q in
    let i = same-replies ls (respond h r).hub (holds_on h w r q) in (
      ap (λ (rs : List Reply). (respond h r).reply ∷ rs) i.0
          ∙ ap (λ (x : Response). x.reply ∷ replies_before x.hub (map request_before ls)) t,
      i.1 ∙ ap (λ (x : Response). after_before x.hub (map request_before ls)) t,
    )

pub prints-as-before : PrintsAsBefore
unfolding PrintsAsBefore output_of output_before
prints-as-before input f =
    let t = same-replies (lines_of input) unopened unopened-without in
    ap (λ (rs : List Request). rendered as_text (replies unopened rs) ++ closing (after unopened rs))
    (same-requests (lines_of input) f)
    ∙ (λ i. rendered as_text (t.0 i) ++ closing (t.1 i))
