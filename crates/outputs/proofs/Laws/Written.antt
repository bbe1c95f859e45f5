-- A line that is written is read back as it was.
use Prim.Native.Nat.{ℕ, ◌+◌, ◌*◌, ◌/◌, ◌%◌, ◌≤◌, ◌<◌}
use mathlib.Core.Path.{◌≡◌, refl, sym, ap, ◌∙◌}
use mathlib.Core.Bool.{Bool, true, false, cond, not, ◌&&◌}
use mathlib.Core.List.{List, [], ◌∷◌, ◌++◌, append_assoc, append-nil, map}
use native.Mathlib.Omega.{arith}
use borrow.Author.Tests.{eqb-true, le-leb, leb-true, not-true}
use lib.Dec.{eqb, leb}
use lib.ListN.{get_or, length, length-append}
use lib.Seq.{drop_at, take_at}
use Rattle.hub.specs.declared.answers.Answer.{Answer}
use Rattle.hub.specs.declared.moves.Call.{Call}
use Rattle.hub.specs.declared.moves.Op.{Op}
use Rattle.hub.specs.Basics.{all_from, all_pass}
use Rattle.hub.specs.declared.opening.Opening.{Opening}
use Rattle.hub.specs.Demand3.{AllBelow}
use Rattle.hub.specs.Kinds.{built_in, kinds_known}
use Rattle.hub.specs.Opening.{Test, opening, sized, tests, with_radios}
use Rattle.hub.specs.Radios.{radios_of}
use Rattle.hub.proofs.Demand3.{InRange, in-range}
use Rattle.hub.proofs.Laws.Bools.{first, second, if-true, if-false}
use Rattle.hub.proofs.Laws.Opening.{by-opened, each-passed, ends}
use Rattle.hub.proofs.Laws.Ranges.{one-true}
use Rattle.hub.proofs.Radios.Length.{radios-length}
use Rattle.encoding.specs.Frame.{is_call, code_of}
use Rattle.encoding.specs.Hex.{digit_of, byte_of, char_of, hex_of, text_of}
use Rattle.line.specs.Program.{lines_from}
use Rattle.line.specs.Requests.{malformed, to_open, to_call, all_digits, bytes_of, given_kinds, opening_in}
use Rattle.line.specs.Requests.{requested, request_of}
use Rattle.line.proofs.Laws.Codes.{is-call, op-back}
use Rattle.line.proofs.Laws.Lines.{byte-both, spells, byte-is, one_more, none, readable}
use Rattle.outputs.specs.Schedule.{opening_frame, Spelled}

-- The character of a digit is read as that digit, and ends no line.
good : ℕ → Bool
good d = eqb (digit_of (char_of d)) d && not (eqb (char_of d) 0x0A)

all-good : all_from good 0 16 ≡ true
unfolding all_from digit_of good
all-good = refl

module _ (d : ℕ) (l : d < 16) where
  it-is : good d ≡ true
  it-is = one-true good 0 16 d all-good (omega arith) (omega arith)

  pub digit-back : digit_of (char_of d) ≡ d
  unfolding good
  digit-back = eqb-true _ d (first (eqb (digit_of (char_of d)) d) _ it-is)

  pub no_end : eqb (char_of d) 0x0A ≡ false
  unfolding good
  no_end = not-true _ (second (eqb (digit_of (char_of d)) d) (not (eqb (char_of d) 0x0A)) it-is)

-- The characters of some bytes, and the end mark, are one line.
pub line_read : (bs l input : List ℕ)
    → lines_from l (text_of bs ++ input) ≡ (l ++ hex_of bs) ∷ lines_from [] input
unfolding lines_from
line_read [] l input = ap (λ (x : List ℕ). x ∷ lines_from [] input) (sym (append-nil l))
line_read (b ∷ bs) l input =
    one l (char_of (b / 16 % 16)) (char_of (b % 16) ∷ text_of bs ++ input)
    (no_end (b / 16 % 16) (omega arith))
    ∙ one (l ++ (char_of (b / 16 % 16) ∷ [])) (char_of (b % 16)) (text_of bs ++ input)
    (no_end (b % 16) (omega arith))
    ∙ line_read bs ((l ++ (char_of (b / 16 % 16) ∷ [])) ++ (char_of (b % 16) ∷ [])) input
    ∙ ap (λ (x : List ℕ). x ∷ lines_from [] input)
    (append_assoc (l ++ (char_of (b / 16 % 16) ∷ [])) (char_of (b % 16) ∷ []) (hex_of bs)
    ∙ append_assoc l (char_of (b / 16 % 16) ∷ []) (char_of (b % 16) ∷ hex_of bs))
  where
    one : (l : List ℕ) (c : ℕ) (cs : List ℕ) → eqb c 0x0A ≡ false
        → lines_from l (c ∷ cs) ≡ lines_from (l ++ (c ∷ [])) cs
    one l c cs e = if-false (eqb c 0x0A) _ _ e

-- The byte that two characters of a byte spell is that byte.
spelled_back : (b : ℕ) (l : List ℕ) → b < 256
    → byte_of (char_of (b / 16 % 16) ∷ char_of (b % 16) ∷ l) ≡ b
spelled_back b l m =
    sym
    (byte-both (char_of (b / 16 % 16) ∷ char_of (b % 16) ∷ l) (omega arith) (b / 16 % 16)
    (sym (digit-back (b / 16 % 16) (omega arith))) (b % 16) (sym (digit-back (b % 16) (omega arith)))
    (omega arith) (omega arith))
    ∙ whole b m
  where
    whole : (b : ℕ) → b < 256 → 16 * (b / 16 % 16) + b % 16 ≡ b
    whole b m = omega arith

is_byte : {a b : ℕ} → a ≡ b → b < 256 → a < 256
is_byte e m = omega (arith, e)

-- The characters of some bytes are digits, two each, and spell those bytes.
hex-length : (bs : List ℕ) → length (hex_of bs) ≡ 2 * length bs
hex-length [] = refl
hex-length (b ∷ bs) = omega (arith, hex-length bs)

bytes_back : (bs : List ℕ) → AllBelow 256 bs → (all_digits (hex_of bs) ≡ true) × (bytes_of (hex_of bs) ≡ bs)
unfolding AllBelow bytes_of
bytes_back [] l = (none, refl)
bytes_back (b ∷ bs) l =
    let e = spelled_back b (hex_of bs) l.0 in
    let d = spells _ _ (hex_of bs) (is_byte e l.0) in
    let i = bytes_back bs l.1 in (
      one_more _ _ (hex_of bs) d i.0,
      (λ j. (sym (byte-is _ _ (hex_of bs) d) ∙ e) j ∷ i.1 j),
    )

-- A line asks what it was written for.
line-back : (bs : List ℕ) → AllBelow 256 bs → length bs ≤ 80 → request_of (hex_of bs) ≡ requested bs
unfolding request_of
line-back bs l m =
    let i = bytes_back bs l in
    let n = hex-length bs in
    ap requested
    (sym (readable (hex_of bs) (omega (arith, n)) (λ e. omega (arith, n, e)) i.0) ∙ i.1)

code-byte : (o : Op) → code_of o < 256
code-byte Op.Acquire = omega arith
code-byte Op.Step = omega arith
code-byte Op.Cancel = omega arith
code-byte Op.Release = omega arith
code-byte Op.Radio = omega arith

pub call_back : (c : Call) → c.party < 256
    → request_of (hex_of (code_of c.op ∷ c.party ∷ [])) ≡ to_call c
unfolding requested AllBelow
call_back c m =
    let o = c.op in
    line-back (code_of o ∷ c.party ∷ []) (code-byte o, (m, tt)) (omega arith)
    ∙ if-true (is_call (code_of o)) _ malformed (is-call o)
    ∙ (λ i. to_call (record { op = op-back o i; party = c.party }))

below-append : (n : ℕ) (l m : List ℕ) → AllBelow n l → AllBelow n m → AllBelow n (l ++ m)
unfolding AllBelow
below-append n [] m a b = b
below-append n (x ∷ l) m a b = (a.0, below-append n l m a.1 b)

-- Kinds that are known are bytes.
known_bytes : (ks : List ℕ) → kinds_known ks ≡ true → AllBelow 256 ks
unfolding kinds_known all_pass AllBelow
known_bytes [] e = tt
known_bytes (k ∷ ks) e =
    let i = leb-true k 3 (first (leb k 3) (kinds_known ks) e) in
    (omega arith, known_bytes ks (second (leb k 3) (kinds_known ks) e))

-- The kinds that an accepted opening is given are 32, and bytes, or there are none.
given-bytes : (ks : List ℕ) (p o : Opening) → given_kinds ks p ≡ o → o.counted ≡ true
    → kinds_known o.kinds ≡ true → AllBelow 256 ks × (length ks ≤ 32)
unfolding given_kinds AllBelow
given-bytes [] p o e c k = (tt, omega arith)
given-bytes (x ∷ l) p o e c k =
    let n : eqb (length (x ∷ l)) 32 ≡ true = ap (λ (o : Opening). o.counted) e ∙ c in
    let same : x ∷ l ≡ o.kinds =
    sym (if-true (eqb (length (x ∷ l)) 32) (x ∷ l) built_in n) ∙ ap (λ (o : Opening). o.kinds) e in (
      known_bytes (x ∷ l) (ap kinds_known same ∙ k),
      omega (arith, eqb-true (length (x ∷ l)) 32 n),
    )

pub opening-back : (o : Opening) → (opening o).answer ≡ Answer.Opened → (ks : List ℕ) → Spelled o ks
    → request_of (hex_of (opening_frame o ks)) ≡ to_open o
unfolding AllBelow requested opening_in
opening-back o e ks s =
    let g = bytes o.named in
    line-back (opening_frame o ks) g.0 g.1 ∙ asks o.named ∙ ap to_open s.1
  where
    r : InRange o
    r = in-range o e

    size : length (radios_of o) ≡ o.permits
    size = radios-length o r.permits.1

    each : (i : ℕ) → get_or (map (λ (t : Test). t.passed) (tests o)) i true ≡ true
    each = each-passed o (by-opened o _ _ (ends o (tests o)) e).0

    given : AllBelow 256 ks × (length ks ≤ 32)
    given = given-bytes ks _ o s.1 (each 3) (each 4)

    frame : Bool → List ℕ
    frame b =
        cond b (0x02 ∷ o.permits ∷ o.parties ∷ radios_of o ++ ks) (0x01 ∷ o.permits ∷ o.parties ∷ ks)

    bytes : (b : Bool) → AllBelow 256 (frame b) × (length (frame b) ≤ 80)
    bytes true = (
      (
        omega arith,
        (
          omega (arith, r.permits.1),
          (omega (arith, r.parties.1), below-append 256 (radios_of o) ks s.0 given.0),
        ),
      ),
      simp length-append (omega (arith, r.permits.1, size, given.1)),
    )
    bytes false = (
      (omega arith, (omega (arith, r.permits.1), (omega (arith, r.parties.1), given.0))),
      omega (arith, given.1),
    )

    -- of an opening with radios the first K bytes are radios
    asks : (b : Bool)
        → requested (frame b)
        ≡ to_open
        (given_kinds ks
        (cond b (with_radios o.permits o.parties (radios_of o)) (sized o.permits o.parties)))
    asks true =
        if-true (leb o.permits (length (radios_of o ++ ks))) _ _
        (le-leb o.permits (length (radios_of o ++ ks)) (simp length-append (omega (arith, size))))
        ∙ (λ i. to_open
        (given_kinds (drop_at (radios_of o) ks o.permits size i)
        (with_radios o.permits o.parties (take_at (radios_of o) ks o.permits size i))))
    asks false = refl
