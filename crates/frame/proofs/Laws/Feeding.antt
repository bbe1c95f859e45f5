-- Sessions stay sound, and what a piece asks is read back from the buffer.
use Prim.Native.Nat.{ℕ, suc, ◌+◌, ◌-◌, ◌*◌, ◌≤◌}
use mathlib.Core.Path.{◌≡◌, refl, sym, ap, ◌∙◌, subst}
use mathlib.Core.Bool.{true, false}
use mathlib.Core.List.{List, [], ◌∷◌, ◌++◌, map, append_assoc, append-nil}
use mathlib.Core.Logic.{inl}
use native.Mathlib.Omega.{arith}
use borrow.Author.Tests.{eq-eqb, ne_eqb}
use borrow.Rule.Slice.PartMut.{put_mid, Post-is}
use lib.Seq.{take_at, drop_at, drop-drop, take_all, length-take-le}
use lib.Dec.{eqb}
use lib.ListN.{length, take, drop, length-append, length-drop, length-replicate}
use lib.ListN.{take-append-drop, drop_of_length-le}
use native.Mathlib.Nat.{le_of_eq}
use Rattle.hub.specs.declared.record.Hub.{Hub}
use Rattle.hub.proofs.Laws.Bools.{if-true, if-false}
use Rattle.encoding.specs.Form.{as_text}
use Rattle.line.specs.Program.{is_open, Reply, Response, when_open}
use Rattle.line.specs.Program.{respond, replies, after, rendered, closing}
use Rattle.line.specs.Requests.{Request, malformed, to_open, to_call, request_of, header_of}
use Rattle.line.proofs.Laws.Codes.{is-call, op-back}
use Rattle.encoding.proofs.Laws.Parts.{parts, put-length}
use Rattle.line.proofs.Laws.Schedules.{respond-open, still_open}
use Rattle.batch.specs.Batch.{request_for, requests_in, replied, Reachable}
use Rattle.batch.proofs.Laws.Reachable.{reachable-open}
use Rattle.reader.specs.declared.Read.{Read}
use Rattle.frame.specs.declared.session.Fed.{Fed}
use Rattle.frame.specs.declared.session.Session.{Session}
use Rattle.beforeopen.specs.declared.opening.Begun.{Begun}
use Rattle.beforeopen.specs.Opening.{open_at, early, late, begun_by, asked_open}
use Rattle.reader.specs.Reading.{KEPT, line_in, past, asked}
use Rattle.reader.specs.Reading.{request_bytes, requests_written}
use Rattle.frame.specs.Session.{at_start, fed, told, rest, finished, Sound}
use Rattle.beforeopen.proofs.Laws.Opening.{session-open, after-session, open-few, all_read}
use Rattle.reader.proofs.Laws.Pieces.{past-kept}
use Rattle.beforeopen.proofs.Laws.Appended.{lines, asked-append}
use Rattle.frame.proofs.Laws.Sessions.{fed-append, told-append}
use Rattle.beforeopen.proofs.Laws.Sizes.{replies-size, asked-few}

-- A request as it is read back: an opening's bytes are not there any more.
abbrev seen : Request → Request
seen q = request_for (header_of q).code (header_of q).party

-- The requests that were written are read.
requests-back : (rs : List Request) (l : List ℕ)
    → requests_in (length rs) (request_bytes rs ++ l) ≡ map seen rs
unfolding requests_in request_bytes
requests-back [] l = refl
requests-back (r ∷ rs) l = ap (λ (q : List Request). seen r ∷ q) (requests-back rs l)

bytes-size : (rs : List Request) → length (request_bytes rs) ≡ 2 * length rs
unfolding request_bytes
bytes-size [] = refl
bytes-size (r ∷ rs) = omega (arith, bytes-size rs)

pub written-size : (rs : List Request) (l : List ℕ) → 2 * length rs ≤ length l
    → length (requests_written rs l) ≡ length l
written-size rs l m =
    simp (length-append, length-drop) (omega (arith, bytes-size rs))

-- An open hub answers what was read back as it answers what was asked.
same-open : (h : Hub) (q : Request) → when_open h (seen q) ≡ when_open h q
unfolding when_open
same-open h malformed = refl
same-open h (to_open o) = refl
same-open h (to_call c) =
    ap (when_open h)
    (if-true _ _ _ (is-call c.op)
    ∙ (λ i. to_call (record { op = op-back c.op i; party = c.party })))

same-replies : (rs : List Request) (h : Hub) → is_open h ≡ true
    → (replies h (map seen rs) ≡ replies h rs) × (after h (map seen rs) ≡ after h rs)
unfolding replies after
same-replies [] h o = (refl, refl)
same-replies (r ∷ rs) h o =
    let e : respond h (seen r) ≡ respond h r =
    respond-open h (seen r) o ∙ same-open h r ∙ sym (respond-open h r o) in
    let still : is_open (respond h r).hub ≡ true =
    ap (λ (t : Response). is_open t.hub) (respond-open h r o) ∙ still_open h r o in
    let i = same-replies rs (respond h r).hub still in (
      (λ j. (e j).reply ∷ replies (e j).hub (map seen rs))
          ∙ ap (λ (l : List Reply). (respond h r).reply ∷ l) i.0,
      (λ j. after (e j).hub (map seen rs)) ∙ i.1,
    )

pub start-sound : Sound at_start
start-sound =
    record { hub = inl refl; size = length-replicate {A = ℕ} KEPT 0; short = omega arith }

pub fed-sound : (s : Session) (piece : List ℕ) → Sound s → Sound (fed s piece)
unfolding fed
fed-sound s piece o =
    let k = past-kept piece s.reader (record { size = o.size; short = o.short }) in
    record {
      hub = after-session (asked s.reader piece) s.hub o.hub;
      size = k.size;
      short = k.short;
    }

-- Fed on an open hub: the answers to what was asked, which stands in front of the spare bytes.
module _ (s : Session) (o : Reachable s.hub) (piece spare : List ℕ) (read : Read)
    (bytes : List ℕ)
    (e : read ≡ record { reader = past s.reader piece; count = length (asked s.reader piece) })
    (f : bytes ≡ requests_written (asked s.reader piece) spare) where
  abbrev rs : List Request
  rs = asked s.reader piece

  read_back : requests_in read.count bytes ≡ map seen rs
  read_back =
      (λ i. requests_in (e i).count (f i)) ∙ requests-back rs (drop (2 * length rs) spare)

  pub open_gives : (h : Hub) → h ≡ after s.hub (requests_in read.count bytes)
      → ◌≡◌ {A = Fed} (record { session = record { hub = h; reader = read.reader }; lines = read.count })
      (record { session = fed s piece; lines = length rs })
  unfolding fed
  open_gives h x =
      let same = (same-replies rs s.hub (reachable-open s.hub o)).1 in
      (λ i. record {
        session =
            record {
              hub = (x ∙ ap (after s.hub) read_back ∙ same) i;
              reader = (e i).reader;
            };
        lines = (e i).count;
      })

  pub open-prints : (out : List ℕ)
      → replied as_text s.hub read.count bytes out ≡ told s piece ++ drop (15 * length rs) out
  unfolding told
  open-prints out =
      (λ i. lines s.hub (read_back i) ++ drop (15 * (e i).count) out)
      ∙ ap (λ (l : List Reply). rendered as_text l ++ drop (15 * length rs) out)
      (same-replies rs s.hub (reachable-open s.hub o)).0

-- Fed in two parts: what the early one leads to, and the late one.
module _ (s : Session) (piece : List ℕ) where
  abbrev pub part : List ℕ
  part = early s.hub s.reader piece

  abbrev pub others : List ℕ
  others = late s.hub s.reader piece

  whole : part ++ others ≡ piece
  whole = take-append-drop (open_at s.hub s.reader piece) piece

  -- The session between them.
  pub between : (b : Begun) → b ≡ begun_by s.hub s.reader piece
      → record { hub = b.hub; reader = b.reader } ≡ fed s part
  unfolding fed
  between b e = (λ i. record { hub = (e i).hub; reader = (e i).reader })

  asked-parts : asked s.reader piece
      ≡ asked s.reader part ++ asked_open s.hub s.reader piece
  asked-parts = ap (asked s.reader) (sym whole) ∙ asked-append part others s.reader

  pub asked-count : length (asked s.reader piece)
      ≡ length (asked s.reader part) + length (asked_open s.hub s.reader piece)
  asked-count =
      ap length asked-parts
      ∙ length-append (asked s.reader part) (asked_open s.hub s.reader piece)

  pub fed-parts : fed (fed s part) others ≡ fed s piece
  fed-parts = sym (fed-append s part others) ∙ ap (fed s) whole

  pub told-parts : told s part ++ told (fed s part) others ≡ told s piece
  told-parts = sym (told-append s part others) ∙ ap (told s) whole

pub told-size : (s : Session) (piece : List ℕ) → length (told s piece) ≡ 15 * length (asked s.reader piece)
unfolding told
told-size s piece = replies-size (asked s.reader piece) s.hub

-- A buffer whose part from `at` to its end is another.
module _ (out part : List ℕ) (at end : ℕ) (l : at ≤ length out) (m : length out ≡ end)
    (e : length part ≡ end - at) where
  pub tail-put : put_mid at (end - at) out part ≡ take at out ++ part
  tail-put =
      ap (λ (r : List ℕ). take at out ++ (part ++ r))
      (Post-is at end out (omega arith) ∙ drop_of_length-le out {i = end} (omega arith))
      ∙ ap (λ (r : List ℕ). take at out ++ r) (append-nil part)

  pub tail-size : length (take at out ++ part) ≡ length out
  tail-size = length-append (take at out) part ∙ omega (arith, e, length-take-le at out l)

-- Fed, as the code does it: b is what the early part came to, and out₁ the buffer then.
pub record Early (s : Session) (piece out₀ : List ℕ) (b : Begun) (out₁ : List ℕ) : Type 0 where
  pub sound : Sound s
  pub room : 15 * length (asked s.reader piece) ≤ length out₀
  pub begun : b ≡ begun_by s.hub s.reader piece
  pub said : out₁ ≡ lines s.hub (asked s.reader (part s piece))
      ++ drop (15 * length (asked s.reader (part s piece))) out₀

module _ {s : Session} {piece out₀ : List ℕ} {b : Begun} {out₁ : List ℕ}
    (k : Early s piece out₀ b out₁) where
  abbrev now-open : Session
  now-open = record { hub = b.hub; reader = b.reader }

  is-between : now-open ≡ fed s (part s piece)
  is-between = between s piece b k.begun

  lines-is : b.lines ≡ length (asked s.reader (part s piece))
  lines-is = ap (λ (x : Begun). x.lines) k.begun

  early-size : length (told s (part s piece)) ≡ 15 * b.lines
  early-size = told-size s (part s piece) ∙ ap (λ (n : ℕ). 15 * n) (sym lines-is)

  out₁-is : out₁ ≡ told s (part s piece) ++ drop (15 * b.lines) out₀
  unfolding told
  out₁-is =
      k.said
      ∙ ap (λ (n : ℕ). lines s.hub (asked s.reader (part s piece)) ++ drop (15 * n) out₀)
      (sym lines-is)

  pub lines-few : 15 * b.lines ≤ length out₁
  lines-few =
      omega (
        arith,
        ap length out₁-is,
        length-append (told s (part s piece)) (drop (15 * b.lines) out₀),
        early-size,
      )

  same_size : length out₁ ≡ length out₀
  same_size =
      ap length out₁-is ∙ length-append (told s (part s piece)) (drop (15 * b.lines) out₀)
      ∙ omega (
        arith,
        early-size,
        length-drop (15 * b.lines) out₀,
        k.room,
        lines-is,
        asked-count s piece,
      )

  pub read-few : b.read ≤ length piece
  read-few =
      subst (λ (x : Begun). x.read ≤ length piece) (sym k.begun)
      (open-few s.hub s.reader piece)

  -- What `feed` gives, and what it leaves in the two buffers.
  abbrev Feeds : Fed → List ℕ → List ℕ → List ℕ → Type 0
  Feeds r spare spare' out =
      (r ≡ record { session = fed s piece; lines = length (asked s.reader piece) })
      × (spare' ≡ requests_written (asked_open s.hub s.reader piece) spare)
      × (out ≡ told s piece ++ drop (15 * length (asked s.reader piece)) out₀)

  -- No hub is open after all of it.
  pub feeds-early : is_open b.hub ≡ false → (spare : List ℕ)
      → Feeds (record { session = now-open; lines = b.lines }) spare spare out₁
  unfolding request_bytes asked
  feeds-early o spare =
      let n : open_at s.hub s.reader piece ≡ length piece =
      all_read s.hub s.reader piece k.sound.hub
      (ap (λ (x : Begun). is_open x.hub) (sym k.begun) ∙ o) in
      let all : part s piece ≡ piece =
      ap (λ (m : ℕ). take m piece) n ∙ take_all (length piece) piece (le_of_eq refl) in
      let nothing : others s piece ≡ [] =
      ap (λ (m : ℕ). drop m piece) n ∙ drop_of_length-le piece {i = length piece} (omega arith) in
      let count = lines-is ∙ ap (λ (l : List ℕ). length (asked s.reader l)) all in (
        (λ i. record { session = (is-between ∙ ap (fed s) all) i; lines = count i }),
        sym (ap (λ (l : List ℕ). requests_written (asked (past s.reader (part s piece)) l) spare) nothing),
        out₁-is ∙ (λ i. told s (all i) ++ drop (15 * count i) out₀),
      )

  module _ (o : is_open b.hub ≡ true) where
    sound-now : Sound now-open
    sound-now = subst Sound (sym is-between) (fed-sound s (part s piece) k.sound)

    pub reachable-now : Reachable b.hub
    reachable-now = session-open b.hub sound-now.hub o

    pub short-now : b.reader.len ≤ KEPT
    short-now = sound-now.short

    -- The rest of the piece, and the buffer that is lent for it.
    abbrev rest_of : List ℕ
    rest_of = take (length piece - b.read) (drop b.read piece)

    rest-is : rest_of ≡ others s piece
    rest-is =
        take_all (length piece - b.read) (drop b.read piece) (le_of_eq (length-drop b.read piece))
        ∙ ap (λ (x : Begun). drop x.read piece) k.begun

    abbrev lent : List ℕ
    lent = take (length out₁ - 15 * b.lines) (drop (15 * b.lines) out₁)

    lent_is : lent ≡ drop (15 * b.lines) out₁
    lent_is =
        take_all (length out₁ - 15 * b.lines) (drop (15 * b.lines) out₁)
        (le_of_eq (length-drop (15 * b.lines) out₁))

    asked-rest : asked b.reader rest_of ≡ asked_open s.hub s.reader piece
    asked-rest = (λ i. asked (k.begun i).reader (rest-is i))

    pub late-few : (m : ℕ) → 2 * length piece ≤ m → 2 * length (asked b.reader rest_of) ≤ m
    late-few m l =
        omega (arith, ap length asked-rest, asked-count s piece, asked-few piece s.reader)

    pub late-room : 15 * length (asked b.reader rest_of) ≤ length lent
    late-room =
        omega (
          arith,
          ap length asked-rest,
          asked-count s piece,
          k.room,
          lines-is,
          same_size,
          ap length lent_is,
          length-drop (15 * b.lines) out₁,
        )

    -- The rest is fed to the open hub.
    module _ (spare : List ℕ) {r : Fed} {spare' printed : List ℕ}
        (x : r ≡ record { session = fed now-open rest_of; lines = length (asked b.reader rest_of) })
        (y : spare' ≡ requests_written (asked b.reader rest_of) spare)
        (z : printed ≡ told now-open rest_of ++ drop (15 * length (asked b.reader rest_of)) lent)
      where
        count : b.lines + r.lines ≡ length (asked s.reader piece)
        count =
            omega (
              arith,
              ap (λ (f : Fed). f.lines) x,
              ap length asked-rest,
              lines-is,
              asked-count s piece,
            )

        pub all-few : b.lines + r.lines ≤ length out₀
        all-few = omega (arith, count, k.room)

        late-told : told now-open rest_of ≡ told (fed s (part s piece)) (others s piece)
        late-told = (λ i. told (is-between i) (rest-is i))

        size : length printed ≡ length out₁ - 15 * b.lines
        size =
            ap length z
            ∙ length-append (told now-open rest_of) (drop (15 * length (asked b.reader rest_of)) lent)
            ∙ omega (
              arith,
              told-size now-open rest_of,
              length-drop (15 * length (asked b.reader rest_of)) lent,
              late-room,
              ap length lent_is,
              length-drop (15 * b.lines) out₁,
            )

        front : take (15 * b.lines) out₁ ≡ told s (part s piece)
        front =
            ap (take (15 * b.lines)) out₁-is
            ∙ take_at (told s (part s piece)) (drop (15 * b.lines) out₀) (15 * b.lines) early-size

        back : drop (15 * r.lines) lent ≡ drop (15 * length (asked s.reader piece)) out₀
        back =
            ap (drop (15 * r.lines))
            (lent_is ∙ ap (drop (15 * b.lines)) out₁-is
            ∙ drop_at (told s (part s piece)) (drop (15 * b.lines) out₀) (15 * b.lines) early-size)
            ∙ drop-drop (15 * r.lines) (15 * b.lines) out₀
            ∙ ap (λ (m : ℕ). drop m out₀) (sums b.lines r.lines)
            ∙ ap (λ (m : ℕ). drop (15 * m) out₀) count
          where
            sums : (m n : ℕ) → 15 * m + 15 * n ≡ 15 * (m + n)
            sums m n = omega arith

        pub feeds-both : Feeds (record { session = r.session; lines = b.lines + r.lines }) spare spare'
            (put_mid (15 * b.lines) (length out₁ - 15 * b.lines) out₁ printed)
        feeds-both = (
          (λ i. record {
            session =
                (ap (λ (f : Fed). f.session) x ∙ (λ j. fed (is-between j) (rest-is j)) ∙ fed-parts s piece) i;
            lines = count i;
          }),
          y ∙ ap (λ (rs : List Request). requests_written rs spare) asked-rest,
          tail-put out₁ printed (15 * b.lines) (length out₁) lines-few refl size
              ∙ (λ i. front i ++ z i)
              ∙ ap (λ (m : ℕ). told s (part s piece) ++ (told now-open rest_of ++ drop (15 * m) lent))
              (ap (λ (f : Fed). f.lines) (sym x))
              ∙ sym (append_assoc (told s (part s piece)) (told now-open rest_of) (drop (15 * r.lines) lent))
              ∙ (λ i. (told s (part s piece) ++ late-told i) ++ back i)
              ∙ ap (λ (l : List ℕ). l ++ drop (15 * length (asked s.reader piece)) out₀)
              (told-parts s piece),
        )

-- Finished: the closing line alone, or after the answer to the line left over.
module _ (s : Session) (out : List ℕ) where
  none_left : s.reader.len ≡ 0 → rest s.reader ≡ []
  none_left e = if-true (eqb s.reader.len 0) _ _ (eq-eqb s.reader.len 0 e)

  one_left : (s.reader.len ≡ 0 → ⊥) → rest s.reader ≡ request_of (line_in s.reader) ∷ []
  one_left e = if-false (eqb s.reader.len 0) _ _ (ne_eqb s.reader.len 0 e)

  pub finish-one : (text : List ℕ) → 15 ≤ length out → s.reader.len ≡ 0 → text ≡ closing s.hub
      → (◌≡◌ {A = ℕ} 1 (suc (length (rest s.reader))))
      × (put_mid 0 15 out text ≡ finished s ++ drop (15 * suc (length (rest s.reader))) out)
  unfolding finished replies rendered after
  finish-one text l e f = (
    sym (ap (λ (q : List Request). suc (length q)) (none_left e)),
    parts out text 0 15 l (ap length f)
        ∙ ap (λ (p : List ℕ). p ++ drop 15 out) f
        ∙ sym
        (ap (λ (q : List Request).
        (lines s.hub q ++ closing (after s.hub q)) ++ drop (15 * suc (length q)) out)
        (none_left e)),
  )

  -- The missing end mark is fed, into the first fifteen characters of the buffer.
  module _ (some : s.reader.len ≡ 0 → ⊥) where
    pub last-asked : asked s.reader (0x0A ∷ []) ≡ rest s.reader
    unfolding asked
    last-asked = sym (one_left some)

    pub room-for-two : 15 * suc (length (rest s.reader)) ≤ length out → 30 ≤ length out
    room-for-two l = omega (arith, l, ap length (one_left some))

    pub last-room : length (asked s.reader (0x0A ∷ [])) ≡ 1
    last-room = ap length (last-asked ∙ one_left some)

    module _ (l : 30 ≤ length out) (text : List ℕ)
        (y : text ≡ told s (0x0A ∷ []) ++ drop (15 * length (asked s.reader (0x0A ∷ []))) (take 15 out))
      where
        said : text ≡ lines s.hub (rest s.reader)
        unfolding told
        said =
            y ∙ (λ i. lines s.hub (last-asked i) ++ drop (15 * last-room i) (take 15 out))
            ∙ ap (λ (x : List ℕ). lines s.hub (rest s.reader) ++ x)
            (drop_of_length-le (take 15 out) {i = 15} (omega (arith, length-take-le 15 out (omega arith))))
            ∙ append-nil (lines s.hub (rest s.reader))

        size_of : length text ≡ 15
        size_of =
            ap length said ∙ replies-size (rest s.reader) s.hub
            ∙ ap (λ (q : List Request). 15 * length q) (one_left some)

        abbrev mid : List ℕ
        mid = put_mid 0 15 out text

        mid-is : mid ≡ lines s.hub (rest s.reader) ++ drop 15 out
        mid-is =
            parts out text 0 15 (omega arith) size_of ∙ ap (λ (p : List ℕ). p ++ drop 15 out) said

        pub still-long : length mid ≡ length out
        still-long = put-length out text 0 15 (omega arith) size_of

        pub finish-two : (f : Fed)
            → f ≡ record { session = fed s (0x0A ∷ []); lines = length (asked s.reader (0x0A ∷ [])) }
            → (end : List ℕ) → end ≡ closing f.session.hub
            → (◌≡◌ {A = ℕ} 2 (suc (length (rest s.reader))))
            × (put_mid 15 15 mid end ≡ finished s ++ drop (15 * suc (length (rest s.reader))) out)
        unfolding finished fed
        finish-two f x end z =
            let hub : f.session.hub ≡ after s.hub (rest s.reader) =
            ap (λ (f : Fed). f.session.hub) x ∙ ap (after s.hub) last-asked in
            let two : suc (length (rest s.reader)) ≡ 2 =
            ap (λ (q : List Request). suc (length q)) (one_left some) in
            let size : length (lines s.hub (rest s.reader)) ≡ 15 = ap length (sym said) ∙ size_of in
            let front : take 15 mid ≡ lines s.hub (rest s.reader) =
            ap (take 15) mid-is ∙ take_at (lines s.hub (rest s.reader)) (drop 15 out) 15 size in
            let back : drop 30 mid ≡ drop 30 out =
            sym (drop-drop 15 15 mid)
            ∙ ap (drop 15)
            (ap (drop 15) mid-is ∙ drop_at (lines s.hub (rest s.reader)) (drop 15 out) 15 size)
            ∙ drop-drop 15 15 out in (
              sym two,
              parts mid end 15 15 (omega (arith, still-long)) (ap length z)
                  ∙ (λ i. (front i ++ (z ∙ ap closing hub) i) ++ back i)
                  ∙ ap (λ (n : ℕ).
                  (lines s.hub (rest s.reader) ++ closing (after s.hub (rest s.reader)))
                  ++ drop (15 * n) out) (sym two),
            )
