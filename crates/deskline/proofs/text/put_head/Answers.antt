-- `put_head` meets its contract: its parts, one behind the other.
use Rattle.std.proofs.Common.{rules, arith, ◌≡◌, [], ◌∷◌}
use Rattle.std.specs.Option.{unwrap_or}
use Rattle.encoding.specs.Hex.{hex_of}
use Rattle.deskline.specs.Text.{SPACE, head_text, steps_text, steps_told}
use Rattle.deskline.proofs.Laws.Numbers.{head-laid, steps-short}
use Rattle.deskline.proofs.Laws.PutAt.{first, gives, next, text-is}
use Rattle.deskline.proofs.text.put_head.Goals as goal

pub returns : goal.returns
unfolding head_text
returns c =
    let r = c.args.r.now in
    let party : c.unwrap_or.result ≡ unwrap_or r.party 0xFF = search rules in
    let told : c.steps_told.result ≡ steps_told r.code r.steps = c.steps_told.ensures in
    let x = steps-short c.steps_told.result in record {
      value = rw (← party)
          (rw (← told)
          (gives
          (text-is (head-laid (hex_of (r.code ∷ [])) (hex_of (c.unwrap_or.result ∷ [])) (steps_text c.steps_told.result))
          (next (next (next (next (first (hex_of (r.code ∷ []))
          c.put_hex-a.ensures.0 c.put_hex-a.ensures.1 (omega arith))
          (SPACE ∷ [])
          c.put_char-b.ensures.0 c.put_char-b.ensures.1 (omega arith))
          (hex_of (c.unwrap_or.result ∷ []))
          c.put_hex-c.ensures.0
          c.put_hex-c.ensures.1
          (omega arith))
          (SPACE ∷ []) c.put_char-d.ensures.0
          c.put_char-d.ensures.1 (omega arith))
          (steps_text c.steps_told.result) c.put_steps.ensures.0
          c.put_steps.ensures.1 (omega arith)))));
      short = omega arith;
    }
