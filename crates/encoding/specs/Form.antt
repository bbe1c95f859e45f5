-- The two forms in which a reply is written: the program's are lines of text, those of a list of
-- calls bytes.
use Rattle.std.specs.Prelude.{ℕ, List}
use Rattle.encoding.specs.Hex.{text_of}

pub data Form : Type 0 where
  as_text : Form
  as_bytes : Form

abbrev pub reply_size : Form → ℕ
reply_size as_text = 15
reply_size as_bytes = 7

-- The seven bytes of a reply, as they are written.
abbrev pub in_form : Form → List ℕ → List ℕ
in_form as_text bytes = text_of bytes
in_form as_bytes bytes = bytes
