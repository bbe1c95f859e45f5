-- Replies as they are written into a buffer.
use Rattle.std.specs.Prelude.{ℕ, ◌+◌, List, ◌++◌, take, drop}
use Rattle.encoding.specs.Form.{Form, in_form, reply_size}

-- A buffer in which a reply's seven bytes are written in a form, from a place on.
abbrev pub with_reply : Form → ℕ → List ℕ → List ℕ → List ℕ
with_reply form at bytes out = (take at out ++ in_form form bytes) ++ drop (at + reply_size form) out
