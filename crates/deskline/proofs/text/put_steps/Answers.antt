-- `put_steps` meets its contract: the number, or a dash.
use Rattle.deskline.specs.Text.{steps_text}
use Rattle.deskline.proofs.text.put_steps.Goals as goal

pub returns-in-Some : goal.returns-in-Some
unfolding steps_text
returns-in-Some c = rw c.in-Some.is c.put_decimal.ensures

pub returns-in-None : goal.returns-in-None
unfolding steps_text
returns-in-None c = rw c.in-None.is c.put_char.ensures
