use Rattle.std.proofs.Common.{◌∙◌}
use Rattle.nds_answers.proofs.notes.put_state_line.Goals as goal

pub returns : goal.returns
returns g c = rw (c.as_bytes-number.ensures.value ∙ c.format.ensures.text) at c.put_parts.ensures
