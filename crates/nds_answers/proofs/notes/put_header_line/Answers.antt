use Rattle.std.proofs.Common.{◌∙◌}
use Rattle.nds_answers.proofs.notes.put_header_line.Goals as goal

pub returns : goal.returns
returns g c = rw (c.as_bytes-field.ensures.value ∙ c.name_of_field.ensures, c.hex_digits-value.ensures) at c.put_parts.ensures
