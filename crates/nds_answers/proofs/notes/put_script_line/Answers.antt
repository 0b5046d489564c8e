use Rattle.std.proofs.Common.{◌∙◌}
use Rattle.nds_answers.proofs.notes.put_script_line.Goals as goal

pub returns : goal.returns
returns g c =
    let line = c.as_bytes.ensures.value ∙ c.format.ensures.text in
    let column = c.as_bytes-2.ensures.value ∙ c.format-2.ensures.text in
    rw (line, column) at c.put_parts.ensures
