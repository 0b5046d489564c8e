use Rattle.std.proofs.Common.{◌∙◌}
use Rattle.nds_answers.proofs.notes.put_stop_line.Goals as goal

pub returns : goal.returns
returns g c =
    let kind = c.as_bytes.ensures.value ∙ c.name_of_kind.ensures in
    let tick = c.as_bytes-2.ensures.value ∙ c.format.ensures.text in
    let rank = c.as_bytes-3.ensures.value ∙ c.format-2.ensures.text in
    rw (kind, tick, rank, c.hex_digits.ensures) at c.put_parts.ensures
