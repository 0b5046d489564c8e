use Rattle.nds_answers.specs.Notes.{noted}
use Rattle.nds_answers.proofs.notes.note.Goals as goal

pub returns : goal.returns
returns g c = noted c.put_line.result (rw c.as_bytes.ensures.value at c.put_line.ensures)
