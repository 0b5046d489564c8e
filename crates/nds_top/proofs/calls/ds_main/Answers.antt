use Rattle.nds_top.proofs.Words.{[], command, nothing, refl}
use Rattle.nds_words.specs.CommandLaws.{asked_by}
use Rattle.nds_top.proofs.calls.ds_main.Goals as goal

pub returns-in-None : goal.returns-in-None
returns-in-None g c =
    record { answer = ([], nothing c.in-None.ensures.none refl (refl, c.requires), c.note.ensures); files = refl }

pub returns-in-Some : goal.returns-in-Some
returns-in-Some g c =
    record { answer = (c.carry_out-ended.result.file.now, command (asked_by c.in-Some.command) c.in-Some.ensures.some c.carry_out-ended.ensures.answer, c.note-in-Some.ensures); files = c.carry_out-ended.ensures.files }
