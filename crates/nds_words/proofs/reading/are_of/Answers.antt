use Rattle.std.specs.String.{string_bytes}
use Rattle.nds_words.proofs.WordLists.{are_of_texts}
use Rattle.nds_words.proofs.reading.are_of.Goals as goal

pub returns : goal.returns
returns c =
    are_of_texts string_bytes c.args.words.now c.args.name.now c.args.count c.index-words-0.result c.eq.result c.requires c.if-words-count.false c.index-words-0.is
    (rw c.as_str.ensures.value at c.eq.ensures)
