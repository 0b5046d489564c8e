use Rattle.nds_words.proofs.WordsAreOne.{words_are_one}
use Rattle.nds_words.proofs.laws.word_laws.Goals as goal

pub returns : goal.returns
returns c = words_are_one
