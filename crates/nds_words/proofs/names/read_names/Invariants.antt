use Rattle.nds_words.specs.Reader.Lines.{IsNamed}
use Rattle.nds_words.proofs.names.read_names.Given as goal

abbrev pub invariant-loop-key : goal.invariant-loop-key
invariant-loop-key l = IsNamed l.line l.from l.pressed l.key l.at l.reached l.mark
