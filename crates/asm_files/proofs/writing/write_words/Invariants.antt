use Rattle.asm_files.proofs.Words.{Passing, arm_lines, length, text_of, ◌≤◌}
use Rattle.asm_files.proofs.writing.write_words.Given as goal

abbrev pub invariant-loop-rest : goal.invariant-loop-rest
invariant-loop-rest g l = record {
  passing : Passing g.O.Sink.tells g.O.Sink.taken l.initial.out l.out l.initial.page l.page (text_of (arm_lines l.arch l.start l.image)) (text_of (arm_lines l.arch l.at l.rest));
  later : g.O.Sink.faults l.initial.out ≤ g.O.Sink.faults l.out;
}

abbrev pub decreases-loop-rest : goal.decreases-loop-rest
decreases-loop-rest g l = length l.rest
