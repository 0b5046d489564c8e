use Rattle.nds_top.proofs.calls.carry_out.Goals as goal

-- src/calls.rt:66:1
pub returns-in-Trace-clause-answer : goal.returns-in-Trace-clause-answer
returns-in-Trace-clause-answer g c = rw (c.in-Trace.is, c.requires.empty) c.trace.ensures.answer

-- src/calls.rt:66:1
pub returns-in-Resume-clause-answer : goal.returns-in-Resume-clause-answer
returns-in-Resume-clause-answer g c = rw c.in-Resume.is c.resume.ensures.answer

-- src/calls.rt:76:1
pub returns-in-Run-clause-answer : goal.returns-in-Run-clause-answer
returns-in-Run-clause-answer g c = rw c.in-Run.is c.run.ensures.answer

-- src/calls.rt:76:1
pub returns-in-Peek-clause-answer : goal.returns-in-Peek-clause-answer
returns-in-Peek-clause-answer g c = rw c.in-Peek.is c.peek.ensures.answer

-- src/calls.rt:76:1
pub returns-in-Save-clause-answer : goal.returns-in-Save-clause-answer
returns-in-Save-clause-answer g c = rw c.in-Save.is c.save.ensures.answer
