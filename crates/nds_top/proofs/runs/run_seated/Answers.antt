use Rattle.nds_top.proofs.runs.run_seated.Goals as goal

-- each status says what was played so, and no other does: another answer in the code is refused here
pub returns-in-Done : goal.returns-in-Done
returns-in-Done g c = c.in-Done.ensures.played

pub returns-in-LeftOut : goal.returns-in-LeftOut
returns-in-LeftOut g c = c.in-LeftOut.ensures.played

pub returns-in-WriteFault : goal.returns-in-WriteFault
returns-in-WriteFault g c = c.in-WriteFault.ensures.played
