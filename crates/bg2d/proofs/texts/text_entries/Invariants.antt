use Rattle.bg2d.proofs.Words.{AreEntries}
use Rattle.bg2d.proofs.texts.text_entries.Given as goal

abbrev pub invariant-loop-k : goal.invariant-loop-k
invariant-loop-k l = AreEntries l.vram l.layer l.first l.y l.into l.k
