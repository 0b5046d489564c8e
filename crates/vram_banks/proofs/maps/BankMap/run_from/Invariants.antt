use Rattle.vram_banks.proofs.Words.{IsCellRun, ◌%◌, ◌-◌, ◌≡◌, ◌≤◌}
use Rattle.vram_banks.proofs.maps.BankMap.run_from.Given as goal

abbrev pub invariant-loop-size : goal.invariant-loop-size
invariant-loop-size l = record {
  whole : l.size % 8192 ≡ 0;
  most : l.size ≤ l.most;
  run : IsCellRun l.self l.x (record { first = l.first; size = l.size });
}

abbrev pub decreases-loop-size : goal.decreases-loop-size
decreases-loop-size l = l.most - l.size
