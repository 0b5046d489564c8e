use Rattle.asm_files.proofs.Words.{Path, drop, first_place, length, tail, take, whole_lines, ◌+◌, ◌-◌, ◌≡◌, ◌≤◌}
use Rattle.asm_files.proofs.reading.read_lines.Given as goal

abbrev pub invariant-loop-end : goal.invariant-loop-end
invariant-loop-end l = record {
  same : length l.text ≡ length l.fn.text;
  before : l.n ≤ l.pos;
  within : l.pos ≤ length l.text;
  kept : drop l.pos l.text ≡ drop l.pos l.fn.text;
  lines : whole_lines (drop l.pos l.text) ≡ drop l.count (whole_lines (drop l.from l.fn.text));
  end : tail (drop l.pos l.text) ≡ tail (drop l.from l.fn.text);
  few : l.count + l.from ≤ l.pos;
  some : l.count ≤ length (whole_lines (drop l.from l.fn.text));
  path : Path l.arch l.set (first_place l.start) (take l.count (whole_lines (drop l.from l.fn.text))) (take l.n l.text) l.place;
}

abbrev pub decreases-loop-end : goal.decreases-loop-end
decreases-loop-end l = length l.text - l.pos
