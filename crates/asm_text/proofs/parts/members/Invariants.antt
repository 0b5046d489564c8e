use Rattle.std.proofs.Common.{◌≡◌, ◌≤◌, ◌+◌, ◌*◌, ◌-◌, ◌++◌, length, if◌then◌else◌, codes}
use Rattle.asm_text.specs.Text.{joined, preceded, register_names, members}
use Rattle.asm_text.proofs.parts.members.Given as goal

abbrev pub invariant-loop-r : goal.invariant-loop-r
invariant-loop-r l = record {
  text : l.into ++ (if l.later then preceded (codes ",") (register_names (16 - l.r) l.r l.list) else joined (codes ",") (register_names (16 - l.r) l.r l.list)) ≡ l.fn.into ++ members l.list;
  room : length l.into ≤ length l.fn.into + 4 * l.r;
}
