use Rattle.arm_exec.proofs.Words.{◌≡◌, map, perform, listed_registers, writes, stored_value}
use Rattle.arm_exec.proofs.Lists.{left}
use Rattle.arm_exec.proofs.multiples.store_list.Given as goal

-- what is left of the list, from here, gives what all of it gives from the start
abbrev pub invariant-loop-r : goal.invariant-loop-r
invariant-loop-r g l =
    let m = g.B.Bus.memory in
    let s = g.B.Bus.state in
    let value = stored_value l.s l.bank l.rn l.written l.new_base in
    let rest = perform m (s l.bus) (writes l.at (map value (left l.r l.list))) in
    let all = perform m (s l.initial.bus) (writes l.from (map value (listed_registers l.list))) in
    record {
      state : rest.state ≡ all.state;
      stop : rest.stop ≡ all.stop;
      same : g.B.Bus.identity l.bus ≡ g.B.Bus.identity l.initial.bus;
    }
