use Rattle.arm_exec.proofs.Words.{◌≡◌, perform, listed_registers, reads, loaded, last_of}
use Rattle.arm_exec.proofs.Lists.{left, last_or}
use Rattle.arm_exec.proofs.multiples.load_list.Given as goal

-- what is left of the list, from here, gives what all of it gives from the start
abbrev pub invariant-loop-r : goal.invariant-loop-r
invariant-loop-r g l =
    let m = g.B.Bus.memory in
    let s = g.B.Bus.state in
    let rest = perform m (s l.bus) (reads l.at (left l.r l.list)) in
    let all = perform m (s l.initial.bus) (reads l.from (listed_registers l.list)) in
    record {
      registers : loaded l.bank (left l.r l.list) rest.values l.s ≡ loaded l.bank (listed_registers l.list) all.values l.initial.s;
      state : rest.state ≡ all.state;
      last : last_or l.last rest.values ≡ last_of all.values;
      same : g.B.Bus.identity l.bus ≡ g.B.Bus.identity l.initial.bus;
    }
