use Rattle.arm_exec.proofs.Words.{◌≡◌, true, false, refl, sym, ◌∙◌, arith, bit, perform, listed_registers, reads}
use Rattle.arm_exec.proofs.Lists.{left_in, left_out, none_left, last_or_last}
use Rattle.arm_exec.proofs.multiples.load_list.Goals as goal
use Rattle.arm_exec.proofs.multiples.load_list.Goals.{then-has, else-has}

pub loop-r-init : goal.loop-r-init
loop-r-init g c = record { registers = refl; state = refl; last = last_or_last 0 (perform g.B.Bus.memory (g.B.Bus.state c.args.bus.now) (reads c.args.from (listed_registers c.args.list))).values; same = refl }

pub loop-r-preserved : goal.loop-r-preserved
loop-r-preserved g c =
    elim c.if-has.branch [
      | then-has w ↦
          (let b : bit c.loop-r.r c.args.list ≡ true = sym c.has.ensures ∙ w.if-has.true in
          let e = left_in c.loop-r.r c.args.list c.loop-r-test.true b in
          let registers = rw e at c.loop-r.invariant.registers in
          let state = rw e at c.loop-r.invariant.state in
          let last = rw e at c.loop-r.invariant.last in
          record {
            registers = rw (w.s-is, w.load_one.ensures, w.at-is, w.bus-is, w.read-last.ensures.value, w.read-last.ensures.next) registers;
            state = rw (w.at-is, w.bus-is, w.read-last.ensures.next) state;
            last = rw (w.at-is, w.bus-is, w.last-is, w.read-last.ensures.value, w.read-last.ensures.next) last;
            same = rw w.bus-is (w.read-last.ensures.same ∙ c.loop-r.invariant.same);
          })
      | else-has w ↦
          (let b : bit c.loop-r.r c.args.list ≡ false = sym c.has.ensures ∙ w.if-has.false in
          let e = left_out c.loop-r.r c.args.list c.loop-r-test.true b in
          let registers = rw e at c.loop-r.invariant.registers in
          let state = rw e at c.loop-r.invariant.state in
          let last = rw e at c.loop-r.invariant.last in
          record {
            registers = rw (w.s-is, w.at-is, w.bus-is) registers;
            state = rw (w.at-is, w.bus-is) state;
            last = rw (w.at-is, w.bus-is, w.last-is) last;
            same = rw w.bus-is c.loop-r.invariant.same;
          })
    ]

pub returns-clause-registers : goal.returns-clause-registers
returns-clause-registers g c =
    let e : c.loop-r.r ≡ 16 = omega (arith, c.loop-r.auto.r-end, c.loop-r-test.false) in
    rw (e, none_left c.args.list) at c.loop-r.invariant.registers

pub returns-clause-state : goal.returns-clause-state
returns-clause-state g c =
    let e : c.loop-r.r ≡ 16 = omega (arith, c.loop-r.auto.r-end, c.loop-r-test.false) in
    rw (e, none_left c.args.list) at c.loop-r.invariant.state

pub returns-clause-last : goal.returns-clause-last
returns-clause-last g c =
    let e : c.loop-r.r ≡ 16 = omega (arith, c.loop-r.auto.r-end, c.loop-r-test.false) in
    rw (e, none_left c.args.list) at c.loop-r.invariant.last
