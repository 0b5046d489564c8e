use Rattle.arm_exec.proofs.Words.{◌≡◌, ◌+◌, ◌%◌, ◌^◌, true, false, List, refl, sym, ◌∙◌, arith, map, bit, Access, writes, stored_value}
use Rattle.arm_exec.proofs.Lists.{left, left_in, left_out, none_left, refused, goes_on}
use Rattle.arm_exec.proofs.multiples.store_list.Goals as goal
use Rattle.arm_exec.proofs.multiples.store_list.Goals.{then-has+in_default, else-has}

pub loop-r-init : goal.loop-r-init
loop-r-init g c = record { state = refl; stop = refl; same = refl }

pub returns-in-Some-clause-stop : goal.returns-in-Some-clause-stop
returns-in-Some-clause-stop g c =
    let value = stored_value c.args.s.now c.args.bank c.args.rn c.args.written c.args.new_base in
    let b : bit c.loop-r.r c.args.list ≡ true = sym c.has.ensures ∙ c.if-has.true in
    let e = left_in c.loop-r.r c.args.list c.loop-r-test.true b in
    let stop = rw e at c.loop-r.invariant.stop in
    let h = sym (rw (c.stored_value-value.ensures) at c.in-Some.ensures.refusal) in
    let rest : List Access = writes ((c.loop-r.at + 4) % 2 ^ 32) (map value (left (c.loop-r.r + 1) c.args.list)) in
    sym (refused g.B.Bus.memory (g.B.Bus.state c.loop-r.bus) c.loop-r.at (value c.loop-r.r) rest c.in-Some.stop h).0 ∙ stop

pub returns-in-Some-clause-state : goal.returns-in-Some-clause-state
returns-in-Some-clause-state g c =
    let value = stored_value c.args.s.now c.args.bank c.args.rn c.args.written c.args.new_base in
    let b : bit c.loop-r.r c.args.list ≡ true = sym c.has.ensures ∙ c.if-has.true in
    let e = left_in c.loop-r.r c.args.list c.loop-r-test.true b in
    let state = rw e at c.loop-r.invariant.state in
    let h = sym (rw (c.stored_value-value.ensures) at c.in-Some.ensures.refusal) in
    let next = rw (c.stored_value-value.ensures) at c.in-Some.ensures.next in
    let rest : List Access = writes ((c.loop-r.at + 4) % 2 ^ 32) (map value (left (c.loop-r.r + 1) c.args.list)) in
    next ∙ sym (refused g.B.Bus.memory (g.B.Bus.state c.loop-r.bus) c.loop-r.at (value c.loop-r.r) rest c.in-Some.stop h).1 ∙ state

pub loop-r-preserved : goal.loop-r-preserved
loop-r-preserved g c =
    elim c.if-has.branch [
      | then-has+in_default w ↦
          (let value = stored_value c.args.s.now c.args.bank c.args.rn c.args.written c.args.new_base in
          let b : bit c.loop-r.r c.args.list ≡ true = sym c.has.ensures ∙ w.if-has.true in
          let e = left_in c.loop-r.r c.args.list c.loop-r-test.true b in
          let state = rw e at c.loop-r.invariant.state in
          let stop = rw e at c.loop-r.invariant.stop in
          let h = sym (rw (w.stored_value-value.ensures) at w.in_default.ensures.refusal) in
          let next = rw (w.stored_value-value.ensures) at w.in_default.ensures.next in
          let rest : List Access = writes ((c.loop-r.at + 4) % 2 ^ 32) (map value (left (c.loop-r.r + 1) c.args.list)) in
          let on = goes_on g.B.Bus.memory (g.B.Bus.state c.loop-r.bus) c.loop-r.at (value c.loop-r.r) rest h in
          record {
            state = rw (w.at-is, w.bus-is, next) (rw on at state);
            stop = rw (w.at-is, w.bus-is, next) (rw on at stop);
            same = rw w.bus-is (w.in_default.ensures.same ∙ c.loop-r.invariant.same);
          })
      | else-has w ↦
          (let b : bit c.loop-r.r c.args.list ≡ false = sym c.has.ensures ∙ w.if-has.false in
          let e = left_out c.loop-r.r c.args.list c.loop-r-test.true b in
          let state = rw e at c.loop-r.invariant.state in
          let stop = rw e at c.loop-r.invariant.stop in
          record {
            state = rw (w.at-is, w.bus-is) state;
            stop = rw (w.at-is, w.bus-is) stop;
            same = rw w.bus-is c.loop-r.invariant.same;
          })
    ]

pub returns-clause-stop : goal.returns-clause-stop
returns-clause-stop g c =
    let e : c.loop-r.r ≡ 16 = omega (arith, c.loop-r.auto.r-end, c.loop-r-test.false) in
    rw (e, none_left c.args.list) at c.loop-r.invariant.stop

pub returns-clause-state : goal.returns-clause-state
returns-clause-state g c =
    let e : c.loop-r.r ≡ 16 = omega (arith, c.loop-r.auto.r-end, c.loop-r-test.false) in
    rw (e, none_left c.args.list) at c.loop-r.invariant.state
