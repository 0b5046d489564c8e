use Rattle.arm_exec.proofs.Words.{◌≡◌, true, None, if◌then◌else◌, sym, ap, subst, ◌∙◌, Instr, holds, carried_out, act, condition, swi_stop}
use Rattle.std.proofs.Common.{rules}
use Rattle.arm_exec.proofs.Executing.{executed_acts}
use Rattle.arm_exec.proofs.steps.execute.Goals as goal

pub returns-clause-registers : goal.returns-clause-registers
returns-clause-registers g c =
    let s = c.args.s.now in
    let h : holds (condition c.args.instr.now) s.cpsr ≡ true = search rules in
    let n : (if c.args.in_rom then swi_stop c.args.instr.now else None) ≡ None = search rules in
    let e = executed_acts g.B.Bus.memory (record { arch = c.args.arch; base = c.args.base; in_rom = c.args.in_rom }) s (g.B.Bus.state c.args.bus.now) c.args.instr.now h n in
    let P : Instr → Type 0 = λ i. c.act.new.s ≡ (carried_out g.B.Bus.memory c.args.arch s (g.B.Bus.state c.args.bus.now) (act c.args.arch c.args.base s i)).registers in
    subst P c.equivalent.ensures.instr c.act.ensures.registers ∙ ap (λ o. o.registers) (sym e)

pub returns-clause-state : goal.returns-clause-state
returns-clause-state g c =
    let s = c.args.s.now in
    let h : holds (condition c.args.instr.now) s.cpsr ≡ true = search rules in
    let n : (if c.args.in_rom then swi_stop c.args.instr.now else None) ≡ None = search rules in
    let e = executed_acts g.B.Bus.memory (record { arch = c.args.arch; base = c.args.base; in_rom = c.args.in_rom }) s (g.B.Bus.state c.args.bus.now) c.args.instr.now h n in
    let P : Instr → Type 0 = λ i. g.B.Bus.state c.act.new.bus ≡ (carried_out g.B.Bus.memory c.args.arch s (g.B.Bus.state c.args.bus.now) (act c.args.arch c.args.base s i)).state in
    subst P c.equivalent.ensures.instr c.act.ensures.state ∙ ap (λ o. o.state) (sym e)

pub returns-clause-stepped : goal.returns-clause-stepped
returns-clause-stepped g c =
    let s = c.args.s.now in
    let h : holds (condition c.args.instr.now) s.cpsr ≡ true = search rules in
    let n : (if c.args.in_rom then swi_stop c.args.instr.now else None) ≡ None = search rules in
    let e = executed_acts g.B.Bus.memory (record { arch = c.args.arch; base = c.args.base; in_rom = c.args.in_rom }) s (g.B.Bus.state c.args.bus.now) c.args.instr.now h n in
    let P : Instr → Type 0 = λ i. c.act.result ≡ (carried_out g.B.Bus.memory c.args.arch s (g.B.Bus.state c.args.bus.now) (act c.args.arch c.args.base s i)).stepped in
    subst P c.equivalent.ensures.instr c.act.ensures.stepped ∙ ap (λ o. o.stepped) (sym e)
