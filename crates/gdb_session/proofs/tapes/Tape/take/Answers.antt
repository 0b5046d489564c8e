use Rattle.std.proofs.Common.{true≢false}
use Rattle.gdb_session.proofs.Words.{ComesFromBoot, ConsoleState, List, ap, arith, boot_of, machine_booted, subst, sym, ℕ, ◌∙◌}
use Rattle.gdb_session.proofs.Kept.{back_at, back_file, comes_again, comes_back}
use Rattle.gdb_session.proofs.tapes.Tape.take.Goals.{in-Err, in-Ok-go_back}
use Rattle.gdb_session.proofs.tapes.Tape.take.Goals as goal

pub invariant_of-self : goal.invariant_of-self
invariant_of-self c = elim c.match-go_back.branch [
  | in-Ok-go_back w ↦ comes_back _ _ _ _ c.self.invariant _ c.in-Some.ensures.there _ _ _ _ (omega arith) c.in-Ok.ensures c.as_slice-bytes.ensures.value w.in-Ok-go_back.ensures.state
  | in-Err w ↦ comes_again _ _ _ _ _ c.self.invariant (ap (λ (k : ConsoleState). k.machine.file) w.in-Err.ensures.err) (subst (ComesFromBoot _) (sym w.in-Err.ensures.err) c.self.invariant.came)
]

pub returns-clause-boot : goal.returns-clause-boot
returns-clause-boot c = elim c.match-go_back.branch [
  | in-Ok-go_back w ↦
      let same = back_file _ _ _ _ c.self.invariant _ c.in-Some.ensures.there _ _ _ _ (omega arith) c.in-Ok.ensures c.as_slice-bytes.ensures.value w.in-Ok-go_back.ensures.state in
      ap (λ (f : List ℕ). machine_booted f c.self.inside.keys) same ∙ ap boot_of c.self.view_is
  | in-Err w ↦ ap (λ (k : ConsoleState). machine_booted k.machine.file c.self.inside.keys) w.in-Err.ensures.err ∙ ap boot_of c.self.view_is
]

pub returns-clause-early : goal.returns-clause-early
returns-clause-early c = elim c.match-go_back.branch [
  | in-Ok-go_back w ↦ λ _.
      let at = back_at _ _ _ _ c.self.invariant _ c.in-Some.ensures.there _ _ _ _ (omega arith) c.in-Ok.ensures c.as_slice-bytes.ensures.value w.in-Ok-go_back.ensures.state in
      let early = c.in-Some.ensures.early in omega (arith, at, early)
  | in-Err w ↦ λ e. absurd (true≢false (sym e ∙ w.result-is))
]
