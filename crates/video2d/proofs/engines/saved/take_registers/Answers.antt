use Rattle.video2d.proofs.Words.{Format, List, ap, arith, err_from_is_err_and, ports_format, read_format, sym, zeroes, ℕ, ◌∙◌}
use Rattle.video2d.proofs.SavedLoops.{take_fails, take_on, take_past}
use Rattle.video2d.proofs.SavedWalks.{walked}
use Rattle.video2d.proofs.engines.saved.take_registers.Goals as goal
use Rattle.video2d.proofs.engines.saved.take_registers.Goals.{in-None, in-Some+in_ok-value-in-Some}

pub loop-init : goal.loop-init
unfolding zeroes
loop-init c = record {
  reads = sym (ap (λ (f : Format (List ℕ) (List ℕ)). read_format f c.args.at.0 c.args.from.now) (walked c.args.which));
  small = omega arith;
}

pub returns-in_err-value-in-Some : goal.returns-in_err-value-in-Some
returns-in_err-value-in-Some c =
    let p = err_from_is_err_and c.from_residual.result c.from_residual.ensures.1 in
    rw (p.1, p.2) (take_fails c.args.which c.loop.counter c.loop.place c.in-Some.row c.loop.ports c.args.at.0 c.in_err-value-in-Some.field-0.0
    c.loop.from (read_format (ports_format c.args.which) c.args.at.0 c.args.from.now) c.loop-test.true
    (sym c.engine_row_at.ensures.value ∙ c.in-Some.is)
    c.in-Some.ensures.fits c.in_err-value-in-Some.ensures c.loop.invariant.reads)

pub loop-preserved : goal.loop-preserved
loop-preserved c =
    let total = read_format (ports_format c.args.which) c.args.at.0 c.args.from.now in
    elim c.match-engine_row_at.branch [
      | in-None w ↦
          rw (w.from-is, w.ports-is, w.place-is) (record {
            reads = take_past c.args.which c.loop.counter c.loop.place c.loop.ports c.args.at.0 c.loop.from total c.loop-test.true
                (sym c.engine_row_at.ensures.value ∙ w.in-None.is) c.loop.invariant.reads;
            small = (let small = c.loop.invariant.small in omega (arith, small));
          })
      | in-Some+in_ok-value-in-Some w ↦
          rw (w.from-is, w.ports-is, w.place-is) (record {
            reads = rw w.set_register.ensures (take_on c.args.which c.loop.counter c.loop.place w.in-Some.row c.loop.ports c.args.at.0
                w.in_ok-value-in-Some.value c.loop.from w.take_register.new.from total c.loop-test.true
                (sym c.engine_row_at.ensures.value ∙ w.in-Some.is) w.in-Some.ensures.fits w.in_ok-value-in-Some.ensures c.loop.invariant.reads);
            small = (let small = c.loop.invariant.small in let few = w.in-Some.ensures.fits.few in omega (arith, small, few));
          })
    ]
