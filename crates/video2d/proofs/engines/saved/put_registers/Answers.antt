use Rattle.video2d.proofs.Words.{Format, List, ap, arith, bytes_written, sym, ℕ}
use Rattle.video2d.proofs.SavedWalks.{walked}
use Rattle.video2d.proofs.engines.saved.put_registers.Goals as goal

pub loop-init : goal.loop-init
loop-init c = record {
  bytes = sym (ap (λ (f : Format (List ℕ) (List ℕ)). bytes_written f c.args.into.now c.args.ports.now) (walked c.args.which));
  small = omega arith;
}
