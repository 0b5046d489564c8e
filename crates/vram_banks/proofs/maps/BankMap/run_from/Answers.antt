use Rattle.vram_banks.proofs.Words.{arith}
use Rattle.vram_banks.proofs.CellLemmas.{run_more}
use Rattle.vram_banks.proofs.maps.BankMap.run_from.Goals as goal

pub loop-size-preserved : goal.loop-size-preserved
loop-size-preserved c =
    let l = c.loop-size in
    let whole = l.invariant.whole in
    let test = c.loop-size-test.true in
    let start = c.requires.whole in
    record {
      whole = omega (arith, whole);
      most = omega (arith, test);
      run = run_more c.args.self.now c.args.x c.args.first l.size (omega (arith, whole, start)) l.invariant.run (c.has_alone.ensures c.if-has_alone.true);
    }
