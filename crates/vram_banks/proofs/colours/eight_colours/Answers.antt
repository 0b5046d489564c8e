use Rattle.vram_banks.proofs.Words.{arith, ◌*◌, ◌+◌, ◌-◌}
use Rattle.vram_banks.proofs.TableLemmas.{lane_is_colour}
use Rattle.vram_banks.proofs.colours.eight_colours.Goals as goal

pub returns-clause-each : goal.returns-clause-each
returns-clause-each c = λ i lt.
    lane_is_colour c.args.palette.now c.args.k i (16 * c.args.k + 16 - 16 * c.args.k)
    (λ j. omega (arith, c.type_inv.palette j)) c.requires (omega arith) lt
