use Rattle.asm_files.proofs.Words.{arith, length, ◌+◌, ◌-◌}
use Rattle.std.proofs.lemmas.Slice.{drop-put_mid}
use Rattle.asm_files.proofs.reading.put_bytes.Goals as goal

pub returns-clause-rest : goal.returns-clause-rest
returns-clause-rest c from h =
    drop-put_mid c.args.at (c.args.at + length c.args.bytes.now - c.args.at) c.args.text.now c.copy_from_slice.new.self from (omega arith) (omega arith) (omega (arith, c.copy_from_slice.ensures.len))
