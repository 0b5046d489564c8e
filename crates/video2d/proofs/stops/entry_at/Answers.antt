use Rattle.video2d.proofs.Words.{slice_index, ℕ, ◌*◌, ◌+◌}
use Rattle.video2d.proofs.StopLemmas.{entry_bits}
use Rattle.video2d.proofs.stops.entry_at.Goals as goal

pub returns : goal.returns
returns c =
    let byte : ℕ → ℕ = λ k. slice_index c.args.oam.now (8 * c.args.n + k) in
    entry_bits (slice_index c.args.oam.now (8 * c.args.n)) (byte 1) (byte 2) (byte 3) (byte 4) (byte 5) (byte 6) (byte 7)
    c.from_le_bytes.result c.from_le_bytes.ensures
