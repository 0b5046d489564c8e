use Rattle.ds_machine.proofs.Words.{Nine, Seven, bytes_written, channels_format, dma_format, dma_format_by, late_runs_by, refl, rules, true, ◌≡◌}
use Rattle.std.proofs.lemmas.List.{map-id}
use Rattle.ds_machine.proofs.SavedBytes.{dma_bytes}
use Rattle.ds_machine.proofs.parts.Parts.put_channels.Goals as goal

pub returns : goal.returns
unfolding channels_format
returns c = λ late.
    (let io = c.args.self.now.io in
    let one : c.pack.new.into ≡ bytes_written (dma_format Nine) c.args.into.now io.nine.dma =
    search (rules, c.in_ok-pack.ensures (λ runs. true), dma_bytes) in
    let two : c.pack-2.new.into ≡ bytes_written (dma_format_by Seven (late_runs_by late)) c.pack.new.into io.seven.dma =
    search (rules, c.in_ok-pack-2.ensures (λ runs. true), dma_bytes) in
    let fill : c.fill.result ≡ io.fill = search rules in
    rw (c.in_ok-put_list.ensures, two, one, map-id c.fill.result, fill) refl)
