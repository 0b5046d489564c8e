use Rattle.gx_fifo.proofs.Words.{GxEntry, List, ap, bytes_written, entry_format, map-id, written_each, ℕ, ◌∙◌}
use Rattle.gx_fifo.proofs.Walks.{in_pieces}
use Rattle.gx_fifo.proofs.entries.Entries.put.Goals as goal

pub returns : goal.returns
returns c =
    let write = bytes_written entry_format in
    let front = c.as_slices.result.0.now in
    let back = c.as_slices.result.1.now in
    c.in_ok-put_list-2.ensures
    ∙ ap (λ (es : List GxEntry). written_each write c.put_list.new.into es) (map-id back)
    ∙ ap (λ (before : List ℕ). written_each write before back) (c.in_ok-put_list.ensures ∙ ap (written_each write c.args.into.now) (map-id front))
    ∙ in_pieces write c.args.into.now front back
    ∙ ap (written_each write c.args.into.now) (c.as_slices.ensures ∙ c.self.view_is)
