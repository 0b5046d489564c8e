use Rattle.std.proofs.Common.{◌≡◌, ℕ, List, map, ap, ◌∙◌}
use Rattle.std.proofs.lemmas.List.{map-id}
use Rattle.ds_state.specs.Formats.{bytes_written, word_format, written_each}
use Rattle.ds_ipc.proofs.Words.{in_pieces}
use Rattle.ds_ipc.proofs.sides.saved.put_words.Goals as goal

pub returns : goal.returns
returns c =
    let write = bytes_written word_format in
    let front = c.as_slices.result.0.now in
    let back = c.as_slices.result.1.now in
    c.in_ok-put_list-2.ensures
    ∙ ap (λ (words : List ℕ). written_each write c.put_list.new.into words) (map-id back)
    ∙ ap (λ (before : List ℕ). written_each write before back) (c.in_ok-put_list.ensures ∙ ap (written_each write c.args.into.now) (map-id front))
    ∙ in_pieces write c.args.into.now front back
    ∙ ap (written_each write c.args.into.now) c.as_slices.ensures
