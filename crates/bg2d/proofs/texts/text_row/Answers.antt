use Rattle.bg2d.proofs.Words.{AreEntries, Banks, HasForm, List, TextLayer, ap, arith, get_or, subst, sym, tiled_pixel, ℕ, ◌%◌, ◌*◌, ◌+◌, ◌/◌, ◌∙◌}
use Rattle.bg2d.specs.TextPixels.{text_width, text_height, text_entry}
use Rattle.bg2d.proofs.FormLemmas.{text_form}
use Rattle.bg2d.proofs.TilingLemmas.{tiles_are_tiled, tiled_is_text, index_of_range}
use Rattle.bg2d.proofs.texts.text_row.Goals as goal

pub returns-clause-row : goal.returns-clause-row
returns-clause-row c = λ x lt.
    let v : Banks = c.args.vram.now in
    let palette : List ℕ = c.args.palette.now in
    let layer : TextLayer = c.args.layer.now in
    let entries : List ℕ = c.text_entries.new.into in
    let pixels : List ℕ = c.paint_tiles.new.into in
    let fine : ℕ = layer.across % 8 in
    let down : ℕ = c.args.line + layer.down in
    let first : ℕ → ℕ = λ width. layer.across % width / 8 * 8 in
    let are : AreEntries v layer (first (text_width layer)) (down % text_height layer) entries 33 = (λ k known.
    c.text_entries.ensures k known
    ∙ ap (λ (width : ℕ). text_entry v layer ((first width + 8 * k) % text_width layer) (down % c.text_height.result)) c.text_width.ensures
    ∙ ap (λ (height : ℕ). text_entry v layer ((first (text_width layer) + 8 * k) % text_width layer) (down % height)) c.text_height.ensures) in
    ap (λ (row : List ℕ). get_or row x 0) c.clip.ensures ∙ index_of_range pixels fine 256 x lt
    ∙ tiles_are_tiled v palette layer (down % c.text_height.result) fine x entries pixels (omega arith) c.paint_tiles.ensures
    ∙ ap (λ (height : ℕ). tiled_pixel v palette layer (down % height) entries fine x) c.text_height.ensures
    ∙ tiled_is_text v palette layer c.args.line x entries lt are

pub returns-clause-form : goal.returns-clause-form
returns-clause-form c = λ x lt.
    subst HasForm (sym (returns-clause-row c x lt)) (text_form c.args.vram.now c.args.palette.now c.args.layer.now c.args.line x)
