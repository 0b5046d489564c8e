use Rattle.run_ahead.proofs.Words.{Bool, ConsoleState, KeyLine, Left, List, Nine, Ok, Option, Proc, Seven, [], and_parts, ap, arith}
use Rattle.run_ahead.proofs.Words.{head_format, length, list_all, map, most_entries, nat_le, not, read_format, rules, subst, suc, true}
use Rattle.run_ahead.proofs.Words.{zero, ℕ, ◌*◌, ◌+◌, ◌==◌, ◌>>=◌, ◌||◌, ◌∙◌, ◌∷◌, ◌≡◌, ◌≤◌}
use Rattle.ds_state.specs.Formats.{Format, word_format, signed_format}
use Rattle.run_ahead.specs.Saved.{console_of, format_behind, read_console, read_state, StatesAreShort}
use Rattle.arm_core.specs.Saved.{registers_format}
use Rattle.cp15_tcm.specs.Saved.{cp15_format}
use Rattle.ds_base.specs.Numbers.{width_bytes, zeroes}
use Rattle.ds_base.specs.declared.processors.Arch.{Arch}
use Rattle.ds_base.specs.declared.processors.Arch.TheVariants.{V4, V5}
use Rattle.ds_card.specs.Saved.{card_format}
use Rattle.ds_dma.specs.Saved.{channel_format_by, dma_format_by}
use Rattle.ds_ipc.specs.Saved.{ipc_format, side_format}
use Rattle.ds_math.specs.Saved.{divider_format, root_format}
use Rattle.ds_timers.specs.Saved.{irq_format_by, timer_format, timers_format}
use Rattle.ds_machine.specs.Saved.{machine_format, saved_size}
use Rattle.gx_fifo.specs.Saved.{count_by, entry_format, gx_format_by}
use Rattle.gx_geometry.specs.Saved.{geometry_format, holds_recent, light_format, lists_format, place_of_number, polygon_format, unless_none, vertex_format}
use Rattle.gx_geometry.specs.Bounds.{is_place}
use Rattle.gx_geometry.specs.Polygons.{most_polygons, most_vertices}
use Rattle.gx_matrix.specs.Saved.{matrix_format, stacks_format}
use Rattle.video2d.specs.DisplayRegisters.{display_row, engine_bytes, engine_registers}
use Rattle.video2d.specs.declared.display_registers.DisplayRegister.{DisplayRegister}
use Rattle.video2d.specs.declared.display_registers.DisplayRow.{DisplayRow}
use Rattle.video2d.specs.declared.engines.Engine.{Engine}
use Rattle.video2d.specs.declared.engines.Engine.TheVariants.{A, B}
use Rattle.video2d.specs.Saved.{frame_format, frame_pixels, pixel_format, point_format, ports_format, row_format, row_width, rows_format, video_format}
use Rattle.vram_banks.specs.Saved.{banks_format, banks_size}
use Rattle.run_ahead.proofs.FewBytes.{ReadsFew, ◌⨾◌, reads_few}
use Rattle.run_ahead.proofs.SavedStates.{all_was_read, bound, ok_same}

-- How many bytes each part of a saved console has at most.

most : (a b : ℕ) → nat_le a b ≡ true → a ≤ b
most a b h = grind (arith, h)

-- the counts of lists, by their rules
swapped_few : (tick n greatest at : ℕ) → unless_none tick greatest at n ≡ true → n ≤ greatest
swapped_few tick n greatest at kept = most n greatest (and_parts (nat_le n greatest) (not (tick == 0) || n == 0) kept).0

open_few : (recent : List (Option ℕ)) (at n : ℕ) → holds_recent recent at n ≡ true → n ≤ most_vertices
open_few recent at n kept = most n most_vertices (and_parts (nat_le n most_vertices) (list_all (is_place n) recent) kept).0

entries_few : (asked : ℕ → ℕ → Bool) (selector at n : ℕ) → count_by asked selector at n ≡ true → n ≤ most_entries
entries_few asked selector at n kept = most n most_entries (and_parts (asked selector n) (nat_le n most_entries) kept).1

module _ (at : ℕ) where
  few_word : ReadsFew at 4 0 word_format
  few_word = search rules

  few_signed : ReadsFew at 4 0 signed_format
  few_signed = search rules

  few_cp15 : ReadsFew at 12 0 cp15_format
  unfolding cp15_format
  few_cp15 = search rules

  few_registers : (arch : Arch) → ReadsFew at 148 0 (registers_format arch)
  unfolding registers_format
  few_registers arch = (4, few_word) ⨾ λ general. search rules

  few_vertex : ReadsFew at 22 0 vertex_format
  unfolding vertex_format
  few_vertex = search rules

  few_polygon : ReadsFew at 25 0 polygon_format
  unfolding polygon_format
  few_polygon = search rules

  few_irq : (proc : Proc) (asked : ℕ → ℕ → Bool) → ReadsFew at 9 0 (irq_format_by proc asked)
  unfolding irq_format_by
  few_irq proc asked = search rules

  few_timer : (which : ℕ) → ReadsFew at 13 0 (timer_format which)
  unfolding timer_format
  few_timer which = search rules

  few_timers : ReadsFew at 52 0 timers_format
  unfolding timers_format
  few_timers = (13, few_timer 0) ⨾ λ zero. (13, few_timer 1) ⨾ λ one. (13, few_timer 2) ⨾ λ two. (13, few_timer 3) ⨾ λ three. omega arith

  few_divider : ReadsFew at 41 0 divider_format
  unfolding divider_format
  few_divider = search rules

  few_root : ReadsFew at 21 0 root_format
  unfolding root_format
  few_root = search rules

  few_side : ReadsFew at 73 0 side_format
  unfolding side_format
  few_side = λ passed _ raises _ control _ last _ count kept. (let le = most count 16 kept in (4, few_word) ⨾ λ words. omega (arith, le))

  few_ipc : ReadsFew at 146 0 ipc_format
  unfolding ipc_format
  few_ipc = (73, few_side) ⨾ λ nine. (73, few_side) ⨾ λ seven. omega arith

  few_channel : (proc : Proc) (which : ℕ) (asked : Bool → Bool) → ReadsFew at 37 0 (channel_format_by proc which asked)
  unfolding channel_format_by
  few_channel proc which asked = search rules

  few_dma : (proc : Proc) (asked : Bool → Bool) → ReadsFew at 160 0 (dma_format_by proc asked)
  unfolding dma_format_by
  few_dma proc asked =
      (37, few_channel proc 0 _) ⨾ λ zero. (37, few_channel proc 1 _) ⨾ λ one. (37, few_channel proc 2 _) ⨾ λ two. (37, few_channel proc 3 _) ⨾ λ three.
      search rules

  few_card : (file : List ℕ) → ReadsFew at 29 0 (card_format file)
  unfolding card_format
  few_card file = search rules

  -- ---- the display: rows have their registers' widths

  abbrev width_of : DisplayRow → ℕ
  width_of row = width_bytes (row_width row)

  abbrev rows_bytes : List DisplayRegister → ℕ
  rows_bytes [] = 0
  rows_bytes (register ∷ registers) = (display_row register).count * width_of (display_row register) + rows_bytes registers

  few_row : (row : DisplayRow) (count place : ℕ) (made : List ℕ) (next : List ℕ → Format (List ℕ) (List ℕ)) (greatest read : ℕ)
      → ((ports : List ℕ) → ReadsFew at greatest (read + count * width_of row) (next ports)) → ReadsFew at greatest read (row_format row count place made next)
  few_row row zero place made next greatest read few = subst (λ n. ReadsFew at greatest n (next made)) (omega arith) (few made)
  few_row row (suc count) place made next greatest read few = λ value _. few_row row count _ _ next greatest _
      (λ ports. subst (λ n. ReadsFew at greatest n (next ports)) (grind arith) (few ports))

  few_rows : (registers : List DisplayRegister) (made : List ℕ) (greatest read : ℕ) → read + rows_bytes registers ≤ greatest
      → ReadsFew at greatest read (rows_format registers made)
  few_rows [] made greatest read le = omega (arith, le)
  few_rows (register ∷ registers) made greatest read le =
      few_row (display_row register) (display_row register).count _ made (rows_format registers) greatest read
      (λ ports. few_rows registers ports greatest _ (omega (arith, le)))

  few_ports : (which : Engine) → ReadsFew at 224 0 (ports_format which)
  unfolding ports_format
  few_ports A = few_rows (engine_registers A) (zeroes engine_bytes) 224 0 (omega arith)
  few_ports B = few_rows (engine_registers B) (zeroes engine_bytes) 224 0 (omega arith)

  few_point : ReadsFew at 8 0 point_format
  unfolding point_format
  few_point = search rules

  few_pixel : ReadsFew at 2 0 pixel_format
  few_pixel = search rules

  few_frame : ReadsFew at 196608 0 frame_format
  unfolding frame_format frame_pixels
  few_frame = (2, few_pixel) ⨾ λ pixels. omega arith

  few_video : ReadsFew at 393705 0 (video_format at)
  unfolding video_format
  few_video = λ line _ blanked _ nine _ seven _. (224, few_ports A) ⨾ λ a. (224, few_ports B) ⨾ λ b power _. (8, few_point) ⨾ λ two_a. (8, few_point) ⨾ λ three_a.
      (8, few_point) ⨾ λ two_b. (8, few_point) ⨾ λ three_b. (196608, few_frame) ⨾ λ drawn. (196608, few_frame) ⨾ λ whole. omega arith

  -- ---- geometry

  few_matrix : ReadsFew at 64 0 matrix_format
  unfolding matrix_format
  few_matrix = (4, few_signed) ⨾ λ cells. omega arith

  few_stacks : ReadsFew at 4357 0 stacks_format
  unfolding stacks_format
  few_stacks = search (rules, few_matrix) depth 60 fits 8000

  few_light : ReadsFew at 14 0 light_format
  unfolding light_format
  few_light = search rules

  few_lists : ReadsFew at 186388 0 lists_format
  unfolding lists_format
  few_lists = λ tick _ parameter _ vertices kept polygons kept₂. (let a = swapped_few tick vertices most_vertices at kept in
      let b = swapped_few tick polygons most_polygons at kept₂ in (22, few_vertex) ⨾ λ vs. (25, few_polygon) ⨾ λ ps. omega (arith, a, b))

  few_geometry : ReadsFew at 377393 0 geometry_format
  unfolding geometry_format
  few_geometry = (4357, few_stacks) ⨾ λ stacks overflow _ parameter _ colour _ x _ y _ z _ raw_s _ raw_t _ s _ t _ set _ attributes _ texture _ palette _ viewport _
      diffuse _ ambient _ specular _ emission _ by_table _ table _. (14, few_light) ⨾ λ light_0. (14, few_light) ⨾ λ light_1. (14, few_light) ⨾ λ light_2.
      (14, few_light) ⨾ λ light_3 kind _ run _ first _ second _ third _. (4, few_signed) ⨾ λ position vector_x _ vector_y _ vector_z _ inside _
      vertices kept polygons kept₂. (let a = open_few (map place_of_number (first ∷ second ∷ third ∷ [])) at vertices kept in let b = most polygons most_polygons kept₂ in
      (22, few_vertex) ⨾ λ vs. (25, few_polygon) ⨾ λ ps. (186388, few_lists) ⨾ λ last. omega (arith, a, b))

  few_entry : ReadsFew at 5 0 entry_format
  unfolding entry_format
  few_entry = search rules

  few_gx : (asked : ℕ → ℕ → Bool) → ReadsFew at 379032 0 (gx_format_by asked)
  unfolding gx_format_by
  few_gx asked = (377393, few_geometry) ⨾ λ geometry display _ selector _ count kept. (let le = entries_few asked selector at count kept in
      (5, few_entry) ⨾ λ entries packed _ left _ due _ waits _. omega (arith, le))

  -- ---- the machine's own parts

  few_banks : ReadsFew at 671753 0 banks_format
  unfolding banks_format banks_size
  few_banks = search rules

few_machine : (file : List ℕ) (keys : List KeyLine) (nine seven events at : ℕ) → ReadsFew at 5791374 0 (machine_format file keys nine seven events at)
unfolding machine_format saved_size
few_machine file keys steps_of_nine steps_of_seven events at =
    (148, few_registers at V5) ⨾ λ registers₉ halted₉ _ due₉ _. (148, few_registers at V4) ⨾ λ registers₇ halted₇ _ due₇ _. (12, few_cp15 at) ⨾ λ cp15 main _ shared _ wram _ itcm _ dtcm _ palette _.
    (671753, few_banks at) ⨾ λ vram oam _ wramcnt _. (9, few_irq at Nine _) ⨾ λ irq₉. (9, few_irq at Seven _) ⨾ λ irq₇. (52, few_timers at) ⨾ λ timers₉.
    (52, few_timers at) ⨾ λ timers₇. (41, few_divider at) ⨾ λ divider. (21, few_root at) ⨾ λ root. (146, few_ipc at) ⨾ λ ipc pressed _ keycnt₉ _ keycnt₇ _.
    (160, few_dma at Nine _) ⨾ λ dma₉. (160, few_dma at Seven _) ⨾ λ dma₇. (4, few_word at) ⨾ λ fill. (393705, few_video at) ⨾ λ video.
    (379032, few_gx at _) ⨾ λ gx. (29, few_card at file) ⨾ λ card. omega arith

few_head : (digest : List ℕ) (limit : ℕ) → ReadsFew limit 74 0 (head_format digest)
unfolding head_format
few_head digest limit = search rules

-- ---- a whole console

pub states_are_short : StatesAreShort
unfolding read_state
states_are_short = λ digest limit file keys bytes c h.
    (let whole = all_was_read (read_console digest limit file keys (record { place = 0; bytes = bytes })) c h in
    let both = bound (read_format (head_format digest) limit (record { place = 0; bytes = bytes }))
    (λ q. read_format (format_behind q.0 file keys) q.0.at q.1 >>= (λ m. Ok (console_of q.0 m.0, m.1))) whole.0 whole.1 in
    let head = both.0.0 in
    let inner = bound (read_format (format_behind head file keys) head.at both.0.1) (λ m. Ok (console_of head m.0, m.1)) whole.0 both.2 in
    let came : (console_of head inner.0.0, inner.0.1) ≡ whole.0 = ok_same inner.2 in
    let front = reads_few (head_format digest) limit 74 0 (record { place = 0; bytes = bytes }) both.0 (few_head digest limit) both.1 in
    let own = reads_few (format_behind head file keys) head.at 5791374 0 both.0.1 inner.0 (few_machine file keys head.nine head.seven head.events head.at) inner.1 in
    let none : length inner.0.1.bytes ≡ 0 = ap (λ (p : ConsoleState × Left). length p.1.bytes) came ∙ ap (λ (bs : List ℕ). length bs) whole.3 in
    omega (arith, front, own, none))
