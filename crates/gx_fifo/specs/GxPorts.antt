use Rattle.std.specs.Prelude.{ℕ, ◌+◌, ◌-◌, ◌*◌, ◌/◌, nat_le, nat_lt, ◌&&◌, if◌then◌else◌, Bool, true, false, List, [], ◌∷◌}
use Rattle.ds_base.specs.Numbers.{is_within}
use Rattle.gx_fifo.specs.declared.ports.GxPort.{GxPort}
use Rattle.gx_fifo.specs.declared.ports.GxPort.TheVariants.{Display, Fifo, Direct, Status, Lengths, Position, Vector, Clip, VectorMatrix, Unlisted}

-- The geometry engine's ports, by the offset from 4000000h (GBATEK, "DS I/O Maps", "3D Display Engine" and "3D Geometry Engine"): the first word's
-- offset, how many words there are, whether they take commands, and which port word i is.
pub record GxPortRow : Type 0 where
  pub first : ℕ
  pub words : ℕ
  pub takes_commands : Bool
  pub port : ℕ → GxPort

abbrev pub gx_port_row : ℕ → ℕ → Bool → (ℕ → GxPort) → GxPortRow
gx_port_row first words takes_commands port = record { first = first; words = words; takes_commands = takes_commands; port = port }

abbrev pub display_control_row : GxPortRow
display_control_row = gx_port_row 0x060 1 false (λ i. Display)  -- DISP3DCNT

abbrev pub vector_matrix_row : GxPortRow
vector_matrix_row = gx_port_row 0x680 9 false (λ i. VectorMatrix i)  -- VECMTX_RESULT, the last of the engine's own

-- the engine's own stand from the first of these up to the second; what is no register's there is no other unit's either
abbrev pub engine_first : ℕ
engine_first = 0x400

abbrev pub engine_past : ℕ
engine_past = 0x700

abbrev pub is_engine_port : ℕ → Bool
is_engine_port at = nat_le engine_first at && nat_lt at engine_past

abbrev pub engine_rows : List GxPortRow
engine_rows =
    gx_port_row engine_first 16 true (λ i. Fifo)  -- GXFIFO
    ∷ gx_port_row 0x440 112 true (λ i. Direct (0x10 + i))  -- MTX_MODE to VEC_TEST, each command's own port
    ∷ gx_port_row 0x600 1 false (λ i. Status)  -- GXSTAT
    ∷ gx_port_row 0x604 1 false (λ i. Lengths)  -- RAM_COUNT
    ∷ gx_port_row 0x620 4 false (λ i. Position i)  -- POS_RESULT
    ∷ gx_port_row 0x630 2 false (λ i. Vector i)  -- VEC_RESULT, three halves
    ∷ gx_port_row 0x640 16 false (λ i. Clip i)  -- CLIPMTX_RESULT
    ∷ vector_matrix_row
    ∷ []

abbrev pub port_among : List GxPortRow → ℕ → GxPort
port_among [] at = Unlisted
port_among (r ∷ rows) at = if is_within r.first (4 * r.words) at then r.port ((at - r.first) / 4) else port_among rows at

-- the port at an offset
unfoldable pub gx_port : ℕ → GxPort
gx_port at = port_among (display_control_row ∷ engine_rows) at
