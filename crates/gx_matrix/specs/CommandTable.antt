use Rattle.std.specs.Prelude.{ℕ, ◌≡◌, ◌==◌, if◌then◌else◌, List, [], ◌∷◌, length, Option, Some, None}
use Rattle.gx_matrix.specs.declared.commands.GeometryCommand.{GeometryCommand}
use Rattle.gx_matrix.specs.declared.commands.GeometryCommand.TheVariants.{MtxMode, MtxPush, MtxPop, MtxStore, MtxRestore, MtxIdentity, MtxLoad4x4, MtxLoad4x3, MtxMult4x4, MtxMult4x3, MtxMult3x3, MtxScale, MtxTrans, Color, Normal, Texcoord, Vtx16, Vtx10, VtxXy, VtxXz, VtxYz, VtxDiff, PolygonAttr, TeximageParam, PlttBase, DifAmb, SpeEmi, LightVector, LightColor, Shininess, BeginVtxs, EndVtxs, SwapBuffers, Viewport, BoxTest, PosTest, VecTest}

-- The geometry commands (GBATEK, "DS 3D Geometry Commands"), by its names in Rust's spelling

-- a row of the list: a command's code, its number of parameters, and its bus clocks
pub record CommandRow : Type 0 where
  pub code : ℕ
  pub parameters : ℕ
  pub clocks : ℕ

abbrev pub table_row : ℕ → ℕ → ℕ → CommandRow
table_row code parameters clocks = record { code = code; parameters = parameters; clocks = clocks }

abbrev pub command_row : GeometryCommand → CommandRow
command_row MtxMode = table_row 0x10 1 1
command_row MtxPush = table_row 0x11 0 17
command_row MtxPop = table_row 0x12 1 36
command_row MtxStore = table_row 0x13 1 17
command_row MtxRestore = table_row 0x14 1 36
command_row MtxIdentity = table_row 0x15 0 19
command_row MtxLoad4x4 = table_row 0x16 16 34
command_row MtxLoad4x3 = table_row 0x17 12 30
command_row MtxMult4x4 = table_row 0x18 16 35
command_row MtxMult4x3 = table_row 0x19 12 31
command_row MtxMult3x3 = table_row 0x1A 9 28
command_row MtxScale = table_row 0x1B 3 22
command_row MtxTrans = table_row 0x1C 3 22
command_row Color = table_row 0x20 1 1
command_row Normal = table_row 0x21 1 9
command_row Texcoord = table_row 0x22 1 1
command_row Vtx16 = table_row 0x23 2 9
command_row Vtx10 = table_row 0x24 1 8
command_row VtxXy = table_row 0x25 1 8
command_row VtxXz = table_row 0x26 1 8
command_row VtxYz = table_row 0x27 1 8
command_row VtxDiff = table_row 0x28 1 8
command_row PolygonAttr = table_row 0x29 1 1
command_row TeximageParam = table_row 0x2A 1 1
command_row PlttBase = table_row 0x2B 1 1
command_row DifAmb = table_row 0x30 1 4
command_row SpeEmi = table_row 0x31 1 4
command_row LightVector = table_row 0x32 1 6
command_row LightColor = table_row 0x33 1 1
command_row Shininess = table_row 0x34 32 32
command_row BeginVtxs = table_row 0x40 1 1
command_row EndVtxs = table_row 0x41 0 1
command_row SwapBuffers = table_row 0x50 1 392
command_row Viewport = table_row 0x60 1 1
command_row BoxTest = table_row 0x70 3 103
command_row PosTest = table_row 0x71 2 9
command_row VecTest = table_row 0x72 1 5

-- all of them
abbrev pub geometry_commands : List GeometryCommand
geometry_commands =
    MtxMode ∷ MtxPush ∷ MtxPop ∷ MtxStore ∷ MtxRestore
    ∷ MtxIdentity ∷ MtxLoad4x4 ∷ MtxLoad4x3 ∷ MtxMult4x4 ∷ MtxMult4x3 ∷ MtxMult3x3 ∷ MtxScale ∷ MtxTrans
    ∷ Color ∷ Normal ∷ Texcoord
    ∷ Vtx16 ∷ Vtx10 ∷ VtxXy ∷ VtxXz ∷ VtxYz ∷ VtxDiff
    ∷ PolygonAttr ∷ TeximageParam ∷ PlttBase
    ∷ DifAmb ∷ SpeEmi ∷ LightVector ∷ LightColor ∷ Shininess
    ∷ BeginVtxs ∷ EndVtxs ∷ SwapBuffers ∷ Viewport
    ∷ BoxTest ∷ PosTest ∷ VecTest ∷ []

-- the command of a code, if it has one
abbrev pub command_among : List GeometryCommand → ℕ → Option GeometryCommand
command_among [] code = None
command_among (command ∷ commands) code = if code == (command_row command).code then Some command else command_among commands code

unfoldable pub command_of : ℕ → Option GeometryCommand
command_of code = command_among geometry_commands code

-- as many parameters as a command has; a command's code, and as many parameters as it has
abbrev pub HasParameters : GeometryCommand → List ℕ → Type 0
HasParameters command params = length params ≡ (command_row command).parameters

abbrev pub IsWhole : Option GeometryCommand → List ℕ → Type 0
IsWhole None params = ⊥
IsWhole (Some command) params = HasParameters command params

abbrev pub IsCommand : ℕ → List ℕ → Type 0
IsCommand code params = IsWhole (command_of code) params

-- a state after a code's command, by what each command leaves of it; a code without a command leaves it as it is
abbrev pub command_taken : {S : Type 0} → (GeometryCommand → List ℕ → S → S) → Option GeometryCommand → List ℕ → S → S
command_taken after None params s = s
command_taken after (Some command) params s = after command params s
