use Rattle.std.specs.Prelude.{ℕ, ◌%◌, ◌^◌, Bool, true, false, List, [], ◌∷◌, Option}
use Rattle.ds_base.specs.declared.processors.Proc.{Proc}
use Rattle.ds_base.specs.declared.processors.Proc.TheVariants.{Nine}
use Rattle.ds_base.specs.declared.ticks.Due.{Due}
use Rattle.ds_base.specs.declared.ticks.Tick.{Tick}
use Rattle.ds_dma.specs.declared.controls.DmaPort.TheVariants.{Source, Target, Control}
use Rattle.ds_runs.specs.OrderLaws.{first_from}
use Rattle.ds_ports.specs.Dues.{dues_with}
use Rattle.ds_ports.specs.Io.{IoState}
use Rattle.ds_ports.specs.ProcessorIo.{ProcessorIoState, control_written, dma_written, haltcnt_written, ie_written, if_written, ime_written, keycnt_written, reload_written}
use Rattle.ds_ports.specs.Touches as touches
use Rattle.ds_ports.specs.Touches.{UnitPart, Division, DmaNine, DmaSeven, Released, TimersNine, TimersSeven, among, changes_some}
use Rattle.ds_ports.specs.declared.registers.Register.{Register}
use Rattle.ds_ports.specs.declared.registers.Register.TheVariants.{DisplayHalf, DisplayWord, GxWord, GxCommand, Dmasad, Dmadad, Dmacnt, TmcntL, TmcntH, Keycnt, Ime, Ie, If, Haltcnt, Vramcnt, Vramstat, Divcnt, DivNumer, DivDenom, DivResult, DivremResult, Sqrtcnt, SqrtResult, SqrtParam, Auxspicnt, CardWord, CardData}

-- What the code's parts say of one another. No public clause speaks of it.

-- a write of a register may change when something is due, or leave something to settle: it changes one of these parts of the units. The display is
-- due too, but by its scan, which no register changes. (Both processors' registers of a name change such parts, or none of them does)
abbrev pub moving_parts : List UnitPart
moving_parts = TimersNine ∷ TimersSeven ∷ Division ∷ touches.SquareRoot ∷ touches.Geometry ∷ touches.Card ∷ Released ∷ DmaNine ∷ DmaSeven ∷ []

abbrev pub moves_dues : Register → Bool
moves_dues register = changes_some (among moving_parts) Nine register

-- what a write of a register that is the processor's own leaves of that, by the keys that are pressed
abbrev pub own_written : Register → Proc → Tick → ℕ → ProcessorIoState → ℕ → ℕ → ProcessorIoState
own_written Dmasad proc now pressed own n word = dma_written own now Source n word
own_written Dmadad proc now pressed own n word = dma_written own now Target n word
own_written Dmacnt proc now pressed own n word = dma_written own now Control n word
own_written TmcntL proc now pressed own n word = reload_written own n (word % 2 ^ 16)
own_written TmcntH proc now pressed own n word = control_written own n (word % 2 ^ 16) now
own_written Keycnt proc now pressed own n word = keycnt_written own pressed (word % 2 ^ 16)
own_written Ime proc now pressed own n word = ime_written own word
own_written Ie proc now pressed own n word = ie_written proc own word
own_written If proc now pressed own n word = if_written own word
own_written Haltcnt proc now pressed own n word = haltcnt_written own (word % 2 ^ 8)
own_written _ proc now pressed own n word = own

-- these are its own
abbrev pub is_own : Register → Bool
is_own Dmasad = true
is_own Dmadad = true
is_own Dmacnt = true
is_own TmcntL = true
is_own TmcntH = true
is_own Keycnt = true
is_own Ime = true
is_own Ie = true
is_own If = true
is_own Haltcnt = true
is_own _ = false

-- the first of the units that are due, where geometry is due when it is told
unfoldable pub first_with : Option Tick → IoState → Option Due
first_with geometry u = first_from 1 (dues_with geometry u)

-- a register is video's, the maths unit's, geometry's or the card's
abbrev pub is_of_unit : Register → Bool
is_of_unit DisplayHalf = true
is_of_unit DisplayWord = true
is_of_unit Vramcnt = true
is_of_unit Vramstat = true
is_of_unit Divcnt = true
is_of_unit DivNumer = true
is_of_unit DivDenom = true
is_of_unit DivResult = true
is_of_unit DivremResult = true
is_of_unit Sqrtcnt = true
is_of_unit SqrtResult = true
is_of_unit SqrtParam = true
is_of_unit GxWord = true
is_of_unit GxCommand = true
is_of_unit Auxspicnt = true
is_of_unit CardWord = true
is_of_unit CardData = true
is_of_unit _ = false

-- a register is geometry's: a write of it changes geometry alone
abbrev pub is_of_geometry : Register → Bool
is_of_geometry GxWord = true
is_of_geometry GxCommand = true
is_of_geometry _ = false
