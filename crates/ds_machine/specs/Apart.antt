use Rattle.std.specs.Prelude.{ℕ, ◌≢◌, List}
use Rattle.ds_base.specs.declared.processors.Proc.TheVariants.{Nine}
use Rattle.ds_runs.specs.declared.actors.Actor as actor
use Rattle.ds_runs.specs.declared.actors.Actor.TheVariants.{Processor}
use Rattle.ds_map.specs.ShareLaws.{SharedPart, shared_of, shared_put, shares_put}
use Rattle.ds_machine.specs.Hearing.{Fences}
use Rattle.ds_machine.specs.States.{MachineState, NineState, SevenState}

-- A processor's own part, which that processor and its DMA channels alone reach: the channels for the tick at which it is due, and for the memories
-- that are not the other's. The display reads palettes and OAM, and geometry moves ARM9's due tick at the end of a stall. No public clause speaks of
-- these: what each actor touches is told by the table in Touched.antt.

-- what ARM9, its channels, geometry and the display alone reach: its own part, palettes and OAM
pub record NinePart : Type 0 where
  pub nine : NineState
  pub palette : List ℕ
  pub oam : List ℕ

abbrev pub with_nine_part : NinePart → MachineState → MachineState
with_nine_part own s = record s { nine = own.nine; palette = own.palette; oam = own.oam }

-- what ARM7 and its channels alone reach: its own part, with its work RAM
abbrev pub with_seven_part : SevenState → MachineState → MachineState
with_seven_part own s = record s { seven = own }

-- ---- what ARM9 and its channels alone reach by the present map: also its bytes of shared work RAM and of video memory, and how those are shared out

pub record NineOwn : Type 0 where
  pub part : NinePart
  pub share : SharedPart

abbrev pub with_nine_own : NineOwn → MachineState → MachineState
with_nine_own own s = with_nine_part own.part (record s { shared = shared_put own.share s.shared; io = shares_put own.share s.io })

abbrev pub nine_own_of : MachineState → NineOwn
nine_own_of s = record { part = record { nine = s.nine; palette = s.palette; oam = s.oam }; share = shared_of s.shared s.io }

-- the actors outside ARM9's fence
abbrev pub IsOutside : actor.Actor → MachineState → Type 0
IsOutside a s = (a ≢ Processor Nine) × (Fences a Nine s → ⊥)
