use Rattle.std.specs.Prelude.{◌≡◌, Bool}
use Rattle.arm_core.specs.Effects.{Outcome}
use Rattle.arm_core.specs.Registers.{RegisterState}
use Rattle.arm7_exec.specs.Arm7.{step7_of}
use Rattle.arm9_exec.specs.Arm9.{Outcome9, step9_of}
use Rattle.ds_map.specs.Views.{NineReach, SevenReach, nine_memory, seven_memory}
use Rattle.ds_machine.specs.PrivateSides.{nine_side, seven_side, side_taken}

-- A processor's step is that of its own crate.

-- ARM9's, with CP15 in what it reaches
abbrev pub with_cp15 : Outcome9 NineReach → Outcome NineReach
with_cp15 o = record { registers = o.registers; state = record o.state { cp15 = o.cp }; stepped = o.stepped }

abbrev pub IsStep9 : Type 0
IsStep9 =
    (line : Bool) (s : RegisterState) (r : NineReach) → side_taken nine_memory nine_side line s r ≡ with_cp15 (step9_of nine_memory line s r.cp15 r)

abbrev pub IsStep7 : Type 0
IsStep7 = (line : Bool) (s : RegisterState) (r : SevenReach) → side_taken seven_memory seven_side line s r ≡ step7_of seven_memory line s r
