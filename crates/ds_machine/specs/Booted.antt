use Rattle.std.specs.Prelude.{ℕ, List, [], ◌∷◌, take}
use Rattle.ds_base.specs.Memories.{memory_size}
use Rattle.ds_base.specs.Numbers.{zeroes}
use Rattle.ds_base.specs.declared.memories.Memory.TheVariants.{Main, Shared, Own7, Itcm, Dtcm, Palette, Oam}
use Rattle.ds_base.specs.declared.keys.KeyLine.{KeyLine}
use Rattle.ds_base.specs.declared.processors.Proc.{Proc}
use Rattle.ds_base.specs.declared.processors.Proc.TheVariants.{Nine, Seven}
use Rattle.arm_core.specs.Cores as cores
use Rattle.cp15_tcm.specs.Registers.{cp15_at_boot}
use Rattle.ds_header.specs.Fields.{image_place, image_entry, image_of}
use Rattle.ds_ports.specs.Io.{io_at_boot}
use Rattle.ds_machine.specs.Boots.{copied}
use Rattle.ds_machine.specs.States.{MachineState, ProcessorState}

-- The boot state (our choice of a direct boot).

-- the header's first bytes, and where they are left in main memory (GBATEK, "DS Cartridge Header")
abbrev pub header_bytes : ℕ
header_bytes = 0x170

abbrev pub header_place : ℕ
header_place = 0x27FFE00

-- the header is left in main memory
abbrev pub with_header : MachineState → List ℕ → MachineState
with_header s file = copied Nine s header_place (take header_bytes file)

-- and the image of a processor in memory
abbrev pub with_image : Proc → MachineState → List ℕ → MachineState
with_image proc s file = copied proc s (image_place file proc) (image_of file proc)

-- the stacks of System, IRQ and Supervisor mode
abbrev pub stacks_of : Proc → List ℕ
stacks_of Nine = 0x03002F7C ∷ 0x03003F80 ∷ 0x03003FC0 ∷ []
stacks_of Seven = 0x0380FD80 ∷ 0x0380FF80 ∷ 0x0380FFC0 ∷ []

-- a processor: it is due at once
abbrev pub processor_booted : Proc → List ℕ → ProcessorState
processor_booted proc file = record { registers = cores.booted (image_entry file proc) (stacks_of proc); due = 0; steps = 0 }

-- the machine before anything is copied, from the cartridge's file and the lines of the key script: all memories are zeros
abbrev pub machine_blank : List ℕ → List KeyLine → MachineState
machine_blank file keys = record {
  nine = record { processor = processor_booted Nine file; cp15 = cp15_at_boot; itcm = zeroes (memory_size Itcm); dtcm = zeroes (memory_size Dtcm) };
  seven = record { processor = processor_booted Seven file; wram = zeroes (memory_size Own7) };
  main = zeroes (memory_size Main);
  shared = zeroes (memory_size Shared);
  palette = zeroes (memory_size Palette);
  oam = zeroes (memory_size Oam);
  io = io_at_boot;
  keys = keys;
  events = 0;
  file = file;
}

-- the boot state: ARM9's image is copied first, then ARM7's, then the header
abbrev pub machine_booted : List ℕ → List KeyLine → MachineState
machine_booted file keys = with_header (with_image Seven (with_image Nine (machine_blank file keys) file) file) file
