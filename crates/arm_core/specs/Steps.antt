use Rattle.std.specs.Prelude.{ℕ, ◌/◌, ◌%◌, ◌^◌, ◌==◌, Bool, ◌&&◌, ◌||◌, not, if◌then◌else◌, Option, Some, None}
use Rattle.ds_base.specs.Accesses.{MemoryMachine}
use Rattle.ds_base.specs.Bits.{bit}
use Rattle.ds_base.specs.declared.processors.Arch.{Arch}
use Rattle.ds_base.specs.declared.memories.Width.TheVariants.{Half, Word}
use Rattle.ds_base.specs.declared.left_out.Stop.{Stop}
use Rattle.ds_base.specs.declared.left_out.LeftKind.TheVariants as left
use Rattle.arm_words.specs.Parts.{condition_of}
use Rattle.arm_words.specs.ArmTable.{decoded_arm}
use Rattle.arm_words.specs.ThumbTable.{decoded_thumb}
use Rattle.arm_words.specs.declared.instructions.Instr.{Instr}
use Rattle.arm_words.specs.declared.instructions.Instr.TheVariants.{Swi, ThumbSwi}
use Rattle.arm_core.specs.Registers.{RegisterState, is_thumb}
use Rattle.arm_core.specs.Conditions.{holds}
use Rattle.arm_core.specs.Effects.{Outcome, carried_out}
use Rattle.arm_core.specs.Exceptions.{undefined_meaning, interrupt_meaning}
use Rattle.arm_core.specs.Meanings.{condition, meaning, skipped}
use Rattle.arm_core.specs.declared.outcomes.Stepped.TheVariants.{Left}

-- A processor's step on a memory machine.

-- what tells the two processors apart: the architecture; the base of the vectors; and whether that of SWI lies in the boot ROM, of whose
-- functions only some are there (GBATEK, "BIOS Functions"; our choice of which)
pub record Setting : Type 0 where
  pub arch : Arch
  pub base : ℕ
  pub in_rom : Bool

-- the functions of the boot ROM that are there
abbrev pub is_served : ℕ → Bool
is_served n = (n == 0x03 || (n == 0x04 || (n == 0x05 || (n == 0x06 || (n == 0x09 || n == 0x0B)))))

abbrev pub unserved : ℕ → Option Stop
unserved n = if is_served n then None else Some (record { kind = left.Swi; value = n })

-- the stop that a SWI into the boot ROM needs, if it does; its number is bits 23 to 16, in Thumb state bits 7 to 0
abbrev pub swi_stop : Instr → Option Stop
swi_stop (Swi cond immed) = unserved (immed / 2 ^ 16)
swi_stop (ThumbSwi immed) = unserved immed
swi_stop _ = None

-- the stop that an instruction needs before it makes an access, if it does
abbrev pub stop_of : Setting → RegisterState → Instr → Option Stop
stop_of setting s instr = if setting.in_rom && holds (condition instr) s.cpsr then swi_stop instr else None

abbrev pub executed_unless : {S : Type 0} → MemoryMachine S → Setting → RegisterState → S → Instr → Option Stop → Outcome S
executed_unless memory setting s state instr (Some stop) = record { registers = s; state = state; stepped = Left stop }
executed_unless memory setting s state instr None =
    carried_out memory setting.arch s state (meaning setting.arch setting.base s instr)

-- an instruction is executed
abbrev pub executed : {S : Type 0} → MemoryMachine S → Setting → RegisterState → S → Instr → Outcome S
executed memory setting s state instr = executed_unless memory setting s state instr (stop_of setting s instr)

-- a word or half without an instruction is undefined; a word takes effect where its condition holds, or is 1111
abbrev pub executed_word : {S : Type 0} → MemoryMachine S → Setting → RegisterState → S → ℕ → Option Instr → Outcome S
executed_word memory setting s state number (Some instr) = executed memory setting s state instr
executed_word memory setting s state number None =
    carried_out memory setting.arch s state (if holds (condition_of number) s.cpsr then undefined_meaning setting.base s else skipped s)

-- what a fetch comes to: the number of the condition under which what was fetched takes effect, its instruction, if it has one, and the
-- memory machine's state after it
pub record FetchOutcome (S : Type 0) : Type 0 where
  pub number : ℕ
  pub instr : Option Instr
  pub state : S

-- a word is fetched at r15, in Thumb state a half, which always takes effect
abbrev pub fetched_word : {S : Type 0} → MemoryMachine S → Arch → RegisterState → S → FetchOutcome S
fetched_word memory arch s state =
    let word = memory.fetch_value state s.pc Word in
    record { number = word / 2 ^ 28; instr = decoded_arm arch word; state = memory.fetch_next state s.pc Word }

abbrev pub fetched_half : {S : Type 0} → MemoryMachine S → Arch → RegisterState → S → FetchOutcome S
fetched_half memory arch s state =
    let half = memory.fetch_value state s.pc Half % 2 ^ 16 in
    record { number = 14; instr = decoded_thumb arch half; state = memory.fetch_next state s.pc Half }

abbrev pub fetched : {S : Type 0} → MemoryMachine S → Arch → RegisterState → S → FetchOutcome S
fetched memory arch s state = if is_thumb s then fetched_half memory arch s state else fetched_word memory arch s state

-- the interrupt is entered: its line is up and I is clear (ARM manual, A2.6 "Exceptions")
abbrev pub enters : Bool → RegisterState → Bool
enters line s = line && not (bit 7 s.cpsr)

-- a step: the interrupt's entry, or what is fetched
abbrev pub step_of : {S : Type 0} → MemoryMachine S → Setting → Bool → RegisterState → S → Outcome S
step_of memory setting line s state =
    if enters line s then carried_out memory setting.arch s state (interrupt_meaning setting.base s)
    else let f = fetched memory setting.arch s state in executed_word memory setting s f.state f.number f.instr
