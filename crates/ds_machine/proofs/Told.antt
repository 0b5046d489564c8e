use Rattle.ds_machine.proofs.Words.{Bool, Cost, Dma, DmaUnit, Halted, IrqState, IsTold, IsUnchanged, Left, LeftOut, MachineState, MachineStep, Nine}
use Rattle.ds_machine.proofs.Words.{None, Option, Proc, Processor, ProcessorIoState, RegisterState, Seven, Shown, Some, Stop, Tick, and_false, ap}
use Rattle.ds_machine.proofs.Words.{arith, bit, bit_and, bit_or, bits, channel_step, enters, equal, false, hears_nobody, io_of, ipc_bits, left_by}
use Rattle.ds_machine.proofs.Words.{line_is_up, machine_concluded, map_after_unit, map_of, moved_by, next_unit, not, other_proc, refl, step_by, subst}
use Rattle.ds_machine.proofs.Words.{sym, true, unit_refusal, with_map, ℕ, ◌%◌, ◌&&◌, ◌*◌, ◌+◌, ◌-◌, ◌/◌, ◌==◌, ◌^◌, ◌||◌, ◌∙◌, ◌≡◌}
use Rattle.std.proofs.lemmas.Nat.{and_or_apart, and_comm, and_mask}
use Rattle.std.specs.Int.Bits.{and_block, and_zero_l}
use Rattle.arm_core.specs.declared.outcomes.Stepped as arm
use Rattle.ds_machine.proofs.ChannelEvents.{read_left, unit_other, unit_told}
use Rattle.ds_machine.proofs.MachineSchedule.{Steps, channel_timers, operation}
use Rattle.ds_machine.proofs.ProcessorSteps.{came_by, goes, reached_by}

-- What a processor is told by the other's steps, and by those of its channels: IPC interrupts, and nothing else. One that hears nobody goes on by it as before.

-- ---- a line that is down stays down

-- IE has none of the IPC interrupts
none_enabled : (ie : ℕ) → bits 16 3 ie ≡ 0 → bit_and ipc_bits ie ≡ 0
none_enabled ie h =
    let split : ie ≡ ie / 2 ^ 16 * 2 ^ 16 + ie % 2 ^ 16 = omega arith in
    and_comm ipc_bits ie
    ∙ ap (λ (word : ℕ). bit_and word ((2 ^ 3 - 1) * 2 ^ 16 + 0)) split
    ∙ and_block 16 (ie / 2 ^ 16) (2 ^ 3 - 1) (ie % 2 ^ 16) 0 (omega arith) (omega arith)
    ∙ (let field = and_mask (ie / 2 ^ 16) 3 in let rest = and_comm (ie % 2 ^ 16) 0 in omega (arith, field, rest, h, and_zero_l (ie % 2 ^ 16)))

-- words that are the same but for bits of which IE has none share the same with it
shared_stays : (ie old new some : ℕ) → bit_and some ie ≡ 0 → bit_or new some ≡ bit_or old some → bit_and ie new ≡ bit_and ie old
shared_stays ie old new some none same =
    and_comm ie new ∙ sym (and_or_apart ie new some none) ∙ ap (λ (word : ℕ). bit_and word ie) same ∙ and_or_apart ie old some none ∙ and_comm old ie

pub line_stays : (old new : IrqState) → bits 16 3 old.ie ≡ 0 → IsTold old new → line_is_up new ≡ line_is_up old
line_stays old new none told =
    let shared : bit_and new.ie new.if_ ≡ bit_and old.ie old.if_ =
    ap (λ (ie : ℕ). bit_and ie new.if_) told.ie ∙ shared_stays old.ie old.if_ new.if_ ipc_bits (none_enabled old.ie none) told.if_ in
    rw (told.ime, shared) refl

-- and it is down where IME is 0
pub line_stays_off : (old new : IrqState) → old.ime ≡ false → IsTold old new → line_is_up new ≡ false
line_stays_off old new off told = rw (told.ime, off) refl

-- by whether the I flag is set
stays_down : (masked : Bool) (old new : IrqState) → (masked || (not old.ime || bits 16 3 old.ie == 0)) ≡ true → (line_is_up old && not masked) ≡ false → IsTold old new
    → (line_is_up new && not masked) ≡ false
stays_down true old new deaf down told = and_false (line_is_up new)
stays_down false old new deaf down told = by_ime old.ime refl deaf where
  by_ime : (ime : Bool) → old.ime ≡ ime → (not ime || bits 16 3 old.ie == 0) ≡ true → (line_is_up new && true) ≡ false
  by_ime true e none = ap (λ (up : Bool). up && true) (line_stays old new (equal (bits 16 3 old.ie) 0 none) told) ∙ down
  by_ime false e none = ap (λ (up : Bool). up && true) (line_stays_off old new e told)

-- so one that hears nobody enters no interrupt for what it is told, and hears nobody still
pub quiet_stays : (s : RegisterState) (old new : IrqState) → hears_nobody s old ≡ true → enters (line_is_up old) s ≡ false → IsTold old new
    → (enters (line_is_up new) s ≡ false) × (hears_nobody s new ≡ true)
quiet_stays s old new deaf down told = (stays_down (bit 7 s.cpsr) old new deaf down told, rw (told.ime, told.ie) deaf)

-- ---- what a step of the other leaves, taken or not

-- a processor's own behind the ports is as it was, but that it was told
pub record IsOnlyTold (old new : ProcessorIoState) : Type 0 where
  pub own : IsUnchanged old new
  pub told : IsTold old.irq new.irq

concluded_other : (rank : ℕ) (proc : Proc) (m : MachineState) (came : arm.Stepped)
    → (let step : MachineStep MachineState Shown LeftOut = machine_concluded rank proc m came in io_of (left_by step).io (other_proc proc)) ≡ io_of m.io (other_proc proc)
concluded_other rank Nine m (Cost clocks) = refl
concluded_other rank Seven m (Cost clocks) = refl
concluded_other rank Nine m (Halted clocks) = refl
concluded_other rank Seven m (Halted clocks) = refl
concluded_other rank proc m (Left stop) = refl

pub step_tells : (rank : ℕ) (proc : Proc) (tick : Tick) (s : MachineState) → Steps (Processor proc) rank tick s
    → IsOnlyTold (io_of s.io (other_proc proc)) (io_of (left_by (step_by rank (Processor proc) s)).io (other_proc proc))
step_tells rank proc tick s st =
    let g = goes proc tick s (operation proc rank tick s st) in
    subst (IsOnlyTold (io_of s.io (other_proc proc))) (sym (concluded_other rank proc (reached_by proc s) (came_by proc s))) (record { own = g.other; told = g.told })

-- and one of a channel of the other
pub channel_tells : (rank : ℕ) (proc : Proc) (channel : ℕ) (tick : Tick) (s : MachineState) → Steps (Dma proc channel) rank tick s
    → IsOnlyTold (io_of s.io (other_proc proc)) (io_of (left_by (step_by rank (Dma proc channel) s)).io (other_proc proc))
channel_tells rank proc channel tick s st =
    let unit = next_unit s.io proc in
    subst
    (λ (due : Option Tick). (let step : MachineStep MachineState Shown LeftOut = channel_step rank proc due s in
    IsOnlyTold (io_of s.io (other_proc proc)) (io_of (left_by step).io (other_proc proc))))
    (sym st.due) (by_refusal unit (unit_refusal proc tick unit (map_of proc s))) where
      by_refusal : (unit : DmaUnit) (refusal : Option Stop)
          → (let step : MachineStep MachineState Shown LeftOut = moved_by rank proc tick refusal (with_map proc s (map_after_unit refusal proc tick unit (map_of proc s))) in
          IsOnlyTold (io_of s.io (other_proc proc)) (io_of (left_by step).io (other_proc proc)))
      by_refusal unit None =
          let timers = channel_timers proc channel rank tick s st in record {
            own = unit_other proc channel tick unit s st.sound st.numbered st.due timers;
            told = unit_told proc channel tick unit s st.sound st.numbered st.due timers;
          }
      by_refusal unit (Some stop) = let left = read_left proc tick unit s in record { own = left.processor_io (other_proc proc); told = left.told }
