use Rattle.ds_machine.proofs.Words.{Access, Bool, Dma, Dtcm, Fetch, FindsRoom, HasRoom, HasSoundParts, Instr, IoState, IsFree, IsFreeFor, Itcm, List}
use Rattle.ds_machine.proofs.Words.{MachineState, MapState, Meaning, Nine, NineReach, None, Operation, Option, Past, Performed, Proc, Processor, Read}
use Rattle.ds_machine.proofs.Words.{RefusesNoneInRam, RegisterState, Setting, Seven, Some, Stop, Tcm, Tick, V5, Width, Write, [], ap, arith, arm9}
use Rattle.ds_machine.proofs.Words.{blocks_processor, carried_out, channel_due, concluded, condition_of, due_by, due_then, executed_unless}
use Rattle.ds_machine.proofs.Words.{executed_word, false, guarded_memory, holds, if◌then◌else◌, io_due, is_blocked, is_guarded, is_stalled}
use Rattle.ds_machine.proofs.Words.{map_refusal, meaning, most_entries, move_of, nat_lt, nine_executed, nine_memory, nine_refusal, nine_written}
use Rattle.ds_machine.proofs.Words.{operation_meaning, or_parts, perform, processor_of, refl, refused_or, room_meets_none, skipped, stop_of}
use Rattle.ds_machine.proofs.Words.{tcm_guarded_refusal, tcm_of, tcm_refusal, true, undefined_meaning, vectors_of, waiting_entries, with_value, ℕ}
use Rattle.ds_machine.proofs.Words.{◌-◌, ◌∙◌, ◌∷◌, ◌≡◌, ◌≤◌}
use Rattle.ds_ports.specs.Guards.{is_overfull}
use Rattle.ds_machine.proofs.FewAccesses.{operations_are_short}
use Rattle.ds_machine.proofs.RamAccesses.{nine_refuses_none}
use Rattle.ds_machine.proofs.Rooms.{due_unstalled, few_have_room, instructions_find_room}

-- ARM9's bus, which ignores a write for want of room, is as the reference has it wherever accesses find room: and so they do in the machine.

-- ---- accesses

is_within : (n : ℕ) → n ≤ most_entries - 4 → nat_lt (most_entries - 4) n ≡ false
is_within n h = grind (arith, h)

pub unguarded : (m : MapState) (at : ℕ) → HasRoom m → is_guarded Nine m at ≡ false
unguarded m at h = room_meets_none Nine m at (is_within (waiting_entries m.io.gx) h)

same_performed : (accesses : List Access) (r : NineReach) → FindsRoom accesses r → perform guarded_memory r accesses ≡ perform nine_memory r accesses
same_performed [] r h = refl
same_performed (Fetch at width ∷ rest) r h = ap (with_value (nine_memory.fetch_value r at width)) (same_performed rest r h.1)
same_performed (Read at width ∷ rest) r h =
    ap (with_value (nine_memory.read_value r at width)) (same_performed rest (nine_memory.read_next r at width) h.1)
same_performed (Write at width value ∷ rest) r h =
    let next : NineReach = nine_memory.write_next r at width value in
    let free : is_guarded Nine r.map at ≡ false = unguarded r.map at h.0 in
    let left : NineReach → Performed NineReach = λ x. refused_or (guarded_memory.refusal r at width value) x (perform guarded_memory x rest) in
    ap left (nine_written r at width value free)
    ∙ ap (λ (stop : Option Stop). refused_or stop next (perform guarded_memory next rest)) (nine_refusal r at width value free)
    ∙ ap (refused_or (nine_memory.refusal r at width value) next) (same_performed rest next h.1)

-- ---- what is executed

module _ (s : RegisterState) (r : NineReach) where
  same_carried : (m : Meaning) → FindsRoom m.accesses r → carried_out guarded_memory V5 s r m ≡ carried_out nine_memory V5 s r m
  same_carried m h = ap (λ (done : Performed NineReach). concluded V5 s m done done.stop) (same_performed m.accesses r h)

  same_skipped : (base : ℕ) (b : Bool)
      → carried_out guarded_memory V5 s r (if b then undefined_meaning base s else skipped s)
      ≡ carried_out nine_memory V5 s r (if b then undefined_meaning base s else skipped s)
  same_skipped base true = refl
  same_skipped base false = refl

  same_unless : (instr : Instr) (stop : Option Stop) → IsFree r.map.io.gx
      → executed_unless guarded_memory (arm9 r.cp15) s r instr stop ≡ executed_unless nine_memory (arm9 r.cp15) s r instr stop
  same_unless instr None free =
      let base = (arm9 r.cp15).base in
      same_carried (meaning V5 base s instr) (instructions_find_room V5 base s instr r free.waiting free.unstalled)
  same_unless instr (Some stop) free = refl

  pub same_executed : (number : ℕ) (instr : Option Instr) → IsFree r.map.io.gx
      → executed_word guarded_memory (arm9 r.cp15) s r number instr ≡ executed_word nine_memory (arm9 r.cp15) s r number instr
  same_executed number None free = same_skipped (arm9 r.cp15).base (holds (condition_of number) s.cpsr)
  same_executed number (Some instr) free = same_unless instr (stop_of (arm9 r.cp15) s instr) free

  -- as the code executes it that is no move to or from CP15
  pub same_word : (number : ℕ) (instr : Option Instr) (base : ℕ) (rom : Bool) → IsFree r.map.io.gx → move_of instr ≡ None → base ≡ vectors_of r.cp15
      → rom ≡ (arm9 r.cp15).in_rom
      → (let setting : Setting = record { arch = V5; base = base; in_rom = rom } in executed_word guarded_memory setting s r number instr)
      ≡ nine_executed s r number instr (move_of instr)
  same_word number instr base rom free none b i = rw (none, b, i) (same_executed number instr free)

  pub same_operation : (operation : Operation) → IsFree r.map.io.gx
      → carried_out guarded_memory V5 s r (operation_meaning V5 s operation) ≡ carried_out nine_memory V5 s r (operation_meaning V5 s operation)
  same_operation operation free =
      let m = operation_meaning V5 s operation in
      same_carried m (few_have_room m.accesses r (operations_are_short V5 s operation) free.waiting free.unstalled).0

-- it refuses no write of RAM either
either_none : (b : Bool) (stop : Option Stop) → stop ≡ None → (let none : Option Stop = None in if b then none else stop) ≡ None
either_none true stop h = refl
either_none false stop h = h

guarded_refuses : (t : Tcm) (r : NineReach) (at : ℕ) (width : Width) (value : ℕ) → tcm_refusal t r at width value ≡ None → tcm_guarded_refusal t r at width value ≡ None
guarded_refuses (Itcm place) r at width value h = h
guarded_refuses (Dtcm place) r at width value h = h
guarded_refuses Past r at width value h = either_none (is_guarded Nine r.map at) (map_refusal Nine r.map at width value) h

pub guarded_refuses_none : RefusesNoneInRam guarded_memory
guarded_refuses_none r at width value ram = guarded_refuses (tcm_of r.cp15 at true false) r at width value (nine_refuses_none r at width value ram)

-- ---- in the machine: ARM9 isn't blocked at its step, and what waits is as it can be

pub free_for : (proc : Proc) (s : MachineState) → HasSoundParts s → is_blocked s proc ≡ false → IsFreeFor proc s
free_for Nine s sound free = record { waiting = sound.io.gx; unstalled = (or_parts (blocks_processor s.io.nine) (is_stalled s.io.gx) free).1 }
free_for Seven s sound free = tt

pub free_then : (proc : Proc) (tick : Tick) (s : MachineState) → HasSoundParts s → due_by (Processor proc) s ≡ Some tick → IsFreeFor proc s
free_then proc tick s sound due = free_for proc s sound (due_then (is_blocked s proc) (processor_of s proc) tick due).0

-- nor does a stall hold a channel that is due
is_less : (n : ℕ) → nat_lt 260 n ≡ false → nat_lt (most_entries - 4) n ≡ false
is_less n h = grind (arith, h)

pub channel_has_room : (proc : Proc) (channel : ℕ) (now : Tick) (u : IoState) → io_due (Dma proc channel) u ≡ Some now → is_overfull proc u ≡ false
channel_has_room Nine channel now u due =
    is_less (waiting_entries u.gx) (due_unstalled (is_stalled u.gx) u.released (channel_due u.nine.dma channel) now due)
channel_has_room Seven channel now u due = refl
