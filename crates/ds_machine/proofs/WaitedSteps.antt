use Rattle.ds_machine.proofs.Words.{Access, Arch, Bool, Coprocessor, Fetch, FindsRoom, Instr, IsFree, List, Meaning, MemoryMachine, Moved, NineReach}
use Rattle.ds_machine.proofs.Words.{None, Operation, Option, Outcome, Performed, Read, RefusesNoneInRam, RegisterState, Setting, SevenReach, Some}
use Rattle.ds_machine.proofs.Words.{Stop, Swi, ThumbSwi, V4, V5, Waited, Write, [], act, ap, arith, arm7, arm9, carried_out, concluded, condition}
use Rattle.ds_machine.proofs.Words.{condition_of, data_accesses, equivalent, executed_unless, executed_word, false, guarded_memory, holds}
use Rattle.ds_machine.proofs.Words.{if◌then◌else◌, length, meaning, move_of, nine_executed, nine_memory, nine_most, nine_refusal, nine_wait}
use Rattle.ds_machine.proofs.Words.{nine_written, none-some, operation_meaning, perform, performed_so, performed_waited, refl, seven_memory}
use Rattle.ds_machine.proofs.Words.{seven_most, seven_wait, skipped, stop_of, suc, swi_stop, sym, true, undefined_meaning, unless_refused, vectors_of}
use Rattle.ds_machine.proofs.Words.{waited_so, waiting, waits_most, waits_of, zero, ℕ, ◌%◌, ◌+◌, ◌<◌, ◌^◌, ◌∙◌, ◌∷◌, ◌≡◌, ◌≤◌}
use Rattle.ds_machine.proofs.FewAccesses.{instructions_are_short, operations_are_short}
use Rattle.ds_machine.proofs.GuardedSteps.{guarded_refuses_none, same_executed, same_operation, unguarded}
use Rattle.ds_machine.proofs.RamAccesses.{seven_refuses_none}
use Rattle.ds_machine.proofs.Rooms.{few_have_room, instructions_find_room}

-- A step over a bus that adds up how long its accesses wait comes to the same as over one that doesn't, and adds up exactly those waits.

-- a step's outcome, with so many waits added up
abbrev pub outcome_waited : {S : Type 0} → Outcome S → ℕ → Outcome (Waited S)
outcome_waited o waits = record { registers = o.registers; state = waited_so o.state waits; stepped = o.stepped }

concluded_waited : {S : Type 0} (arch : Arch) (old : RegisterState) (m : Meaning) (p : Performed S) (waits : ℕ) (stop : Option Stop)
    → concluded arch old m (performed_waited p waits) stop ≡ outcome_waited (concluded arch old m p stop) waits
concluded_waited arch old m p waits None = refl
concluded_waited arch old m p waits (Some stop) = refl

none_yet : (w : ℕ) → w ≤ 128 → (0 + w) % 2 ^ 32 ≡ w
none_yet w h = omega (arith, h)

-- ---- what is left out before an access is made makes none

module _ (arch : Arch) (base : ℕ) (s : RegisterState) where
  one_or_none : (b : Bool) (m : Meaning) → m.accesses ≡ [] → (if b then m else skipped s).accesses ≡ []
  one_or_none true m h = h
  one_or_none false m h = refl

  stops_make_none : (instr : Instr) (stop : Stop) → swi_stop instr ≡ Some stop → (meaning arch base s instr).accesses ≡ []
  stops_make_none (Swi cond immed) stop e = one_or_none (holds cond s.cpsr) (act arch base s (equivalent (Swi cond immed))) refl
  stops_make_none (ThumbSwi immed) stop e = one_or_none (holds (condition (ThumbSwi immed)) s.cpsr) (act arch base s (equivalent (ThumbSwi immed))) refl
  stops_make_none instr stop e = absurd (none-some stop e)

  -- nor does a move to or from CP15
  moves_make_none : (instr : Option Instr) (move : Moved) → move_of instr ≡ Some move → data_accesses arch base s instr ≡ []
  moves_make_none (Some (Coprocessor cond load op1 crn rd cp op2 crm)) move e =
      one_or_none (holds cond s.cpsr) (act arch base s (equivalent (Coprocessor cond load op1 crn rd cp op2 crm))) refl
  moves_make_none (Some instr) move e = absurd (none-some move e)
  moves_make_none None move e = absurd (none-some move e)

left_if : (b : Bool) (one : Option Stop) (stop : Stop) → (let none : Option Stop = None in if b then one else none) ≡ Some stop → one ≡ Some stop
left_if true one stop e = e
left_if false one stop e = absurd (none-some stop e)

-- ---- what is executed, where waits are added up from 0

module _ {S : Type 0} (m : MemoryMachine S) (wait : S → Access → ℕ) (most : (s : S) (access : Access) → wait s access ≤ 8) where
  pub few_wait : (accesses : List Access) (r : S) → length accesses ≤ 16 → waits_of m wait r accesses ≤ 128
  few_wait accesses r few = omega (arith, few, waits_most m wait most accesses r)

  pub carried_waited : (arch : Arch) (s : RegisterState) (r : S) (meant : Meaning) → length meant.accesses ≤ 16
      → carried_out (waiting m wait) arch s (waited_so r 0) meant ≡ outcome_waited (carried_out m arch s r meant) (waits_of m wait r meant.accesses)
  carried_waited arch s r meant few =
      let done = perform m r meant.accesses in
      let w = waits_of m wait r meant.accesses in
      ap (λ (p : Performed (Waited S)). concluded arch s meant p p.stop) (performed_so m wait meant.accesses r 0 (omega arith))
      ∙ concluded_waited arch s meant done ((0 + w) % 2 ^ 32) done.stop
      ∙ ap (outcome_waited (concluded arch s meant done done.stop)) (none_yet w (few_wait meant.accesses r few))

  skipped_waited : (arch : Arch) (s : RegisterState) (r : S) (base : ℕ) (b : Bool)
      → (let meant : Meaning = if b then undefined_meaning base s else skipped s in carried_out (waiting m wait) arch s (waited_so r 0) meant
      ≡ outcome_waited (carried_out m arch s r meant) 0)
  skipped_waited arch s r base true = refl
  skipped_waited arch s r base false = refl

  unless_waited : (setting : Setting) (s : RegisterState) (r : S) (instr : Instr) (stop : Option Stop)
      → ((why : Stop) → stop ≡ Some why → (meaning setting.arch setting.base s instr).accesses ≡ [])
      → executed_unless (waiting m wait) setting s (waited_so r 0) instr stop
      ≡ outcome_waited (executed_unless m setting s r instr stop) (waits_of m wait r (meaning setting.arch setting.base s instr).accesses)
  unless_waited setting s r instr None none =
      carried_waited setting.arch s r (meaning setting.arch setting.base s instr) (instructions_are_short setting.arch setting.base s instr)
  unless_waited setting s r instr (Some why) none =
      ap (λ (accesses : List Access). outcome_waited (executed_unless m setting s r instr (Some why)) (waits_of m wait r accesses)) (sym (none why refl))

  pub word_waited : (setting : Setting) (s : RegisterState) (r : S) (number : ℕ) (instr : Option Instr)
      → executed_word (waiting m wait) setting s (waited_so r 0) number instr
      ≡ outcome_waited (executed_word m setting s r number instr) (waits_of m wait r (data_accesses setting.arch setting.base s instr))
  word_waited setting s r number None = skipped_waited setting.arch s r setting.base (holds (condition_of number) s.cpsr)
  word_waited setting s r number (Some instr) =
      unless_waited setting s r instr (stop_of setting s instr)
      (λ why e. stops_make_none setting.arch setting.base s instr why (left_if _ (swi_stop instr) why e))

  pub operation_waited : (arch : Arch) (s : RegisterState) (r : S) (operation : Operation)
      → carried_out (waiting m wait) arch s (waited_so r 0) (operation_meaning arch s operation)
      ≡ outcome_waited (carried_out m arch s r (operation_meaning arch s operation)) (waits_of m wait r (operation_meaning arch s operation).accesses)
  operation_waited arch s r operation = carried_waited arch s r (operation_meaning arch s operation) (operations_are_short arch s operation)

  pub operation_brief : (arch : Arch) (s : RegisterState) (r : S) (operation : Operation) → waits_of m wait r (operation_meaning arch s operation).accesses ≤ 128
  operation_brief arch s r operation = few_wait (operation_meaning arch s operation).accesses r (operations_are_short arch s operation)

  pub word_brief : (arch : Arch) (base : ℕ) (s : RegisterState) (r : S) (instr : Option Instr) → waits_of m wait r (data_accesses arch base s instr) ≤ 128
  word_brief arch base s r None = omega arith
  word_brief arch base s r (Some instr) = few_wait (meaning arch base s instr).accesses r (instructions_are_short arch base s instr)

-- ---- ARM9's bus, which ignores a write for want of room, waits as the reference does

same_waits : (accesses : List Access) (r : NineReach) → FindsRoom accesses r → waits_of guarded_memory nine_wait r accesses ≡ waits_of nine_memory nine_wait r accesses
same_waits [] r h = refl
same_waits (Fetch at width ∷ rest) r h = ap (λ (n : ℕ). nine_wait r (Fetch at width) + n) (same_waits rest r h.1)
same_waits (Read at width ∷ rest) r h = ap (λ (n : ℕ). nine_wait r (Read at width) + n) (same_waits rest (nine_memory.read_next r at width) h.1)
same_waits (Write at width value ∷ rest) r h =
    let first = nine_wait r (Write at width value) in
    let next : NineReach = nine_memory.write_next r at width value in
    let free = unguarded r.map at h.0 in
    ap (λ (x : NineReach). first + unless_refused (guarded_memory.refusal r at width value) (waits_of guarded_memory nine_wait x rest)) (nine_written r at width value free)
    ∙ ap (λ (stop : Option Stop). first + unless_refused stop (waits_of guarded_memory nine_wait next rest)) (nine_refusal r at width value free)
    ∙ ap (λ (n : ℕ). first + unless_refused (nine_memory.refusal r at width value) n) (same_waits rest next h.1)

module _ (s : RegisterState) (r : NineReach) (free : IsFree r.map.io.gx) where
  instr_waits : (base : ℕ) (instr : Option Instr)
      → waits_of guarded_memory nine_wait r (data_accesses V5 base s instr) ≡ waits_of nine_memory nine_wait r (data_accesses V5 base s instr)
  instr_waits base None = refl
  instr_waits base (Some instr) = same_waits (meaning V5 base s instr).accesses r (instructions_find_room V5 base s instr r free.waiting free.unstalled)

  operation_waits : (operation : Operation)
      → waits_of guarded_memory nine_wait r (operation_meaning V5 s operation).accesses ≡ waits_of nine_memory nine_wait r (operation_meaning V5 s operation).accesses
  operation_waits operation =
      let m = operation_meaning V5 s operation in
      same_waits m.accesses r (few_have_room m.accesses r (operations_are_short V5 s operation) free.waiting free.unstalled).0

  -- as the code executes it that is no move to or from CP15
  pub nine_word : (number : ℕ) (instr : Option Instr) (base : ℕ) (rom : Bool) → move_of instr ≡ None → base ≡ vectors_of r.cp15 → rom ≡ (arm9 r.cp15).in_rom
      → (let setting : Setting = record { arch = V5; base = base; in_rom = rom } in executed_word (waiting guarded_memory nine_wait) setting s (waited_so r 0) number instr)
      ≡ outcome_waited (nine_executed s r number instr (move_of instr)) (waits_of nine_memory nine_wait r (data_accesses V5 (vectors_of r.cp15) s instr))
  nine_word number instr base rom none b i =
      rw (none, b, i) (word_waited guarded_memory nine_wait nine_most (arm9 r.cp15) s r number instr
      ∙ ap (outcome_waited (executed_word guarded_memory (arm9 r.cp15) s r number instr)) (instr_waits (vectors_of r.cp15) instr)
      ∙ ap (λ (o : Outcome NineReach). outcome_waited o (waits_of nine_memory nine_wait r (data_accesses V5 (vectors_of r.cp15) s instr))) (same_executed s r number instr free))

  -- and a move makes no access
  pub nine_move : (instr : Option Instr) (move : Moved) → move_of instr ≡ Some move → 0 ≡ waits_of nine_memory nine_wait r (data_accesses V5 (vectors_of r.cp15) s instr)
  nine_move instr move e = ap (waits_of nine_memory nine_wait r) (sym (moves_make_none V5 (vectors_of r.cp15) s instr move e))

  pub nine_operation : (operation : Operation)
      → carried_out (waiting guarded_memory nine_wait) V5 s (waited_so r 0) (operation_meaning V5 s operation)
      ≡ outcome_waited (carried_out nine_memory V5 s r (operation_meaning V5 s operation)) (waits_of nine_memory nine_wait r (operation_meaning V5 s operation).accesses)
  nine_operation operation =
      let meant = operation_meaning V5 s operation in
      operation_waited guarded_memory nine_wait nine_most V5 s r operation
      ∙ ap (outcome_waited (carried_out guarded_memory V5 s r meant)) (operation_waits operation)
      ∙ ap (λ (o : Outcome NineReach). outcome_waited o (waits_of nine_memory nine_wait r meant.accesses)) (same_operation s r operation free)

pub waiting_refuses_none : RefusesNoneInRam (waiting guarded_memory nine_wait)
waiting_refuses_none x at width value ram = guarded_refuses_none x.reached at width value ram

pub seven_waiting_refuses_none : RefusesNoneInRam (waiting seven_memory seven_wait)
seven_waiting_refuses_none x at width value ram = seven_refuses_none x.reached at width value ram

-- ---- ARM7's

module _ (s : RegisterState) (r : SevenReach) where
  pub seven_word : (number : ℕ) (instr : Option Instr) → executed_word (waiting seven_memory seven_wait) arm7 s (waited_so r 0) number instr
      ≡ outcome_waited (executed_word seven_memory arm7 s r number instr) (waits_of seven_memory seven_wait r (data_accesses V4 0 s instr))
  seven_word number instr = word_waited seven_memory seven_wait seven_most arm7 s r number instr

  pub seven_operation : (operation : Operation) → carried_out (waiting seven_memory seven_wait) V4 s (waited_so r 0) (operation_meaning V4 s operation)
      ≡ outcome_waited (carried_out seven_memory V4 s r (operation_meaning V4 s operation)) (waits_of seven_memory seven_wait r (operation_meaning V4 s operation).accesses)
  seven_operation operation = operation_waited seven_memory seven_wait seven_most V4 s r operation

-- ---- where an operation isn't run nothing waited

pub brief_by : (cost n w : ℕ) → (cost ≡ 0 → n ≡ 0) → (0 < cost → n ≡ w) → w ≤ 128 → n ≤ 128
brief_by zero n w none some brief = let e = none refl in omega (arith, e)
brief_by (suc cost) n w none some brief = let e = some (omega arith) in omega (arith, e, brief)
