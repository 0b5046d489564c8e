use Rattle.arm_exec.proofs.Words.{ℕ, ◌+◌, ◌-◌, ◌*◌, ◌%◌, ◌^◌, ◌==◌, ◌&&◌, Bool, true, false, if◌then◌else◌, List, slice_index, w32, bit, flag, Half}
use Rattle.arm_exec.proofs.Words.{Word, Arch, V4, V5, FieldMask, Bank, UndefinedInstruction, SoftwareInterrupt, Breakpoint, Interrupt, Computed}
use Rattle.arm_exec.proofs.Words.{listed_registers, with_base, distance, with_thumb, Meaning, entered, interrupt_meaning, undefined_meaning, linked}
use Rattle.arm_exec.proofs.Words.{skipped, last_of, loaded, loaded_r15, with_sign, RegisterState, bank, next, put, register, saved_place, with_lost}
use Rattle.arm_exec.proofs.Words.{HasStatuses}
use Rattle.std.proofs.Common.{not}
use Rattle.std.specs.Int.{leading_zeros}
use Rattle.ds_base.specs.declared.memories.Width.{Width}
use Rattle.ds_base.specs.declared.memories.Width.TheVariants.{Byte}
use Rattle.arm_words.specs.declared.operations.CompareOp.{CompareOp}
use Rattle.arm_words.specs.declared.operations.DataOp.{DataOp}
use Rattle.arm_words.specs.declared.operations.HalfOp.{HalfOp}
use Rattle.arm_words.specs.declared.operations.HalfOp.TheVariants.{Strh, Ldrh, Ldrsb, Ldrsh}
use Rattle.arm_words.specs.declared.operations.MoveOp.{MoveOp}
use Rattle.arm_words.specs.declared.parts.Offset.{Offset}
use Rattle.arm_words.specs.declared.parts.Operand.{Operand}
use Rattle.arm_words.specs.declared.parts.ShortOffset.{ShortOffset}
use Rattle.arm_core.specs.declared.addresses.Addressed.{Addressed}
use Rattle.arm_core.specs.declared.saturating.Saturated.{Saturated}
use Rattle.arm_core.specs.Addressing.{addressed, list_bytes, moved_base, offset_value, short_offset_value}
use Rattle.arm_core.specs.Branches.{address_meaning, branch_meaning, exchange_meaning, prefix_meaning, suffix_meaning}
use Rattle.arm_core.specs.Conditions.{c_flag, v_flag}
use Rattle.arm_core.specs.DataProcessing.{compare_meaning, compare_result, data_meaning, data_result, move_meaning, move_result, sum_of}
use Rattle.arm_core.specs.Doubles.{double_at, double_meaning}
use Rattle.arm_core.specs.Enhanced.{clz_meaning, coprocessor_meaning}
use Rattle.arm_core.specs.Exceptions.{breakpoint_meaning, software_meaning}
use Rattle.arm_core.specs.HalfMultiplies.{accumulated_meaning, half_long_meaning, chosen_half, product_meaning}
use Rattle.arm_core.specs.Links.{link_exchange_meaning, link_suffix_meaning, link_target_meaning}
use Rattle.arm_core.specs.Multiples.{keeps_base, load_multiple_meaning, multiple_meaning, reached_bank, reaches_user, transferred}
use Rattle.arm_core.specs.Multiplies.{long_multiply_meaning, long_product, multiply_meaning}
use Rattle.arm_core.specs.Saturating.{saturating_meaning, saturating_result}
use Rattle.arm_core.specs.Shifter.{first_operand, shifter_operand}
use Rattle.arm_core.specs.StatusRegisters.{mrs_meaning, msr_meaning, saved_value}
use Rattle.arm_core.specs.Swaps.{swap_meaning}
use Rattle.arm_core.specs.Transfers.{half_or_signed_meaning, half_transfer_meaning, literal_meaning, load_meaning, load_word_meaning, rotated_half, rotated_word, signed_byte, signed_half, signed_half_meaning, store_meaning, transfer_meaning, word_or_byte_meaning}
use Rattle.arm_exec.proofs.StatusMoves.{HasQ, base_has, entered_has, exchanged_has, finished_has, flags_has, jumped_has, linked_has, loaded_has, long_has, lost_has, next_has, one_of, put_has, r15_has, sign_has, thumb_has, word_has, written_has}

-- What each class of instructions leaves are numbers that status registers can have.

module _ (arch : Arch) (s : RegisterState) (h : HasStatuses arch s) where
  abbrev pub Keeps : Meaning → Type 0
  Keeps m = (values : List ℕ) → HasStatuses arch (m.after values)

  pub either : (b : Bool) (m k : Meaning) → Keeps m → Keeps k → Keeps (if b then m else k)
  either true m k p q = p
  either false m k p q = q

  n : HasStatuses arch (next s)
  n = next_has arch s h

  pub skipped_keeps : Keeps (skipped s)
  skipped_keeps values = n

  -- ---- data processing

  pub data_keeps : (op : DataOp) (set : Bool) (rn rd : ℕ) (operand : Operand) → Keeps (data_meaning s op set rn rd operand)
  data_keeps op set rn rd operand values =
      finished_has arch set rd (data_result op (first_operand s operand rn) (shifter_operand s operand) (c_flag s.cpsr) (v_flag s.cpsr)) (next s) n

  pub compare_keeps : (op : CompareOp) (rn : ℕ) (operand : Operand) → Keeps (compare_meaning s op rn operand)
  compare_keeps op rn operand values =
      flags_has arch (compare_result op (first_operand s operand rn) (shifter_operand s operand) (v_flag s.cpsr)) (next s) n

  pub move_keeps : (op : MoveOp) (set : Bool) (rd : ℕ) (operand : Operand) → Keeps (move_meaning s op set rd operand)
  move_keeps op set rd operand values = finished_has arch set rd (move_result op (shifter_operand s operand) (v_flag s.cpsr)) (next s) n

  pub address_keeps : (rd immed : ℕ) → Keeps (address_meaning s rd immed)
  address_keeps rd immed values = let base = register s 15 in put_has arch rd ((base - base % 4 + 4 * immed) % 2 ^ 32) (next s) n

  -- ---- multiplies

  pub multiply_keeps : (set : Bool) (rd rm rs added : ℕ) → Keeps (multiply_meaning s set rd rm rs added)
  multiply_keeps set rd rm rs added values =
      let product : ℕ = (register s rm * register s rs + added) % 2 ^ 32 in
      put_has arch rd product (with_sign set (bit 31 product) (product == 0) (next s)) (sign_has arch set (bit 31 product) (product == 0) (next s) n)

  pub long_multiply_keeps : (signed accumulate set : Bool) (rd_lo rd_hi rm rs : ℕ)
      → Keeps (long_multiply_meaning s signed accumulate set rd_lo rd_hi rm rs)
  long_multiply_keeps signed accumulate set rd_lo rd_hi rm rs values =
      let added : ℕ = if accumulate then register s rd_lo + 2 ^ 32 * register s rd_hi else 0 in
      let product : ℕ = long_product signed (register s rm) (register s rs) added in
      long_has arch rd_lo rd_hi product (with_sign set (bit 63 product) (product == 0) (next s))
      (sign_has arch set (bit 63 product) (product == 0) (next s) n)

  pub clz_keeps : (rd rm : ℕ) → Keeps (clz_meaning s rd rm)
  clz_keeps rd rm values = put_has arch rd (leading_zeros w32 (register s rm)) (next s) n

  pub product_keeps : (rd product : ℕ) → Keeps (product_meaning s rd product)
  product_keeps rd product values = put_has arch rd product (next s) n

  pub half_long_keeps : (x y : Bool) (rd_lo rd_hi rm rs : ℕ) → Keeps (half_long_meaning s x y rd_lo rd_hi rm rs)
  half_long_keeps x y rd_lo rd_hi rm rs values =
      let added : ℕ = register s rd_lo + 2 ^ 32 * register s rd_hi in
      long_has arch rd_lo rd_hi (long_product true (chosen_half x (register s rm)) (chosen_half y (register s rs)) added) (next s) n

  pub accumulated_keeps : HasQ arch → (rd product added : ℕ) → Keeps (accumulated_meaning s rd product added)
  accumulated_keeps q rd product added values =
      let sum : Computed = sum_of product added 0 in
      put_has arch rd sum.value (with_lost sum.overflow (next s)) (lost_has arch q sum.overflow (next s) n)

  pub saturating_keeps : HasQ arch → (double subtract : Bool) (rd rm rn : ℕ) → Keeps (saturating_meaning s double subtract rd rm rn)
  saturating_keeps q double subtract rd rm rn values =
      let result : Saturated = saturating_result double subtract (register s rm) (register s rn) in
      put_has arch rd result.value (with_lost result.lost (next s)) (lost_has arch q result.lost (next s) n)

  -- ---- status registers

  pub mrs_keeps : (spsr : Bool) (rd : ℕ) → Keeps (mrs_meaning s spsr rd)
  mrs_keeps spsr rd values = put_has arch rd (if spsr then saved_value (saved_place (bank s)) s else s.cpsr) (next s) n

  pub msr_keeps : (spsr : Bool) (fields : FieldMask) (operand : ℕ) → Keeps (msr_meaning arch s spsr fields operand)
  msr_keeps spsr fields operand values = written_has arch spsr fields operand (next s) n

  -- ---- branches and exceptions

  pub exchange_keeps : (rm : ℕ) → Keeps (exchange_meaning s rm)
  exchange_keeps rm values = exchanged_has arch (register s rm) (next s) n

  pub branch_keeps : (link : Bool) (far : ℕ) → Keeps (branch_meaning s link far)
  branch_keeps link far values =
      jumped_has arch ((register s 15 + far) % 2 ^ 32) (if link then put 14 (next s).pc (next s) else next s)
      (one_of arch link (put 14 (next s).pc (next s)) (next s) (put_has arch 14 (next s).pc (next s) n) n)

  pub prefix_keeps : (offset : ℕ) → Keeps (prefix_meaning s offset)
  prefix_keeps offset values = put_has arch 14 ((register s 15 + distance 11 4096 offset) % 2 ^ 32) (next s) n

  pub suffix_keeps : (offset : ℕ) → Keeps (suffix_meaning s offset)
  suffix_keeps offset values =
      let back : ℕ = ((next s).pc + 1) % 2 ^ 32 in
      jumped_has arch ((register s 14 + 2 * offset) % 2 ^ 32) (put 14 back (next s)) (put_has arch 14 back (next s) n)

  pub link_exchange_keeps : (rm : ℕ) → Keeps (link_exchange_meaning s rm)
  link_exchange_keeps rm values = exchanged_has arch (register s rm) (linked s) (linked_has arch s h)

  pub link_target_keeps : (half : Bool) (offset : ℕ) → Keeps (link_target_meaning s half offset)
  link_target_keeps half offset values =
      jumped_has arch ((register s 15 + distance 24 4 offset + flag 1 half) % 2 ^ 32) (with_thumb true (linked s))
      (thumb_has arch true (linked s) (linked_has arch s h))

  pub link_suffix_keeps : (offset : ℕ) → Keeps (link_suffix_meaning s offset)
  link_suffix_keeps offset values =
      jumped_has arch ((register s 14 + 2 * offset) % 2 ^ 32) (with_thumb false (linked s)) (thumb_has arch false (linked s) (linked_has arch s h))

  pub undefined_keeps : (base : ℕ) → Keeps (undefined_meaning base s)
  undefined_keeps base values = entered_has arch base UndefinedInstruction (next s).pc s h

  pub coprocessor_keeps : (there : Bool) (base : ℕ) → Keeps (coprocessor_meaning there base s)
  coprocessor_keeps there base values =
      one_of arch there (next s) (entered base UndefinedInstruction (next s).pc s) n (entered_has arch base UndefinedInstruction (next s).pc s h)

  pub software_keeps : (base : ℕ) → Keeps (software_meaning base s)
  software_keeps base values = entered_has arch base SoftwareInterrupt (next s).pc s h

  pub breakpoint_keeps : (base : ℕ) → Keeps (breakpoint_meaning base s)
  breakpoint_keeps base values = entered_has arch base Breakpoint ((s.pc + 4) % 2 ^ 32) s h

  pub interrupt_keeps : (base : ℕ) → Keeps (interrupt_meaning base s)
  interrupt_keeps base values = entered_has arch base Interrupt ((s.pc + 4) % 2 ^ 32) s h

  -- ---- loads and stores

  load_keeps : (rn rd : ℕ) (to : Addressed) (width : Width) (loads : ℕ → ℕ) → Keeps (load_meaning s rn rd to width loads)
  load_keeps rn rd to width loads values =
      put_has arch rd (loads (slice_index values 0)) (with_base to.written rn to.base (next s)) (base_has arch to.written rn to.base (next s) n)

  load_word_keeps : (version : Arch) (rn rd : ℕ) (to : Addressed) → Keeps (load_word_meaning version s rn rd to)
  load_word_keeps version rn rd to values =
      word_has arch version rd (rotated_word to.address (slice_index values 0)) (with_base to.written rn to.base (next s))
      (base_has arch to.written rn to.base (next s) n)

  store_keeps : (rn rd : ℕ) (to : Addressed) (width : Width) → Keeps (store_meaning s rn rd to width)
  store_keeps rn rd to width values = base_has arch to.written rn to.base (next s) n

  word_or_byte_keeps : (version : Arch) (load byte : Bool) (rn rd : ℕ) (to : Addressed) → Keeps (word_or_byte_meaning version s load byte rn rd to)
  word_or_byte_keeps version true true rn rd to = load_keeps rn rd to Byte (λ value. value % 2 ^ 8)
  word_or_byte_keeps version true false rn rd to = load_word_keeps version rn rd to
  word_or_byte_keeps version false true rn rd to = store_keeps rn rd to Byte
  word_or_byte_keeps version false false rn rd to = store_keeps rn rd to Word

  pub transfer_keeps : (version : Arch) (pre up byte write_back load : Bool) (rn rd : ℕ) (offset : Offset)
      → Keeps (transfer_meaning version s pre up byte write_back load rn rd offset)
  transfer_keeps version pre up byte write_back load rn rd offset =
      word_or_byte_keeps version load byte rn rd (addressed s pre up write_back rn (offset_value s offset))

  signed_half_keeps : (version : Arch) (rn rd : ℕ) (to : Addressed) → Keeps (signed_half_meaning version s rn rd to)
  signed_half_keeps V5 rn rd to = load_keeps rn rd to Half signed_half
  signed_half_keeps V4 rn rd to =
      either (to.address % 2 == 0) (load_meaning s rn rd to Half signed_half) (load_meaning s rn rd to Byte signed_byte)
      (load_keeps rn rd to Half signed_half) (load_keeps rn rd to Byte signed_byte)

  half_or_signed_keeps : (version : Arch) (op : HalfOp) (rn rd : ℕ) (to : Addressed) → Keeps (half_or_signed_meaning version s op rn rd to)
  half_or_signed_keeps version Strh rn rd to = store_keeps rn rd to Half
  half_or_signed_keeps version Ldrh rn rd to = load_keeps rn rd to Half (rotated_half version to.address)
  half_or_signed_keeps version Ldrsb rn rd to = load_keeps rn rd to Byte signed_byte
  half_or_signed_keeps version Ldrsh rn rd to = signed_half_keeps version rn rd to

  pub half_transfer_keeps : (version : Arch) (op : HalfOp) (pre up write_back : Bool) (rn rd : ℕ) (offset : ShortOffset)
      → Keeps (half_transfer_meaning version s op pre up write_back rn rd offset)
  half_transfer_keeps version op pre up write_back rn rd offset =
      half_or_signed_keeps version op rn rd (addressed s pre up write_back rn (short_offset_value s offset))

  pub literal_keeps : (version : Arch) (rd immed : ℕ) → Keeps (literal_meaning version s rd immed)
  literal_keeps version rd immed =
      let base : ℕ = register s 15 in
      load_word_keeps version 15 rd (record { address = (base - base % 4 + 4 * immed) % 2 ^ 32; base = base; written = false })

  double_at_keeps : (store : Bool) (rn rd : ℕ) (to : Addressed) → Keeps (double_at s store rn rd to)
  double_at_keeps true rn rd to values = base_has arch to.written rn to.base (next s) n
  double_at_keeps false rn rd to values =
      let moved : RegisterState = with_base to.written rn to.base (next s) in
      let first : RegisterState = put rd (slice_index values 0) moved in
      put_has arch (rd + 1) (slice_index values 1) first
      (put_has arch rd (slice_index values 0) moved (base_has arch to.written rn to.base (next s) n))

  pub double_keeps : (store pre up write_back : Bool) (rn rd : ℕ) (offset : ShortOffset)
      → Keeps (double_meaning s store pre up write_back rn rd offset)
  double_keeps store pre up write_back rn rd offset =
      double_at_keeps store rn rd (addressed s pre up write_back rn (short_offset_value s offset))

  pub swap_keeps : (byte : Bool) (rd rm rn : ℕ) → Keeps (swap_meaning s byte rd rm rn)
  swap_keeps true rd rm rn values = put_has arch rd (slice_index values 0 % 2 ^ 8) (next s) n
  swap_keeps false rd rm rn values = put_has arch rd (rotated_word (register s rn) (slice_index values 0)) (next s) n

  -- ---- loads and stores of several registers

  load_multiple_keeps : (version : Arch) (pre up user write_back : Bool) (rn list : ℕ)
      → Keeps (load_multiple_meaning version s pre up user write_back rn list)
  load_multiple_keeps version pre up user write_back rn list values =
      let moved : ℕ = moved_base up (register s rn) (list_bytes list) in
      let written : Bool = write_back && not (rn == 15) && keeps_base version rn list in
      let registers : List ℕ = listed_registers (transferred version list) in
      let b : Bank = reached_bank s (reaches_user user (transferred version list)) in
      let read : RegisterState = loaded b registers values (next s) in
      let filled : RegisterState = with_base written rn moved read in
      let kept : HasStatuses arch filled = base_has arch written rn moved read (loaded_has arch b registers values (next s) n) in
      one_of arch (bit 15 (transferred version list)) (loaded_r15 version user (last_of values) filled) filled
      (r15_has arch version user (last_of values) filled kept) kept

  pub multiple_keeps : (version : Arch) (pre up user write_back load : Bool) (rn list : ℕ)
      → Keeps (multiple_meaning version s pre up user write_back load rn list)
  multiple_keeps version pre up user write_back true rn list values = load_multiple_keeps version pre up user write_back rn list values
  multiple_keeps version pre up user write_back false rn list values =
      base_has arch (write_back && not (rn == 15)) rn (moved_base up (register s rn) (list_bytes list)) (next s) n
