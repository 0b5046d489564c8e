use Rattle.arm_exec.proofs.Words.{ℕ, ◌+◌, ◌/◌, ◌%◌, ◌^◌, ◌<◌, ◌==◌, ◌&&◌, bit_and, Bool, true, false, if◌then◌else◌, List, [], ◌∷◌, slice_index}
use Rattle.arm_exec.proofs.Words.{Option, Some, None, refl, sym, subst, arith, w32, bit, flag, Arch, V4, V5, FieldMask, Bank, UndefinedInstruction}
use Rattle.arm_exec.proofs.Words.{SoftwareInterrupt, Breakpoint, Interrupt, Computed, with_base, with_thumb, entered, linked, loaded, loaded_r15}
use Rattle.arm_exec.proofs.Words.{with_sign, RegisterState, bank, is_thumb, next, put, saved_place, with_lost, kept_status_bits, IsStatus}
use Rattle.arm_exec.proofs.Words.{HasStatuses}
use Rattle.std.proofs.Common.{◌⊎◌, inl, inr, ◌≤◌, length, All, slice_set, is_some}
use Rattle.std.specs.Int.{bit_not}
use Rattle.std.proofs.lemmas.Bool.{cases_lt}
use Rattle.std.proofs.lemmas.List.{get_or_past}
use Rattle.std.proofs.lemmas.List.Elements.{All-set}
use Rattle.arm_core.specs.declared.exceptions.Exception.{Exception}
use Rattle.arm_core.specs.Branches.{exchanged}
use Rattle.arm_core.specs.DataProcessing.{result_put, restored, restored_from, with_flags}
use Rattle.arm_core.specs.Exceptions.{entry_bank, entry_mode, kept_status}
use Rattle.arm_core.specs.Multiplies.{with_long}
use Rattle.arm_core.specs.Registers.{jumped, place, put_in}
use Rattle.arm_core.specs.StatusRegisters.{field_bits, replaced, status_register_written, with_saved, writable}
use Rattle.arm_core.specs.Transfers.{put_word}
use Rattle.arm_exec.proofs.StatusBits.{and_status, under_status, kept_status as kept_of, or_status, no_status, thumb_status, four_flags, two_flags, entered_of}

-- What is done with the registers leaves numbers that status registers can have.

-- Q is a bit that is kept: on ARMv5
abbrev pub HasQ : Arch → Type 0
HasQ V4 = ⊥
HasQ V5 = Unit {0}

q_status : (arch : Arch) → HasQ arch → IsStatus arch 0x08000000
q_status V4 q = absurd q
q_status V5 q = refl

module _ (arch : Arch) where
  abbrev K : RegisterState → Type 0
  K s = HasStatuses arch s

  pub one_of : (b : Bool) (x y : RegisterState) → K x → K y → K (if b then x else y)
  one_of true x y p q = p
  one_of false x y p q = q

  -- ---- what leaves the status registers alone

  pub next_has : (s : RegisterState) → K s → K (next s)
  next_has s h = record { cpsr = h.cpsr; saved = h.saved }

  pub jumped_has : (target : ℕ) (s : RegisterState) → K s → K (jumped target s)
  jumped_has target s h = record { cpsr = h.cpsr; saved = h.saved }

  pub put_in_has : (b : Bank) (r value : ℕ) (s : RegisterState) → K s → K (put_in b r value s)
  put_in_has b r value s h =
      one_of (r == 15) (jumped value s) (record s { general = slice_set s.general (place b r) value })
      (jumped_has value s h) (record { cpsr = h.cpsr; saved = h.saved })

  pub put_has : (r value : ℕ) (s : RegisterState) → K s → K (put r value s)
  put_has r value s h = put_in_has (bank s) r value s h

  pub base_has : (written : Bool) (rn base : ℕ) (s : RegisterState) → K s → K (with_base written rn base s)
  base_has true rn base s h = put_has rn base s h
  base_has false rn base s h = h

  pub long_has : (rd_lo rd_hi product : ℕ) (s : RegisterState) → K s → K (with_long rd_lo rd_hi product s)
  long_has rd_lo rd_hi product s h =
      let low : RegisterState = put rd_lo (product % 2 ^ 32) s in
      put_has rd_hi (product / 2 ^ 32) low (put_has rd_lo (product % 2 ^ 32) s h)

  pub loaded_has : (b : Bank) (rs values : List ℕ) (s : RegisterState) → K s → K (loaded b rs values s)
  loaded_has b [] values s h = h
  loaded_has b (r ∷ rs) [] s h = h
  loaded_has b (r ∷ rs) (value ∷ values) s h =
      loaded_has b rs values (if r == 15 then s else put_in b r value s) (one_of (r == 15) s (put_in b r value s) h (put_in_has b r value s h))

  -- ---- what changes them

  pub flags_has : (r : Computed) (s : RegisterState) → K s → K (with_flags r s)
  flags_has r s h = record { cpsr = four_flags arch s.cpsr r.overflow r.carry (r.value == 0) (bit 31 r.value) h.cpsr; saved = h.saved }

  pub sign_has : (set n z : Bool) (s : RegisterState) → K s → K (with_sign set n z s)
  sign_has true n z s h = record { cpsr = two_flags arch s.cpsr z n h.cpsr; saved = h.saved }
  sign_has false n z s h = h

  pub thumb_has : (thumb : Bool) (s : RegisterState) → K s → K (with_thumb thumb s)
  thumb_has thumb s h = record {
    cpsr = or_status arch (bit_and s.cpsr 0xFFFFFFDF) (flag 5 thumb) (and_status arch s.cpsr 0xFFFFFFDF h.cpsr) (thumb_status arch thumb);
    saved = h.saved;
  }

  pub exchanged_has : (target : ℕ) (s : RegisterState) → K s → K (exchanged target s)
  exchanged_has target s h = jumped_has target (with_thumb (bit 0 target) s) (thumb_has (bit 0 target) s h)

  pub word_has : (version : Arch) (rd value : ℕ) (s : RegisterState) → K s → K (put_word version rd value s)
  word_has V4 rd value s h = put_has rd value s h
  word_has V5 rd value s h = one_of (rd == 15) (exchanged value s) (put rd value s) (exchanged_has value s h) (put_has rd value s h)

  pub lost_has : HasQ arch → (lost : Bool) (s : RegisterState) → K s → K (with_lost lost s)
  lost_has q true s h = record { cpsr = or_status arch s.cpsr 0x08000000 h.cpsr (q_status arch q); saved = h.saved }
  lost_has q false s h = h

  pub linked_has : (s : RegisterState) → K s → K (linked s)
  linked_has s h = put_has 14 (((next s).pc + flag 0 (is_thumb s)) % 2 ^ 32) (next s) (next_has s h)

  -- an SPSR; one that there isn't reads as 0
  saved_is : (xs : List ℕ) (at : ℕ) → All (IsStatus arch) xs → IsStatus arch (slice_index xs at)
  saved_is xs at h = by_place (cases_lt at (length xs)) where
    by_place : (at < length xs) ⊎ (length xs ≤ at) → IsStatus arch (slice_index xs at)
    by_place (inl within) = h at 0 within
    by_place (inr past) = let P : ℕ → Type 0 = λ n. IsStatus arch n in subst P (sym (get_or_past xs at 0 past)) (no_status arch)

  restored_at : (at : Option ℕ) (s : RegisterState) → K s → K (restored_from at s)
  restored_at None s h = h
  restored_at (Some at) s h = record { cpsr = saved_is s.saved at h.saved; saved = h.saved }

  pub restored_has : (s : RegisterState) → K s → K (restored s)
  restored_has s h = restored_at (saved_place (bank s)) s h

  pub finished_has : (set : Bool) (rd : ℕ) (r : Computed) (s : RegisterState) → K s → K (result_put set rd r s)
  finished_has false rd r s h = put_has rd r.value s h
  finished_has true rd r s h =
      put_has rd r.value (if rd == 15 then restored s else with_flags r s)
      (one_of (rd == 15) (restored s) (with_flags r s) (restored_has s h) (flags_has r s h))

  pub r15_has : (version : Arch) (user : Bool) (value : ℕ) (s : RegisterState) → K s → K (loaded_r15 version user value s)
  r15_has V4 user value s h = jumped_has value (if user then restored s else s) (one_of user (restored s) s (restored_has s h) h)
  r15_has V5 user value s h =
      one_of (user && is_some (saved_place (bank s))) (jumped value (restored s)) (exchanged value s)
      (jumped_has value (restored s) (restored_has s h)) (exchanged_has value s h)

  -- ---- MSR

  replaced_is : (mask old operand : ℕ) → IsStatus arch mask → IsStatus arch old → IsStatus arch (replaced mask old operand)
  replaced_is mask old operand m h =
      or_status arch (bit_and old (bit_not w32 mask)) (bit_and operand mask)
      (and_status arch old (bit_not w32 mask) h) (under_status arch operand mask m)

  saved_has : (at : Option ℕ) (mask operand : ℕ) (s : RegisterState) → IsStatus arch mask → K s → K (with_saved at mask operand s)
  saved_has None mask operand s m h = h
  saved_has (Some at) mask operand s m h =
      let value : ℕ = replaced mask (slice_index s.saved at) operand in
      record { cpsr = h.cpsr; saved = All-set (IsStatus arch) s.saved at value (replaced_is mask (slice_index s.saved at) operand m (saved_is s.saved at h.saved)) h.saved }

  pub written_has : (spsr : Bool) (fields : FieldMask) (operand : ℕ) (s : RegisterState) → K s → K (status_register_written arch spsr fields operand s)
  written_has true fields operand s h =
      saved_has (saved_place (bank s)) (bit_and (field_bits fields) (kept_status_bits arch)) operand s (kept_of arch (field_bits fields)) h
  written_has false fields operand s h =
      let kept : ℕ = bit_and (field_bits fields) (kept_status_bits arch) in
      record { cpsr = replaced_is (bit_and kept (writable s)) s.cpsr operand (and_status arch kept (writable s) (kept_of arch (field_bits fields))) h.cpsr; saved = h.saved }

  -- ---- an exception's entry

  mode_low : (e : Exception) → entry_mode e < 32
  mode_low UndefinedInstruction = omega arith
  mode_low SoftwareInterrupt = omega arith
  mode_low Breakpoint = omega arith
  mode_low Interrupt = omega arith

  kept_has : (at : Option ℕ) (s : RegisterState) → K s → All (IsStatus arch) (kept_status at s)
  kept_has None s h = h.saved
  kept_has (Some at) s h = All-set (IsStatus arch) s.saved at s.cpsr h.cpsr h.saved

  pub entered_has : (base : ℕ) (e : Exception) (link : ℕ) (s : RegisterState) → K s → K (entered base e link s)
  entered_has base e link s h = record {
    cpsr = entered_of arch s.cpsr (entry_mode e) (mode_low e) h.cpsr;
    saved = kept_has (saved_place (entry_bank e)) s h;
  }
