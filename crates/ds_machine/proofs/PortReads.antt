use Rattle.ds_machine.proofs.Words.{Bool, Byte, CardData, Half, IoState, Ipcfiforecv, MapState, Nine, None, Option, PortRow, Proc, Register, Seven}
use Rattle.ds_machine.proofs.Words.{Slot, Some, Tick, Width, Word, aligned_down, arith, false, map_read, meaning_of, nat_le, nat_lt, port_place, refl}
use Rattle.ds_machine.proofs.Words.{row_bytes, slot_of, sym, true, true≢false, width_bytes, ℕ, ◌&&◌, ◌+◌, ◌-◌, ◌<◌, ◌≡◌, ◌≤◌}
use Rattle.ds_ports.specs.Ports.{port_read, slot_read, whole_if, whole_in}
use Rattle.ds_ports.proofs.Covered.{OfKind, slot_is}

-- A read of a port from 4000000h to 40FFFFFh leaves all units as they are: IPCFIFORECV and the card's data, of which a read takes a
-- word, don't stand there.

-- ---- a read of any other register leaves them

abbrev is_other : Register → Bool
is_other Ipcfiforecv = false
is_other CardData = false
is_other _ = true

register_leaves : (register : Register) → is_other register ≡ true → (proc : Proc) (now : Tick) (u : IoState) → (meaning_of register).after_read proc now u ≡ u
register_leaves Ipcfiforecv h proc now u = absurd (true≢false (sym h))
register_leaves CardData h proc now u = absurd (true≢false (sym h))
register_leaves _ h proc now u = refl

-- ---- the rows that begin below a limit have no other

abbrev is_high : PortRow → Bool
is_high r = nat_le 0x100000 r.offset

outside : (offset bytes at : ℕ) → nat_le 0x100000 offset ≡ true → at < 0x100000 → (nat_le offset at && nat_lt at (offset + bytes)) ≡ false
outside offset bytes at h lt = grind (arith, h, lt)

other_at : (proc : Proc) (at : ℕ) → at < 0x100000 → OfKind is_other (slot_of proc at)
other_at Nine at lt = slot_is is_high is_other Nine at refl (λ r h. outside r.offset (row_bytes r) at h lt)
other_at Seven at lt = slot_is is_high is_other Seven at refl (λ r h. outside r.offset (row_bytes r) at h lt)

-- ---- so a read there

slot_leaves : (proc : Proc) (now : Tick) (u : IoState) (slot : Option Slot) → OfKind is_other slot → slot_read proc now u (whole_in Word slot) ≡ u
slot_leaves proc now u None other = refl
slot_leaves proc now u (Some slot) other = whole (nat_le (slot.byte + width_bytes Word) slot.bytes) where
  whole : (b : Bool) → slot_read proc now u (whole_if b slot) ≡ u
  whole true = register_leaves slot.register other proc now u
  whole false = refl

pub read_leaves : (proc : Proc) (now : Tick) (u : IoState) (at : ℕ) (width : Width) → at < 0x100000 → port_read proc now u at width ≡ u
unfolding port_read
read_leaves proc now u at Byte lt = refl
read_leaves proc now u at Half lt = refl
read_leaves proc now u at Word lt = slot_leaves proc now u (slot_of proc at) (other_at proc at lt)

-- ---- by addresses

aligned_below : (width : Width) (at : ℕ) → at < 0x100000 → aligned_down width at < 0x100000
aligned_below Byte at lt = omega (arith, lt)
aligned_below Half at lt = omega (arith, lt)
aligned_below Word at lt = omega (arith, lt)

pub read_io : (proc : Proc) (now : Tick) (m : MapState) (at : ℕ) (width : Width) → 0x04000000 ≤ at → at < 0x04100000
    → (map_read proc now m at width).io ≡ m.io
unfolding map_read
read_io proc now m at width low high =
    rw (port_place proc m.io.wramcnt at low (omega (arith, high))) (
    read_leaves proc now m.io (aligned_down width (at - 0x04000000)) width (aligned_below width (at - 0x04000000) (omega (arith, low, high))))
