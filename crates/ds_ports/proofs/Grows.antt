use Rattle.ds_ports.proofs.Words.{AreWaiting, Bool, Byte, GxCommand, GxPort, GxState, GxWord, Half, IfSome, IoState, Nine, None, Option, PortRow}
use Rattle.ds_ports.proofs.Words.{Proc, Register, Seven, Slot, Some, Stop, Tick, Width, Word, after_write, ap, arith, byte_written, either, false}
use Rattle.ds_ports.proofs.Words.{gx_port, gx_set, half_written, halved_written, if◌then◌else◌, ignores, is_whole_word, most_entries, nat_lt, not}
use Rattle.ds_ports.proofs.Words.{port_refusal, port_written, refl, register_map, slot_joined, slot_of, slot_written, subst, sym, true, true≢false}
use Rattle.ds_ports.proofs.Words.{unless_stopped, waiting_entries, whole_if, whole_in, width_bytes, word_written, write_port, written_or, ℕ, ◌%◌}
use Rattle.ds_ports.proofs.Words.{◌&&◌, ◌+◌, ◌-◌, ◌/◌, ◌^◌, ◌∙◌, ◌≡◌, ◌≤◌}
use Rattle.gx_fifo.specs.declared.ports.GxPort.TheVariants.{Display, Fifo, Direct, Status, Lengths, Position, Vector, Clip, VectorMatrix, Unlisted}
use Rattle.ds_ports.specs.Guards.{guarded_written, is_overfull}
use Rattle.gx_fifo.proofs.Laws.{written_grows}
use Rattle.ds_ports.specs.Touches as touches
use Rattle.ds_ports.proofs.Passed.{keeps_part, row_leaves}
use Rattle.ds_ports.proofs.RegisterMaps.{each_place, of_place, slot_by_all}
use Rattle.ds_ports.proofs.Halving.{goes_by_halves}

-- An access adds four entries at most to those that wait for geometry: one of a whole word of a command's port alone adds any.

-- ---- geometry's registers that are read in parts add none, wherever they stand

abbrev adds_entries : GxPort → Bool
adds_entries Fifo = true
adds_entries (Direct code) = true
adds_entries _ = false

abbrev keeps_entries : Register → ℕ → Bool
keeps_entries GxWord number = not (adds_entries (gx_port number))
keeps_entries _ number = true

abbrev place_keeps : PortRow → ℕ → Bool
place_keeps r place = keeps_entries (r.register place) (r.number place)

abbrev Keeps : Slot → Type 0
Keeps s = keeps_entries s.register s.number ≡ true

slot_keeps : (proc : Proc) (at : ℕ) → IfSome (slot_of proc at) Keeps
unfolding slot_of gx_port
slot_keeps Nine at = slot_by_all Keeps (each_place place_keeps) (register_map Nine) at refl (λ r h inside le lies. of_place place_keeps r (at - r.offset) h inside)
slot_keeps Seven at = slot_by_all Keeps (each_place place_keeps) (register_map Seven) at refl (λ r h inside le lies. of_place place_keeps r (at - r.offset) h inside)

whole_if_keeps : (b : Bool) (slot : Slot) → Keeps slot → IfSome (whole_if b slot) Keeps
whole_if_keeps true slot k = k
whole_if_keeps false slot k = tt

whole_keeps : (width : Width) (slot : Option Slot) → IfSome slot Keeps → IfSome (whole_in width slot) Keeps
whole_keeps width None k = tt
whole_keeps width (Some slot) k = whole_if_keeps _ slot k

-- ---- a write of a register

port_keeps : (port : GxPort) (value : ℕ) (now : Tick) (s : GxState) → not (adds_entries port) ≡ true → waiting_entries (write_port port value now s) ≡ waiting_entries s
unfolding write_port
port_keeps Display value now s h = refl
port_keeps Fifo value now s h = absurd (true≢false (sym h))
port_keeps (Direct code) value now s h = absurd (true≢false (sym h))
port_keeps Status value now s h = refl
port_keeps Lengths value now s h = refl
port_keeps (Position i) value now s h = refl
port_keeps (Vector i) value now s h = refl
port_keeps (Clip i) value now s h = refl
port_keeps (VectorMatrix i) value now s h = refl
port_keeps Unlisted value now s h = refl

word_keeps : (proc : Proc) (now : Tick) (u : IoState) (number value : ℕ) → not (adds_entries (gx_port number)) ≡ true
    → waiting_entries (gx_set proc now u number value).gx ≡ waiting_entries u.gx
word_keeps Nine now u number value h = port_keeps (gx_port number) value now u.gx h
word_keeps Seven now u number value h = refl

set_grows : (proc : Proc) (now : Tick) (u : IoState) (number value : ℕ) → AreWaiting u.gx
    → waiting_entries (gx_set proc now u number value).gx ≤ waiting_entries u.gx + 4
set_grows Nine now u number value waiting = written_grows u.gx number value now waiting
set_grows Seven now u number value waiting = omega arith

abbrev is_gx : Register → Bool
is_gx GxWord = true
is_gx GxCommand = true
is_gx _ = false

leaves_gx : (proc : Proc) (register : Register) → is_gx register ≡ false → keeps_part touches.Geometry proc register ≡ true
leaves_gx proc GxWord h = absurd (true≢false h)
leaves_gx proc GxCommand h = absurd (true≢false h)
leaves_gx Nine _ h = refl
leaves_gx Seven _ h = refl

others_leave : (proc : Proc) (now : Tick) (u : IoState) (register : Register) (number value : ℕ) → is_gx register ≡ false
    → (after_write proc now u register number value).gx ≡ u.gx
others_leave proc now u register number value h = row_leaves touches.Geometry proc now u register number value (leaves_gx proc register h)

-- ---- a write of a register's bytes

abbrev AreAsMany : IoState → IoState → Type 0
AreAsMany u v = waiting_entries v.gx ≡ waiting_entries u.gx

narrow_keeps : (width : Width) → not (is_whole_word width) ≡ true → (proc : Proc) (now : Tick) (u : IoState) (register : Register) (number value : ℕ)
    → keeps_entries register number ≡ true → AreAsMany u (if ignores width register then u else after_write proc now u register number value)
narrow_keeps width narrow proc now u GxCommand number value k =
    ignored (not (is_whole_word width) && true) (rw narrow refl) where
      ignored : (b : Bool) → b ≡ true → AreAsMany u (if b then u else after_write proc now u GxCommand number value)
      ignored true h = refl
      ignored false h = absurd (true≢false (sym h))
narrow_keeps width narrow proc now u GxWord number value k =
    either (AreAsMany u) (ignores width GxWord) u (gx_set proc now u number value) refl (word_keeps proc now u number value k)
narrow_keeps width narrow proc now u register number value k =
    either (AreAsMany u) (ignores width register) u (after_write proc now u register number value) refl
    (ap waiting_entries (others_leave proc now u register number value refl))

slot_as_many : (width : Width) → not (is_whole_word width) ≡ true → (proc : Proc) (now : Tick) (u : IoState) (slot : Slot) (value : ℕ) → Keeps slot
    → AreAsMany u (slot_written proc now u width slot value)
slot_as_many width narrow proc now u slot value k =
    narrow_keeps width narrow proc now u slot.register slot.number (slot_joined proc u width slot value) k

or_as_many : (width : Width) → not (is_whole_word width) ≡ true → (proc : Proc) (now : Tick) (u : IoState) (slot : Option Slot) (value : ℕ)
    (other : IoState) → IfSome slot Keeps → AreAsMany u other → AreAsMany u (written_or proc now u width slot value other)
or_as_many width narrow proc now u None value other k h = h
or_as_many width narrow proc now u (Some slot) value other k h = slot_as_many width narrow proc now u slot value k

byte_as_many : (proc : Proc) (now : Tick) (u : IoState) (at value : ℕ) → AreAsMany u (byte_written proc now u at value)
byte_as_many proc now u at value = or_as_many Byte refl proc now u (slot_of proc at) value u (slot_keeps proc at) refl

half_as_many : (proc : Proc) (now : Tick) (u : IoState) (at value : ℕ) → AreAsMany u (half_written proc now u at value)
half_as_many proc now u at value =
    let first = byte_written proc now u at value in
    or_as_many Half refl proc now u (whole_in Half (slot_of proc at)) value (byte_written proc now first (at + 1) (value / 2 ^ 8))
    (whole_keeps Half (slot_of proc at) (slot_keeps proc at))
    (byte_as_many proc now first (at + 1) (value / 2 ^ 8) ∙ byte_as_many proc now u at value)

-- ---- so they leave room where there is some

stays_overfull : (proc : Proc) (u v : IoState) → AreAsMany u v → is_overfull proc v ≡ is_overfull proc u
stays_overfull Nine u v h = ap (nat_lt (most_entries - 4)) h
stays_overfull Seven u v h = refl

pub byte_leaves_room : (proc : Proc) (now : Tick) (u : IoState) (at value : ℕ) → is_overfull proc (byte_written proc now u at value) ≡ is_overfull proc u
byte_leaves_room proc now u at value = stays_overfull proc u (byte_written proc now u at value) (byte_as_many proc now u at value)

-- of the register in which one lies whole
pub byte_room : (proc : Proc) (now : Tick) (u new : IoState) (at value : ℕ) (slot : Slot) → slot_of proc at ≡ Some slot
    → new ≡ slot_written proc now u Byte slot value → is_overfull proc u ≡ false → is_overfull proc new ≡ false
byte_room proc now u new at value slot is e h =
    ap (is_overfull proc) (e ∙ sym (ap (λ (o : Option Slot). written_or proc now u Byte o value u) is)) ∙ byte_leaves_room proc now u at value ∙ h

pub half_leaves_room : (proc : Proc) (now : Tick) (u : IoState) (at value : ℕ) → is_overfull proc (half_written proc now u at value) ≡ is_overfull proc u
half_leaves_room proc now u at value = stays_overfull proc u (half_written proc now u at value) (half_as_many proc now u at value)

pub half_room : (proc : Proc) (now : Tick) (u new : IoState) (at value : ℕ) (slot : Slot) → whole_in Half (slot_of proc at) ≡ Some slot
    → new ≡ slot_written proc now u Half slot value → is_overfull proc u ≡ false → is_overfull proc new ≡ false
half_room proc now u new at value slot is e h =
    let other = byte_written proc now (byte_written proc now u at value) (at + 1) (value / 2 ^ 8) in
    ap (is_overfull proc) (e ∙ sym (ap (λ (o : Option Slot). written_or proc now u Half o value other) is)) ∙ half_leaves_room proc now u at value ∙ h

-- ---- a write of a whole word

abbrev AreFourMore : IoState → IoState → Type 0
AreFourMore u v = waiting_entries v.gx ≤ waiting_entries u.gx + 4

no_more : (u v : IoState) → AreAsMany u v → AreFourMore u v
no_more u v h = omega (arith, h)

register_grows : (proc : Proc) (now : Tick) (u : IoState) (register : Register) (number value : ℕ) → AreWaiting u.gx
    → AreFourMore u (after_write proc now u register number value)
register_grows proc now u GxWord number value waiting = set_grows proc now u number value waiting
register_grows proc now u GxCommand number value waiting = set_grows proc now u number value waiting
register_grows proc now u register number value waiting =
    no_more u (after_write proc now u register number value) (ap waiting_entries (others_leave proc now u register number value refl))

or_grows : (proc : Proc) (now : Tick) (u : IoState) (slot : Option Slot) (value : ℕ) (other : IoState) → AreWaiting u.gx → AreFourMore u other
    → AreFourMore u (written_or proc now u Word slot value other)
or_grows proc now u None value other waiting h = h
or_grows proc now u (Some slot) value other waiting h = register_grows proc now u slot.register slot.number (slot_joined proc u Word slot value) waiting

word_grows : (proc : Proc) (now : Tick) (u : IoState) (at value : ℕ) → AreWaiting u.gx → AreFourMore u (word_written proc now u at value)
word_grows proc now u at value waiting =
    let first = half_written proc now u at value in
    let second = half_written proc now first (at + 2) (value / 2 ^ 16) in
    or_grows proc now u (whole_in Word (slot_of proc at)) value second waiting
    (no_more u second (half_as_many proc now first (at + 2) (value / 2 ^ 16) ∙ half_as_many proc now u at value))

halved_grows : (proc : Proc) (now : Tick) (u : IoState) (at : ℕ) (width : Width) (value : ℕ) → AreWaiting u.gx
    → AreFourMore u (halved_written proc now u at width value)
halved_grows proc now u at Byte value waiting = no_more u (byte_written proc now u at value) (byte_as_many proc now u at value)
halved_grows proc now u at Half value waiting = no_more u (half_written proc now u at value) (half_as_many proc now u at value)
halved_grows proc now u at Word value waiting = word_grows proc now u at value waiting

pub write_grows : (proc : Proc) (now : Tick) (u : IoState) (at : ℕ) (width : Width) (value : ℕ) → at % width_bytes width ≡ 0 → AreWaiting u.gx
    → waiting_entries (port_written proc now u at width value).gx ≤ waiting_entries u.gx + 4
write_grows proc now u at width value even waiting =
    subst (AreFourMore u) (sym (goes_by_halves proc now u at width value even).writes) (halved_grows proc now u at width value waiting)

unless_grows : (stop : Option Stop) (u v : IoState) → AreFourMore u v → AreFourMore u (unless_stopped stop u v)
unless_grows None u v h = h
unless_grows (Some stop) u v h = omega arith

pub put_grows : (proc : Proc) (now : Tick) (old new : IoState) (at : ℕ) (width : Width) (value : ℕ) → at % width_bytes width ≡ 0
    → new ≡ guarded_written proc now old at width value → AreWaiting old.gx → waiting_entries new.gx ≤ waiting_entries old.gx + 4
put_grows proc now old new at width value even is_new waiting =
    subst (AreFourMore old) (sym is_new)
    (either (AreFourMore old) (is_overfull proc old) old
    (unless_stopped (port_refusal proc old at width value) old (port_written proc now old at width value)) (no_more old old refl)
    (unless_grows (port_refusal proc old at width value) old (port_written proc now old at width value)
    (write_grows proc now old at width value even waiting)))
