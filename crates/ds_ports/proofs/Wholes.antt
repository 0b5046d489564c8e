use Rattle.ds_ports.proofs.Words.{Byte, GxCommand, GxPort, GxState, Half, IoState, IsGx, None, Proc, Slot, Some, Tick, Width, Word, after_write, ap}
use Rattle.ds_ports.proofs.Words.{arith, gx_kept, gx_port, is_whole_word, kept_port, meaning_of, not, port_read, port_refusal, port_value}
use Rattle.ds_ports.proofs.Words.{port_written, refl, slot_of, slot_refusal, slot_value, slot_written, subst, true, unless_stopped, whole_in}
use Rattle.ds_ports.proofs.Words.{width_bytes, with_bytes_from, ℕ, ◌+◌, ◌<◌, ◌^◌, ◌≡◌, ◌≤◌}
use Rattle.gx_fifo.specs.declared.ports.GxPort.TheVariants.{Display, Status}

-- An access that lies in one register, whatever its width.

pub value_whole : (proc : Proc) (now : Tick) (u : IoState) (at : ℕ) (width : Width) (slot : Slot) → whole_in width (slot_of proc at) ≡ Some slot
    → port_value proc now u at width ≡ slot_value proc now u width slot
unfolding port_value
value_whole proc now u at width slot h = rw h refl

pub read_whole : (proc : Proc) (now : Tick) (u : IoState) (at : ℕ) (slot : Slot) → whole_in Word (slot_of proc at) ≡ Some slot
    → port_read proc now u at Word ≡ (meaning_of slot.register).after_read proc now u
unfolding port_read
read_whole proc now u at slot h = rw h refl

pub read_narrow : (proc : Proc) (now : Tick) (u : IoState) (at : ℕ) (width : Width) → not (is_whole_word width) ≡ true
    → port_read proc now u at width ≡ u
unfolding port_read
read_narrow proc now u at Byte h = refl
read_narrow proc now u at Half h = refl
read_narrow proc now u at Word h = absurd (grind (arith, h))

pub read_apart : (proc : Proc) (now : Tick) (u : IoState) (at : ℕ) (width : Width) → whole_in width (slot_of proc at) ≡ None → port_read proc now u at width ≡ u
unfolding port_read
read_apart proc now u at Byte h = refl
read_apart proc now u at Half h = refl
read_apart proc now u at Word h = rw h refl

pub refusal_whole : (proc : Proc) (u : IoState) (at : ℕ) (width : Width) (value : ℕ) (slot : Slot) → whole_in width (slot_of proc at) ≡ Some slot
    → port_refusal proc u at width value ≡ slot_refusal proc u width slot value
unfolding port_refusal
refusal_whole proc u at width value slot h = rw h refl

pub written_whole : (proc : Proc) (now : Tick) (u : IoState) (at : ℕ) (width : Width) (value : ℕ) (slot : Slot) → whole_in width (slot_of proc at) ≡ Some slot
    → port_written proc now u at width value ≡ slot_written proc now u width slot value
unfolding port_written
written_whole proc now u at width value slot h = rw h refl

-- ---- a whole word of GXFIFO or of a command's port, which refuses none

kept_few : (port : GxPort) (s : GxState) → IsGx s → kept_port port s < 2 ^ 32
unfolding kept_port
kept_few Display s is = let l = is.display in omega (arith, l)
kept_few Status s is = let l = is.selector in omega (arith, l)
kept_few _ s is = omega arith

joined_whole : (byte kept value : ℕ) → byte ≡ 0 → kept < 2 ^ 32 → value < 2 ^ 32 → with_bytes_from Word byte kept value ≡ value
joined_whole byte kept value first few l = rw first (omega (arith, few, l))

pub command_refusal : (proc : Proc) (u : IoState) (slot : Slot) (value : ℕ) → slot.register ≡ GxCommand → slot_refusal proc u Word slot value ≡ None
command_refusal proc u slot value is = rw is refl

pub command_written : (proc : Proc) (now : Tick) (u : IoState) (slot : Slot) (value : ℕ) → slot.register ≡ GxCommand → slot.byte + 4 ≤ 4 → value < 2 ^ 32 → IsGx u.gx
    → slot_written proc now u Word slot value ≡ after_write proc now u GxCommand slot.number value
command_written proc now u slot value is whole l gx =
    let first : slot.byte ≡ 0 = omega (arith, whole) in
    rw is (ap (λ (word : ℕ). after_write proc now u GxCommand slot.number word) (joined_whole slot.byte (gx_kept u.gx slot.number) value first (kept_few (gx_port slot.number) u.gx gx) l))

pub command_put : (proc : Proc) (now : Tick) (u : IoState) (width : Width) (slot : Slot) (value : ℕ) → width ≡ Word → slot.register ≡ GxCommand
    → slot.byte + width_bytes width ≤ 4 → value < 2 ^ 32 → IsGx u.gx
    → unless_stopped (slot_refusal proc u width slot value) u (slot_written proc now u width slot value) ≡ after_write proc now u GxCommand slot.number value
command_put proc now u width slot value e is whole l gx =
    let there : slot.byte + 4 ≤ 4 = subst (λ (w : Width). slot.byte + width_bytes w ≤ 4) e whole in
    rw e (rw (command_refusal proc u slot value is) (command_written proc now u slot value is there l gx))
