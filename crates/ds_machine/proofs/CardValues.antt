use Rattle.ds_machine.proofs.Words.{Bool, Byte, CardData, Dtcm, Half, IfSome, IoState, IsSlot, Itcm, MapState, Nine, NineReach, None, Option, Past}
use Rattle.ds_machine.proofs.Words.{Place, Proc, Register, Seven, Slot, Some, Tcm, Tick, Width, Word, aligned_down, ap, arith, card_byte}
use Rattle.ds_machine.proofs.Words.{data_port_at, false, le_of, map_value, meaning_of, nat_le, none-some, place_of, refl, slot_of, tcm_of, true}
use Rattle.ds_machine.proofs.Words.{unwrap_or, value_at, value_by, width_bytes, ℕ, ◌%◌, ◌+◌, ◌^◌, ◌∙◌, ◌≡◌, ◌≤◌}
use Rattle.ds_machine.proofs.NineReads.{tcm_value}
use Rattle.ds_ports.specs.Ports.{whole_if, whole_in, part, port_value, read_or, values_from}
use Rattle.ds_machine.specs.CardSteps.{map_word, place_word, register_word, slot_word, tcm_word, LoadsGiveWords, ReadsGiveWords}
use Rattle.ds_places.specs.declared.kinds.Place.TheVariants as place
use Rattle.ds_ports.proofs.RegisterMaps.{some_slot}

-- A word of the card's that a read takes is the value that it gets.

module _ (proc : Proc) (now : Tick) (u : IoState) (word : ℕ) where
  register_gives : (register : Register) (number : ℕ) → register_word proc u.card register ≡ Some word
      → (meaning_of register).value proc now u number ≡ word
  register_gives CardData number h = ap (λ (o : Option ℕ). unwrap_or o (value_by Word (card_byte u.card proc) (aligned_down Word data_port_at))) h
  register_gives register number h = absurd (none-some word h)

  whole_number : (n : ℕ) → part Word 0 n ≡ n % 2 ^ 32
  whole_number n = omega arith

  -- a register that has all bytes of a word has no others, so all of it is read
  first_byte : (byte bytes : ℕ) → byte + width_bytes Word ≤ bytes → bytes ≤ 4 → byte ≡ 0
  first_byte byte bytes h k = omega (arith, h, k)

  whole_gives : (b : Bool) (slot : Slot) (other : ℕ) → nat_le (slot.byte + width_bytes Word) slot.bytes ≡ b → IsSlot slot
      → slot_word proc u.card (whole_if b slot) ≡ Some word → read_or proc now u Word (whole_if b slot) other ≡ word % 2 ^ 32
  whole_gives true slot other e is h =
      let value = (meaning_of slot.register).value proc now u slot.number in
      ap (λ (n : ℕ). part Word n value) (first_byte slot.byte slot.bytes (le_of (slot.byte + width_bytes Word) slot.bytes e) is.bytes)
      ∙ ap (part Word 0) (register_gives slot.register slot.number h) ∙ whole_number word
  whole_gives false slot other e is h = absurd (none-some word h)

  slot_gives : (slot : Option Slot) (other : ℕ) → IfSome slot IsSlot → slot_word proc u.card (whole_in Word slot) ≡ Some word
      → read_or proc now u Word (whole_in Word slot) other ≡ word % 2 ^ 32
  slot_gives None other is h = absurd (none-some word h)
  slot_gives (Some slot) other is h = whole_gives (nat_le (slot.byte + width_bytes Word) slot.bytes) slot other refl is h

place_gives : (proc : Proc) (now : Tick) (where_ : Place) (m : MapState) (width : Width) (word : ℕ) → place_word proc where_ m width ≡ Some word
    → value_at proc now where_ m width ≡ word % 2 ^ 32
unfolding port_value
place_gives proc now (place.Port at) m Word word h =
    let down = aligned_down Word at in
    slot_gives proc now m.io word (slot_of proc down) (values_from proc now m.io down 4) (some_slot proc down) h
place_gives proc now (place.Port at) m Byte word h = absurd (none-some word h)
place_gives proc now (place.Port at) m Half word h = absurd (none-some word h)
place_gives proc now (place.Cell memory at) m width word h = absurd (none-some word h)
place_gives proc now (place.Banks space at) m width word h = absurd (none-some word h)
place_gives proc now (place.Rom at) m width word h = absurd (none-some word h)
place_gives proc now place.Nothing m width word h = absurd (none-some word h)

pub reads_give_words : ReadsGiveWords
unfolding map_value map_word
reads_give_words proc now m at word width h = place_gives proc now (place_of proc m.io.wramcnt at) m width word h

tcm_gives : (t : Tcm) (r : NineReach) (at word : ℕ) (width : Width) → tcm_word t r at width ≡ Some word → tcm_value t r at width ≡ word % 2 ^ 32
tcm_gives (Itcm place) r at word width h = absurd (none-some word h)
tcm_gives (Dtcm place) r at word width h = absurd (none-some word h)
tcm_gives Past r at word width h = reads_give_words Nine r.now r.map at word width h

pub loads_give_words : LoadsGiveWords
loads_give_words = record {
  nine = λ r at word width h. tcm_gives (tcm_of r.cp15 at false false) r at word width h;
  seven = λ r at word width h. reads_give_words Seven r.now r.map at word width h;
}
