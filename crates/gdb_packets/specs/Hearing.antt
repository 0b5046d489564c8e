use Rattle.std.specs.Prelude.{ℕ, ◌+◌, ◌-◌, ◌*◌, ◌%◌, ◌≡◌, ◌≤◌, ◌==◌, ◌&&◌, not, nat_le, if◌then◌else◌, Bool, true, false, List, [], ◌∷◌, ◌++◌, length, Option, Some, None, bit_xor}
use Rattle.gdb_packets.specs.Packets.{packet_of}
use Rattle.gdb_packets.specs.declared.framing.Heard.{Heard}
use Rattle.gdb_packets.specs.declared.framing.Heard.TheVariants.{Nothing, Packet, Broken, Interrupt, Again}
use Rattle.gdb_packets.specs.declared.framing.Place.{Place}
use Rattle.gdb_packets.specs.declared.framing.Place.TheVariants.{Between, Body, Escaped, First, Second}

-- What comes in from gdb (its manual, appendix "GDB Remote Serial Protocol", "Overview" and "Interrupts").

-- how far a packet has come in: what is kept of its body, where the next byte stands, the sum of what stands between `$` and `#` so far, and whether
-- the body is too long to be kept
pub record Hearing : Type 0 where
  pub body : List ℕ
  pub place : Place
  pub total : ℕ
  pub is_long : Bool

-- `$` begins one
abbrev pub packet_begun : Hearing → ℕ → Hearing
packet_begun h byte = if byte == 36 then record { body = []; place = Body; total = 0; is_long = false } else h

-- a byte counts in the sum
abbrev pub byte_counted : Hearing → Place → ℕ → Hearing
byte_counted h place byte = record h { total = (h.total + byte) % 256; place = place }

-- a byte of the body is kept, up to 8000h of them
abbrev pub byte_kept : Hearing → ℕ → Hearing
byte_kept h byte = if nat_le 0x8000 (length h.body) then record h { is_long = true } else record h { body = h.body ++ byte ∷ [] }

-- in the body `#` ends it, `$` begins it anew, and `}` says that the next byte stands for itself with bit 5 turned
abbrev pub heard_in_body : Hearing → ℕ → Hearing
heard_in_body h byte =
    if byte == 35 then record h { place = First }
    else if byte == 36 then packet_begun h byte
    else if byte == 125 then byte_counted h Escaped byte
    else byte_kept (byte_counted h Body byte) byte

-- the value of a hexadecimal digit in either case
abbrev pub hex_value : ℕ → Option ℕ
hex_value byte =
    if nat_le 48 byte && nat_le byte 57 then Some (byte - 48)
    else if nat_le 97 byte && nat_le byte 102 then Some (byte - 97 + 10)
    else if nat_le 65 byte && nat_le byte 70 then Some (byte - 65 + 10)
    else None

-- how far it has come with one more byte
abbrev pub heard_at : Place → Hearing → ℕ → Hearing
heard_at Between h byte = packet_begun h byte
heard_at Body h byte = heard_in_body h byte
heard_at Escaped h byte = byte_kept (byte_counted h Body byte) (bit_xor byte 32)
heard_at First h byte = record h { place = Second (hex_value byte) }
heard_at (Second first) h byte = record h { place = Between }

abbrev pub heard : Hearing → ℕ → Hearing
heard h byte = heard_at h.place h byte

-- what the last digit of the sum completes
abbrev pub packet_ended : Hearing → Option ℕ → Option ℕ → Heard
packet_ended h (Some high) (Some low) = if ((high * 16 + low) % 256 == h.total) && not h.is_long then Packet else Broken
packet_ended h (Some high) None = Broken
packet_ended h None low = Broken

-- and a byte between packets
abbrev pub sign_of : ℕ → Heard
sign_of byte = if byte == 45 then Again else if byte == 3 then Interrupt else Nothing

-- what a byte completes
abbrev pub answer_at : Place → Hearing → ℕ → Heard
answer_at Between h byte = sign_of byte
answer_at Body h byte = Nothing
answer_at Escaped h byte = Nothing
answer_at First h byte = Nothing
answer_at (Second first) h byte = packet_ended h first (hex_value byte)

abbrev pub answer : Hearing → ℕ → Heard
answer h byte = answer_at h.place h byte

-- ---- a packet that goes out as ours do comes in whole

-- bytes one after another, each of which completes nothing
pub data HearsNothing : List ℕ → Hearing → Hearing → Type 0 where
  heard_none : (h : Hearing) → HearsNothing [] h h
  heard_more : (byte : ℕ) (rest : List ℕ) (h end : Hearing) → answer h byte ≡ Nothing → HearsNothing rest (heard h byte) end
      → HearsNothing (byte ∷ rest) h end

-- the last byte of some completes a packet of this body, and none before it anything
pub record HearsPacket (bytes : List ℕ) (start : Hearing) (body : List ℕ) : Type 0 where
  pub front : List ℕ
  pub last : ℕ
  pub are : bytes ≡ front ++ last ∷ []
  pub before : Hearing
  pub nothing : HearsNothing front start before
  pub packet : answer before last ≡ Packet
  pub keeps : (heard before last).body ≡ body
  pub place : (heard before last).place ≡ Between

-- between packets a packet of up to 8000h bytes, with its escapes and its sum, is heard as its body
abbrev pub PacketsAreHeard : Type 0
PacketsAreHeard = (body : List ℕ) (start : Hearing) → length body ≤ 0x8000 → start.place ≡ Between
    → HearsPacket (packet_of body) start body
