use Rattle.std.proofs.Common.{ℕ, ◌≡◌, ◌+◌, ◌*◌, ◌%◌, ◌/◌, ◌^◌, ◌<◌, ◌≤◌, ◌==◌, ◌||◌, ◌&&◌, not, Bool, true, false, List, [], ◌∷◌, ◌++◌, length, sum, inl, inr, Option, Some, nat_le, refl, sym, ◌∙◌, ap, subst, arith, bit_xor}
use Rattle.std.proofs.lemmas.Bool.{eqb-true, eq-eqb}
use Rattle.std.proofs.lemmas.List.{append-nil, append_assoc, length-append}
use Rattle.std.proofs.lemmas.List.Sums.{fold-append}
use Rattle.std.specs.List.{fold}
use Rattle.ds_base.proofs.Choices.{if_false, if_true, true_or_false}
use Rattle.ds_base.specs.Digits.{hex_digit}
use Rattle.gdb_packets.specs.Packets.{escaped, escaped_byte, stands_for_else}
use Rattle.gdb_packets.specs.Hearing.{Hearing, HearsNothing, PacketsAreHeard, answer_at, byte_counted, hex_value, packet_ended, heard, heard_at, heard_more, heard_none, byte_kept}
use Rattle.gdb_packets.specs.declared.framing.Heard.TheVariants.{Broken, Packet}
use Rattle.gdb_packets.specs.declared.framing.Place.{Place}
use Rattle.gdb_packets.specs.declared.framing.Place.TheVariants.{Body, Escaped, First, Second}

-- A packet that goes out comes in.

-- in a body, of which so much is kept, with a sum so far
abbrev inside : List ℕ → ℕ → Hearing
inside body total = record { body = body; place = Body; total = total; is_long = false }

hears_then : (a b : List ℕ) (start middle end : Hearing) → HearsNothing a start middle → HearsNothing b middle end → HearsNothing (a ++ b) start end
hears_then [] b start middle end (heard_none h) other = other
hears_then (x ∷ a) b start middle end (heard_more byte rest h last nothing others) other =
    heard_more x (a ++ b) start end nothing (hears_then a b (heard start x) middle end others other)

kept_short : (h : Hearing) (byte : ℕ) → length h.body < 0x8000 → byte_kept h byte ≡ record h { body = h.body ++ byte ∷ [] }
kept_short h byte short = if_false (nat_le 0x8000 (length h.body)) _ _ (grind (arith, short))

-- ---- one byte of a body

module _ (done : List ℕ) (total : ℕ) (short : length done < 0x8000) where
  abbrev after : ℕ → ℕ → Hearing
  after byte more = inside (done ++ byte ∷ []) ((total + more) % 256)

  -- one that has an escape
  escape_heard : (turned : ℕ) → HearsNothing (125 ∷ turned ∷ []) (inside done total) (after (bit_xor turned 32) (sum (125 ∷ turned ∷ [])))
  escape_heard turned =
      let first = byte_counted (inside done total) Escaped 125 in
      let is : heard first turned ≡ after (bit_xor turned 32) (sum (125 ∷ turned ∷ [])) =
      kept_short (byte_counted first Body turned) (bit_xor turned 32) short ∙ ap (λ (n : ℕ). inside (done ++ bit_xor turned 32 ∷ []) n) (sums total turned) in
      heard_more 125 (turned ∷ []) (inside done total) _ refl (heard_more turned [] first _ refl (subst (HearsNothing [] (heard first turned)) is (heard_none (heard first turned)))) where
        sums : (a b : ℕ) → ((a + 125) % 256 + b) % 256 ≡ (a + (125 + b)) % 256
        sums a b = omega arith

  -- one that stands for itself
  plain_heard : (byte : ℕ) → (byte == 35) ≡ false → (byte == 36) ≡ false → (byte == 125) ≡ false → HearsNothing (byte ∷ []) (inside done total) (after byte (sum (byte ∷ [])))
  plain_heard byte no35 no36 no125 =
      let is : heard (inside done total) byte ≡ after byte (sum (byte ∷ [])) =
      if_false (byte == 35) _ _ no35 ∙ if_false (byte == 36) _ _ no36 ∙ if_false (byte == 125) _ _ no125
      ∙ kept_short (byte_counted (inside done total) Body byte) byte short ∙ ap (λ (n : ℕ). inside (done ++ byte ∷ []) n) (sums total byte) in
      heard_more byte [] (inside done total) _ refl (subst (HearsNothing [] (heard (inside done total) byte)) is (heard_none (heard (inside done total) byte))) where
        sums : (a b : ℕ) → (a + b) % 256 ≡ (a + (0 + b)) % 256
        sums a b = omega arith

  abbrev IsHeard : ℕ → Type 0
  IsHeard byte = HearsNothing (escaped_byte byte) (inside done total) (after byte (sum (escaped_byte byte)))

  at_byte : (byte value : ℕ) → (byte == value) ≡ true → IsHeard value → IsHeard byte
  at_byte byte value same is = subst IsHeard (sym (eqb-true byte value same)) is

  byte_heard : (byte : ℕ) → IsHeard byte
  byte_heard byte = elim (true_or_false (byte == 35)) [
    | inl is35 ↦ at_byte byte 35 is35 (escape_heard 3)
    | inr no35 ↦ elim (true_or_false (byte == 36)) [
      | inl is36 ↦ at_byte byte 36 is36 (escape_heard 4)
      | inr no36 ↦ elim (true_or_false (byte == 42)) [
        | inl is42 ↦ at_byte byte 42 is42 (escape_heard 10)
        | inr no42 ↦ elim (true_or_false (byte == 125)) [
          | inl is125 ↦ at_byte byte 125 is125 (escape_heard 93)
          | inr no125 ↦ subst (λ (bytes : List ℕ). HearsNothing bytes (inside done total) (after byte (sum bytes)))
              (sym (if_false (stands_for_else byte) _ _ (none (byte == 35) (byte == 36) (byte == 42) (byte == 125) no35 no36 no42 no125))) (plain_heard byte no35 no36 no125)
        ]
      ]
    ]
  ] where
    none : (a b c d : Bool) → a ≡ false → b ≡ false → c ≡ false → d ≡ false → (a || b || c || d) ≡ false
    none a b c d e f g h = rw e (rw f (rw g h))

-- ---- a whole body

sum_from : (n : ℕ) (a : List ℕ) → fold ◌+◌ n a ≡ n + fold ◌+◌ 0 a
sum_from n [] = omega arith
sum_from n (x ∷ a) = let e = sum_from (n + x) a in let f = sum_from (0 + x) a in omega (arith, e, f)

sum_both : (a b : List ℕ) → sum (a ++ b) ≡ sum a + sum b
sum_both a b = fold-append ◌+◌ 0 a b ∙ sum_from (sum a) b

modulo : (n : ℕ) → n % 256 < 256
modulo n = omega arith

body_heard : (body done : List ℕ) (total : ℕ) → total < 256 → length done + length body ≤ 0x8000
    → HearsNothing (escaped body) (inside done total) (inside (done ++ body) ((total + sum (escaped body)) % 256))
body_heard [] done total low short =
    subst (HearsNothing [] (inside done total)) (ap (λ (b : List ℕ). inside b total) (sym (append-nil done)) ∙ ap (inside (done ++ [])) (same total low)) (heard_none (inside done total)) where
      same : (n : ℕ) → n < 256 → n ≡ (n + 0) % 256
      same n lt = omega (arith, lt)
body_heard (byte ∷ body) done total low short =
    let one = sum (escaped_byte byte) in
    let others = sum (escaped body) in
    let total' = (total + one) % 256 in
    let first = byte_heard done total (lower done byte body short) byte in
    let rest = body_heard body (done ++ byte ∷ []) total' (modulo (total + one)) (longer done byte body short) in
    let is : inside ((done ++ byte ∷ []) ++ body) ((total' + others) % 256) ≡ inside (done ++ byte ∷ body) ((total + sum (escaped (byte ∷ body))) % 256) =
    ap (λ (b : List ℕ). inside b ((total' + others) % 256)) (append_assoc done (byte ∷ []) body)
    ∙ ap (inside (done ++ byte ∷ body)) (sums total one others ∙ ap (λ (n : ℕ). (total + n) % 256) (sym (sum_both (escaped_byte byte) (escaped body)))) in
    subst (HearsNothing (escaped (byte ∷ body)) (inside done total)) is
    (hears_then (escaped_byte byte) (escaped body) (inside done total) _ _ first rest) where
      lower : (done : List ℕ) (byte : ℕ) (body : List ℕ) → length done + length (byte ∷ body) ≤ 0x8000 → length done < 0x8000
      lower done byte body le = grind (arith, le)

      sums : (a b c : ℕ) → ((a + b) % 256 + c) % 256 ≡ (a + (b + c)) % 256
      sums a b c = omega arith

      longer : (done : List ℕ) (byte : ℕ) (body : List ℕ) → length done + length (byte ∷ body) ≤ 0x8000 → length (done ++ byte ∷ []) + length body ≤ 0x8000
      longer done byte body le = let e = length-append done (byte ∷ []) in omega (arith, le, e)

-- ---- its sum

digit_back : (d : ℕ) → d < 16 → hex_value (hex_digit d) ≡ Some d
digit_back d lt = grind (arith, lt)

digit : (total : ℕ) → total / 16 ^ 1 % 16 < 16
digit total = omega arith

last_digit : (total : ℕ) → total / 16 ^ 0 % 16 < 16
last_digit total = omega arith

-- so its two digits tell it
packet_by : (total : ℕ) (a b : Option ℕ) → total < 256 → a ≡ Some (total / 16 ^ 1 % 16) → b ≡ Some (total / 16 ^ 0 % 16) → (body : List ℕ) (place : Place)
    → packet_ended (record { body = body; place = place; total = total; is_long = false }) a b ≡ Packet
packet_by total a b low high_is low_is body place =
    let told = (total / 16 ^ 1 % 16 * 16 + total / 16 ^ 0 % 16) % 256 in
    let e : told ≡ total = omega (arith, low) in
    let same : ((told == total) && not false) ≡ true = rw (eq-eqb told total e) refl in
    rw high_is (rw low_is (if_true ((told == total) && not false) Packet Broken same))

pub packets_are_heard : PacketsAreHeard
packets_are_heard body start short place =
    let total = sum (escaped body) % 256 in
    let high = hex_digit (total / 16 ^ 1 % 16) in
    let low = hex_digit (total / 16 ^ 0 % 16) in
    let packet_begun : heard start 36 ≡ inside [] 0 = ap (λ (p : Place). heard_at p start 36) place in
    let before : Hearing = record { body = body; place = Second (hex_value high); total = total; is_long = false } in
    let same : (0 + sum (escaped body)) % 256 ≡ total = omega arith in
    let said = subst (λ (t : ℕ). HearsNothing (escaped body) (inside [] 0) (inside body t)) same (body_heard body [] 0 (omega arith) (grind (arith, short))) in
    let ends : HearsNothing (35 ∷ high ∷ []) (inside body total) before =
    heard_more 35 (high ∷ []) (inside body total) before refl (heard_more high [] (record { body = body; place = First; total = total; is_long = false }) before refl (heard_none before)) in
    record {
      front = 36 ∷ (escaped body ++ 35 ∷ high ∷ []);
      last = low;
      are = ap (λ (bytes : List ℕ). 36 ∷ bytes) (sym (append_assoc (escaped body) (35 ∷ high ∷ []) (low ∷ [])));
      before = before;
      nothing = heard_more 36 (escaped body ++ 35 ∷ high ∷ []) start before (ap (λ (p : Place). answer_at p start 36) place)
          (subst (λ (h : Hearing). HearsNothing (escaped body ++ 35 ∷ high ∷ []) h before) (sym packet_begun)
          (hears_then (escaped body) (35 ∷ high ∷ []) (inside [] 0) (inside body total) before said ends));
      packet = packet_by total (hex_value high) (hex_value low) (modulo (sum (escaped body))) (digit_back (total / 16 ^ 1 % 16) (digit total))
          (digit_back (total / 16 ^ 0 % 16) (last_digit total)) body (Second (hex_value high));
      keeps = refl;
      place = refl;
    }
