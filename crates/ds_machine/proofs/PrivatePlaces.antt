use Rattle.ds_machine.proofs.Words.{Bool, Byte, Cell, Contains, Half, List, MapState, None, Nothing, Own7, Place, Rom, Seven, Tick, Width, Word, []}
use Rattle.ds_machine.proofs.Words.{after_read_at, aligned_down, ap, arith, false, fetched_at, if◌then◌else◌, in_row, inl, inr, is_private_to_seven}
use Rattle.ds_machine.proofs.Words.{map_fetched, map_read, map_refusal, map_value, map_written, memory_size, nat_le, past_row, place_of, refl}
use Rattle.ds_machine.proofs.Words.{refusal_at, span, subst, suc, sym, true, true≢false, value_at, wait_at, width_bytes, with_number, written_at}
use Rattle.ds_machine.proofs.Words.{zero, ℕ, ◌%◌, ◌&&◌, ◌+◌, ◌-◌, ◌<◌, ◌^◌, ◌∙◌, ◌∷◌, ◌≡◌, ◌≤◌, ◌⊎◌}
use Rattle.std.proofs.lemmas.List.Elements.{Contains-append_left, Contains-append_right, Contains-push}
use Rattle.ds_places.specs.Waits.{wait_of}

-- An access's own address is private where all of its bytes are. ARM7's private places: the same stands there whatever WRAMCNT says, and an access of it reaches its own work RAM alone.

-- ---- an access's own address is one of its bytes

span_has : (first length k : ℕ) → k < length → Contains (span first length) ((first + k) % 2 ^ 32)
span_has first zero k lt = absurd (omega (arith, lt))
span_has first (suc length) zero lt =
    subst (λ (x : ℕ). Contains (span first (suc length)) x) (omega arith) (Contains-append_left (first % 2 ^ 32 ∷ []) (span (first + 1) length) (first % 2 ^ 32) (Contains-push [] (first % 2 ^ 32)))
span_has first (suc length) (suc k) lt =
    let at = (first + 1 + k) % 2 ^ 32 in
    subst (λ (x : ℕ). Contains (span first (suc length)) x) (omega arith) (Contains-append_right (first % 2 ^ 32 ∷ []) (span (first + 1) length) at (span_has (first + 1) length k (omega (arith, lt))))

-- it is so much past the aligned one
past_aligned : (width : Width) (at : ℕ) → (aligned_down width at + at % width_bytes width ≡ at) × (at % width_bytes width < width_bytes width)
past_aligned Byte at = (omega arith, omega arith)
past_aligned Half at = (omega arith, omega arith)
past_aligned Word at = (omega arith, omega arith)

pub own_byte : (width : Width) (at : ℕ) → Contains (span (aligned_down width at) (width_bytes width)) (at % 2 ^ 32)
own_byte width at =
    let e = past_aligned width at in
    subst (λ (x : ℕ). Contains (span (aligned_down width at) (width_bytes width)) (x % 2 ^ 32)) e.0 (span_has (aligned_down width at) (width_bytes width) (at % width_bytes width) e.1)

-- so it is private where all bytes are; or it is no address
pub private_itself : (is_private : ℕ → Bool) (width : Width) (at : ℕ) → at < 2 ^ 32
    → ((byte : ℕ) → Contains (span (aligned_down width at) (width_bytes width)) byte → is_private byte ≡ true) → is_private at ≡ true
private_itself is_private width at lt h =
    let same : at % 2 ^ 32 ≡ at = omega (arith, lt) in
    subst (λ (x : ℕ). is_private x ≡ true) same (h (at % 2 ^ 32) (own_byte width at))

-- ---- what stands at ARM7's private places

-- the boot ROM, its own work RAM, or nothing
abbrev pub is_own : Place → Bool
is_own (Rom at) = true
is_own Nothing = true
is_own (Cell Own7 at) = true
is_own place = false

pub record IsFixed (at : ℕ) (place : Place) : Type 0 where
  pub own : is_own place ≡ true
  pub stands : (wramcnt : ℕ) → place_of Seven wramcnt at ≡ place

-- they are below 4000h, and from 3800000h to 3FFFFFFh, or there is no address
abbrev pub low_place : ℕ → Place
low_place at =
    if nat_le 0x00000000 at && nat_le at 0x00003FFF then Rom (at - 0)
    else if nat_le 0x03800000 at && nat_le at 0x03FFFFFF then Cell Own7 (0 + (at - 0x03800000) % memory_size Own7)
    else Nothing

low_own : (a b : Bool) (x y : ℕ) → is_own (if a then Rom x else if b then Cell Own7 y else Nothing) ≡ true
low_own true b x y = refl
low_own false true x y = refl
low_own false false x y = refl

abbrev pub IsLow : ℕ → Type 0
IsLow at = (is_private_to_seven at ≡ true) ⊎ (2 ^ 32 ≤ at)

low_cases : (at : ℕ) → IsLow at → (at ≤ 0x3FFF) ⊎ (((0x03800000 ≤ at) × (at ≤ 0x03FFFFFF)) ⊎ (2 ^ 32 ≤ at))
low_cases at (inl h) = grind arith
low_cases at (inr h) = inr (inr h)

low_stands : (wramcnt at : ℕ) → (at ≤ 0x3FFF) ⊎ (((0x03800000 ≤ at) × (at ≤ 0x03FFFFFF)) ⊎ (2 ^ 32 ≤ at)) → place_of Seven wramcnt at ≡ low_place at
low_stands wramcnt at (inl le) = rw (in_row 0x00000000 0x00003FFF at (omega arith) le) refl
low_stands wramcnt at (inr (inl b)) =
    let low = b.0 in
    let high = b.1 in
    rw (
      past_row 0x00000000 0x00003FFF at (omega (arith, low)),
      past_row 0x02000000 0x02FFFFFF at (omega (arith, low)),
      past_row 0x03000000 0x037FFFFF at (omega (arith, low)),
      in_row 0x03800000 0x03FFFFFF at low high,
    ) refl
low_stands wramcnt at (inr (inr le)) =
    rw (
      past_row 0x00000000 0x00003FFF at (omega (arith, le)),
      past_row 0x02000000 0x02FFFFFF at (omega (arith, le)),
      past_row 0x03000000 0x037FFFFF at (omega (arith, le)),
      past_row 0x03800000 0x03FFFFFF at (omega (arith, le)),
      past_row 0x04000000 0x04FFFFFF at (omega (arith, le)),
      past_row 0x06000000 0x06FFFFFF at (omega (arith, le)),
    ) refl

pub low_fixed : (at : ℕ) → IsLow at → IsFixed at (low_place at)
low_fixed at h = record {
  own = low_own (nat_le 0x00000000 at && nat_le at 0x00003FFF) (nat_le 0x03800000 at && nat_le at 0x03FFFFFF) (at - 0) (0 + (at - 0x03800000) % memory_size Own7);
  stands = λ wramcnt. low_stands wramcnt at (low_cases at h);
}

-- so an access there waits as long whatever WRAMCNT says
pub fixed_wait : (at : ℕ) (place : Place) → IsFixed at place → (w v : ℕ) (width : Width) → wait_at Seven w at width ≡ wait_at Seven v at width
unfolding wait_at
fixed_wait at place fixed w v width = ap (λ (p : Place). wait_of Seven p width) (fixed.stands w ∙ sym (fixed.stands v))

-- ---- accesses of it

-- the map with another own work RAM
abbrev pub with_wram : List ℕ → MapState → MapState
with_wram wram m = record m { memories = record m.memories { wram = wram } }

-- what a write leaves of it
abbrev pub wram_written : Place → List ℕ → Width → ℕ → List ℕ
wram_written (Cell memory at) wram width value = with_number width wram (aligned_down width at) value
wram_written place wram width value = wram

value_alike : (place : Place) (now later : Tick) (wram : List ℕ) (m n : MapState) (width : Width) → is_own place ≡ true
    → value_at Seven now place (with_wram wram m) width ≡ value_at Seven later place (with_wram wram n) width
value_alike (Rom at) now later wram m n width own = refl
value_alike Nothing now later wram m n width own = refl
value_alike (Cell Own7 at) now later wram m n width own = refl
value_alike place now later wram m n width own = absurd (true≢false (sym own))

fetch_alike : (place : Place) (wram : List ℕ) (m n : MapState) (width : Width) → is_own place ≡ true
    → fetched_at Seven place (with_wram wram m) width ≡ fetched_at Seven place (with_wram wram n) width
fetch_alike (Rom at) wram m n width own = refl
fetch_alike Nothing wram m n width own = refl
fetch_alike (Cell Own7 at) wram m n width own = refl
fetch_alike place wram m n width own = absurd (true≢false (sym own))

read_leaves : (now : Tick) (place : Place) (m : MapState) (width : Width) → is_own place ≡ true → after_read_at Seven now place m width ≡ m
read_leaves now (Rom at) m width own = refl
read_leaves now Nothing m width own = refl
read_leaves now (Cell Own7 at) m width own = refl
read_leaves now place m width own = absurd (true≢false (sym own))

none_refused : (place : Place) (m : MapState) (width : Width) (value : ℕ) → is_own place ≡ true → refusal_at Seven place m width value ≡ None
none_refused (Rom at) m width value own = refl
none_refused Nothing m width value own = refl
none_refused (Cell Own7 at) m width value own = refl
none_refused place m width value own = absurd (true≢false (sym own))

write_leaves : (place : Place) (now : Tick) (wram : List ℕ) (m : MapState) (width : Width) (value : ℕ) → is_own place ≡ true
    → written_at Seven now place (with_wram wram m) width value ≡ with_wram (wram_written place wram width value) m
write_leaves (Rom at) now wram m width value own = refl
write_leaves Nothing now wram m width value own = refl
write_leaves (Cell Own7 at) now wram m width value own = refl
write_leaves place now wram m width value own = absurd (true≢false (sym own))

module _ (at : ℕ) (place : Place) (fixed : IsFixed at place) (width : Width) where
  pub map_value_alike : (now later : Tick) (wram : List ℕ) (m n : MapState)
      → map_value Seven now (with_wram wram m) at width ≡ map_value Seven later (with_wram wram n) at width
  unfolding map_value
  map_value_alike now later wram m n =
      ap (λ (p : Place). value_at Seven now p (with_wram wram m) width) (fixed.stands m.io.wramcnt)
      ∙ value_alike place now later wram m n width fixed.own
      ∙ ap (λ (p : Place). value_at Seven later p (with_wram wram n) width) (sym (fixed.stands n.io.wramcnt))

  pub map_fetched_alike : (wram : List ℕ) (m n : MapState) → map_fetched Seven (with_wram wram m) at width ≡ map_fetched Seven (with_wram wram n) at width
  unfolding map_fetched
  map_fetched_alike wram m n =
      ap (λ (p : Place). fetched_at Seven p (with_wram wram m) width) (fixed.stands m.io.wramcnt)
      ∙ fetch_alike place wram m n width fixed.own
      ∙ ap (λ (p : Place). fetched_at Seven p (with_wram wram n) width) (sym (fixed.stands n.io.wramcnt))

  pub map_read_leaves : (now : Tick) (m : MapState) → map_read Seven now m at width ≡ m
  unfolding map_read
  map_read_leaves now m = ap (λ (p : Place). after_read_at Seven now p m width) (fixed.stands m.io.wramcnt) ∙ read_leaves now place m width fixed.own

  pub map_none_refused : (m : MapState) (value : ℕ) → map_refusal Seven m at width value ≡ None
  unfolding map_refusal
  map_none_refused m value = ap (λ (p : Place). refusal_at Seven p m width value) (fixed.stands m.io.wramcnt) ∙ none_refused place m width value fixed.own

  pub map_write_leaves : (now : Tick) (wram : List ℕ) (m : MapState) (value : ℕ)
      → map_written Seven now (with_wram wram m) at width value ≡ with_wram (wram_written place wram width value) m
  unfolding map_written
  map_write_leaves now wram m value =
      ap (λ (p : Place). written_at Seven now p (with_wram wram m) width value) (fixed.stands m.io.wramcnt) ∙ write_leaves place now wram m width value fixed.own
