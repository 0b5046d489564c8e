use Rattle.ds_machine.proofs.Words.{Access, AllReachPrivate, Arch, Bool, Contains, Fetch, FetchStaysPrivate, Half, Instr, InstrReaches}
use Rattle.ds_machine.proofs.Words.{InstrStaysPrivate, IsFootprint, List, MachineState, MemoryMachine, Nine, Option, Proc, ProcessorStaysPrivate}
use Rattle.ds_machine.proofs.Words.{Reach, ReachesPrivate, Read, RegisterState, Seven, SideOf, Some, StaysPrivate, V4, V5, Width, Word, Write, []}
use Rattle.ds_machine.proofs.Words.{access_bytes, and_from, and_parts, ap, architecture_of, arith, data_accesses, data_private, decoded_arm}
use Rattle.ds_machine.proofs.Words.{decoded_thumb, false, fetch_of, fetched, fetched_half, fetched_word, if◌then◌else◌, inl, inr, instr_at}
use Rattle.ds_machine.proofs.Words.{is_private_to, is_thumb, length, list_all, may_go_ahead, meaning, next_fetch, nine_memory, nine_reach, nine_side}
use Rattle.ds_machine.proofs.Words.{not, processor_of, refl, seven_memory, seven_reach, seven_side, span, subst, suc, sym, tick_of, true, true≢false}
use Rattle.ds_machine.proofs.Words.{ℕ, ◌%◌, ◌&&◌, ◌++◌, ◌+◌, ◌-◌, ◌<◌, ◌^◌, ◌||◌, ◌↔◌, ◌∙◌, ◌∷◌, ◌≡◌}
use Rattle.std.proofs.lemmas.List.Elements.{Contains-append_left, Contains-append_right, All-contains, Contains-append_cases}
use Rattle.arm_core.specs.FootprintLaws.{AreOfData, AreAsTold, AreReads, AreWrites, Covers, accessed_bytes, touched_bytes}
use Rattle.std.proofs.lemmas.List.Sums.{AllPass-from_list_all}
use Rattle.arm_core.specs.declared.touches.Touch.{Touch}

-- What the code tells of private places is so.

-- ---- tests of all bytes

pub all_of : (p : ℕ → Bool) (xs : List ℕ) → ((x : ℕ) → Contains xs x → p x ≡ true) → list_all p xs ≡ true
all_of p [] h = refl
all_of p (x ∷ xs) h = and_from (p x) (list_all p xs) (h x (0, omega arith, refl)) (all_of p xs (λ y c. h y (suc c.0, (let lt = c.1 in omega (arith, lt)), c.2)))

each_of : (p : ℕ → Bool) (xs : List ℕ) → list_all p xs ≡ true → (x : ℕ) → Contains xs x → p x ≡ true
each_of p xs h x c = All-contains (λ y. p y ≡ true) xs x (AllPass-from_list_all p xs h) c

-- of a span, one byte on: a loop over it
pub span_more : (p : ℕ → Bool) (first i length : ℕ) → i < length → p ((first + i) % 2 ^ 32) ≡ true
    → list_all p (span (first + (i + 1)) (length - (i + 1))) ≡ list_all p (span (first + i) (length - i))
span_more p first i length lt h =
    let left : length - i ≡ suc (length - (i + 1)) = omega (arith, lt) in
    let next : first + (i + 1) ≡ first + i + 1 = omega arith in
    let rest = list_all p (span (first + i + 1) (length - (i + 1))) in
    ap (λ (n : ℕ). list_all p (span n (length - (i + 1)))) next ∙ sym (ap (λ (b : Bool). b && rest) h)
    ∙ ap (λ (n : ℕ). list_all p (span (first + i) n)) (sym left)

pub span_ends : (p : ℕ → Bool) (first i length : ℕ) → i < length → p ((first + i) % 2 ^ 32) ≡ false → list_all p (span (first + i) (length - i)) ≡ false
span_ends p first i length lt h =
    let left : length - i ≡ suc (length - (i + 1)) = omega (arith, lt) in
    let rest = list_all p (span (first + i + 1) (length - (i + 1))) in
    ap (λ (n : ℕ). list_all p (span (first + i) n)) left ∙ ap (λ (b : Bool). b && rest) h

-- ---- accesses by their bytes

abbrev pub Passes : (ℕ → Bool) → List ℕ → Type 0
Passes p bytes = (byte : ℕ) → Contains bytes byte → p byte ≡ true

none_passes : (p : ℕ → Bool) (bytes : List ℕ) → bytes ≡ [] → Passes p bytes
none_passes p [] h byte c = let lt = c.1 in absurd (omega (arith, lt))
none_passes p (x ∷ xs) h byte c = let e = ap (λ (l : List ℕ). length l) h in absurd (omega (arith, e))

module _ {S : Type 0} (side : SideOf S) (state : S) where
  reads_reach : (accesses : List Access) → AreReads accesses → Passes (side.is_private state false false) (accessed_bytes accesses) → AllReachPrivate side state accesses
  reads_reach [] are h = tt
  reads_reach (Read at width ∷ rest) are h =
      let one = access_bytes (Read at width) in (
        λ byte c. h byte (Contains-append_left one (accessed_bytes rest) byte c),
        reads_reach rest are (λ byte c. h byte (Contains-append_right one (accessed_bytes rest) byte c)),
      )
  reads_reach (Fetch at width ∷ rest) are h = absurd are
  reads_reach (Write at width value ∷ rest) are h = absurd are

  reads_reached : (accesses : List Access) → AreReads accesses → AllReachPrivate side state accesses → Passes (side.is_private state false false) (accessed_bytes accesses)
  reads_reached [] are h = none_passes (side.is_private state false false) [] refl
  reads_reached (Read at width ∷ rest) are h = λ byte c.
      elim (Contains-append_cases (access_bytes (Read at width)) (accessed_bytes rest) byte c) [ inl here ↦ h.0 byte here | inr there ↦ reads_reached rest are h.1 byte there ]
  reads_reached (Fetch at width ∷ rest) are h = absurd are
  reads_reached (Write at width value ∷ rest) are h = absurd are

  writes_reach : (accesses : List Access) → AreWrites accesses → Passes (side.is_private state true false) (accessed_bytes accesses) → AllReachPrivate side state accesses
  writes_reach [] are h = tt
  writes_reach (Write at width value ∷ rest) are h =
      let one = access_bytes (Write at width value) in (
        λ byte c. h byte (Contains-append_left one (accessed_bytes rest) byte c),
        writes_reach rest are (λ byte c. h byte (Contains-append_right one (accessed_bytes rest) byte c)),
      )
  writes_reach (Fetch at width ∷ rest) are h = absurd are
  writes_reach (Read at width ∷ rest) are h = absurd are

  writes_reached : (accesses : List Access) → AreWrites accesses → AllReachPrivate side state accesses → Passes (side.is_private state true false) (accessed_bytes accesses)
  writes_reached [] are h = none_passes (side.is_private state true false) [] refl
  writes_reached (Write at width value ∷ rest) are h = λ byte c.
      elim (Contains-append_cases (access_bytes (Write at width value)) (accessed_bytes rest) byte c) [ inl here ↦ h.0 byte here | inr there ↦ writes_reached rest are h.1 byte there ]
  writes_reached (Fetch at width ∷ rest) are h = absurd are
  writes_reached (Read at width ∷ rest) are h = absurd are

  -- a read and a write of one place
  swap_bytes : (at : ℕ) (width : Width) (value byte : ℕ) → Contains (accessed_bytes (Read at width ∷ Write at width value ∷ [])) byte → Contains (access_bytes (Read at width)) byte
  swap_bytes at width value byte c =
      let one = access_bytes (Read at width) in
      elim (Contains-append_cases one (one ++ []) byte c) [
        | inl here ↦ here
        | inr there ↦ elim (Contains-append_cases one [] byte there) [ inl here ↦ here | inr none ↦ (let lt = none.1 in absurd (omega (arith, lt))) ]
      ]

  reach_by : (r w : Bool) (accesses : List Access) → AreAsTold r w accesses → (r ≡ true → Passes (side.is_private state false false) (accessed_bytes accesses))
      → (w ≡ true → Passes (side.is_private state true false) (accessed_bytes accesses)) → AllReachPrivate side state accesses
  reach_by true true accesses suits h k =
      let at = suits.0 in
      let width = suits.1 in
      let value = suits.2 in
      let one = access_bytes (Read at width) in
      let all = subst (λ (l : List Access). Passes (side.is_private state false false) (accessed_bytes l)) suits.3 (h refl) in
      let all_w = subst (λ (l : List Access). Passes (side.is_private state true false) (accessed_bytes l)) suits.3 (k refl) in
      subst (AllReachPrivate side state) (sym suits.3)
      (λ byte c. all byte (Contains-append_left one (one ++ []) byte c), (λ byte c. all_w byte (Contains-append_left one (one ++ []) byte c), tt))
  reach_by true false accesses suits h k = reads_reach accesses suits (h refl)
  reach_by false true accesses suits h k = writes_reach accesses suits (k refl)
  reach_by false false accesses suits h k = subst (AllReachPrivate side state) (sym suits) tt

  reads_by : (r w : Bool) (accesses : List Access) → AreAsTold r w accesses → AllReachPrivate side state accesses → r ≡ true → Passes (side.is_private state false false) (accessed_bytes accesses)
  reads_by true true accesses suits h e =
      let both_in = subst (AllReachPrivate side state) suits.3 h in
      subst (λ (l : List Access). Passes (side.is_private state false false) (accessed_bytes l)) (sym suits.3)
      (λ byte c. both_in.0 byte (swap_bytes suits.0 suits.1 suits.2 byte c))
  reads_by true false accesses suits h e = reads_reached accesses suits h
  reads_by false w accesses suits h e = absurd (true≢false (sym e))

  writes_by : (r w : Bool) (accesses : List Access) → AreAsTold r w accesses → AllReachPrivate side state accesses → w ≡ true → Passes (side.is_private state true false) (accessed_bytes accesses)
  writes_by true true accesses suits h e =
      let both_in = subst (AllReachPrivate side state) suits.3 h in
      subst (λ (l : List Access). Passes (side.is_private state true false) (accessed_bytes l)) (sym suits.3)
      (λ byte c. both_in.1.0 byte (swap_bytes suits.0 suits.1 suits.2 byte c))
  writes_by false true accesses suits h e = writes_reached accesses suits h
  writes_by r false accesses suits h e = absurd (true≢false (sym e))

  -- ---- by a touch that covers them

  over_touch : (p : ℕ → Bool) (touch : Touch) (accesses : List Access) → Covers touch accesses → list_all p (touched_bytes touch) ≡ true → Passes p (accessed_bytes accesses)
  over_touch p touch accesses covers h byte c = each_of p (touched_bytes touch) h byte ((covers byte).1 c)

  touch_over : (p : ℕ → Bool) (touch : Touch) (accesses : List Access) → Covers touch accesses → Passes p (accessed_bytes accesses) → list_all p (touched_bytes touch) ≡ true
  touch_over p touch accesses covers h = all_of p (touched_bytes touch) (λ byte c. h byte ((covers byte).0 c))

  abbrev pub tested : Bool → Bool → Touch → Bool
  tested r w touch =
      (not r || list_all (side.is_private state false false) (touched_bytes touch)) && (not w || list_all (side.is_private state true false) (touched_bytes touch))

  where_so : (r b : Bool) → (not r || b) ≡ true → r ≡ true → b ≡ true
  where_so true b h e = h
  where_so false b h e = absurd (true≢false (sym e))

  so_where : (r b : Bool) → (r ≡ true → b ≡ true) → (not r || b) ≡ true
  so_where true b h = h refl
  so_where false b h = refl

  pub data_passes : (r w : Bool) (touch : Touch) (accesses : List Access) → AreAsTold r w accesses → Covers touch accesses → tested r w touch ≡ true → AllReachPrivate side state accesses
  data_passes r w touch accesses suits covers h =
      let p = side.is_private state false false in
      let q = side.is_private state true false in
      let a = not r || list_all p (touched_bytes touch) in
      let b = not w || list_all q (touched_bytes touch) in
      reach_by r w accesses suits (λ e. over_touch p touch accesses covers (where_so r (list_all p (touched_bytes touch)) (and_parts a b h).0 e))
      (λ e. over_touch q touch accesses covers (where_so w (list_all q (touched_bytes touch)) (and_parts a b h).1 e))

  pub data_passed : (r w : Bool) (touch : Touch) (accesses : List Access) → AreAsTold r w accesses → Covers touch accesses → AllReachPrivate side state accesses → tested r w touch ≡ true
  data_passed r w touch accesses suits covers h =
      let p = side.is_private state false false in
      let q = side.is_private state true false in
      let a = not r || list_all p (touched_bytes touch) in
      let b = not w || list_all q (touched_bytes touch) in
      and_from a b (so_where r (list_all p (touched_bytes touch)) (λ e. touch_over p touch accesses covers (reads_by r w accesses suits h e)))
      (so_where w (list_all q (touched_bytes touch)) (λ e. touch_over q touch accesses covers (writes_by r w accesses suits h e)))

  instr_is : (s : RegisterState) (instr : Instr) (reach : Reach) → Covers reach.touch (meaning side.step.arch (side.step.base state) s instr).accesses
      → AreAsTold reach.reads reach.writes (meaning side.step.arch (side.step.base state) s instr).accesses
      → ((may_go_ahead side.step.arch (Some instr) && tested reach.reads reach.writes reach.touch) ≡ true) ↔ InstrReaches side state s instr
  instr_is s instr reach covers told =
      let m = meaning side.step.arch (side.step.base state) s instr in
      let test = tested reach.reads reach.writes reach.touch in
      let go = may_go_ahead side.step.arch (Some instr) in (
        λ h. ((and_parts go test h).0, data_passes reach.reads reach.writes reach.touch m.accesses told covers (and_parts go test h).1),
        λ k. and_from go test k.0 (data_passed reach.reads reach.writes reach.touch m.accesses told covers k.1),
      )

  fetch_is : (s : RegisterState) (touch : Touch) (at : ℕ) (width : Width) → Fetch at width ≡ next_fetch s → touched_bytes touch ≡ access_bytes (Fetch at width)
      → (list_all (side.is_private state false true) (touched_bytes touch) ≡ true) ↔ ReachesPrivate side state (next_fetch s)
  fetch_is s touch at width e bytes =
      let p = side.is_private state false true in (
        λ h. subst (ReachesPrivate side state) e (each_of p (access_bytes (Fetch at width)) (subst (λ (l : List ℕ). list_all p l ≡ true) bytes h)),
        λ k. subst (λ (l : List ℕ). list_all p l ≡ true) (sym bytes) (all_of p (access_bytes (Fetch at width)) (subst (ReachesPrivate side state) (sym e) k)),
      )

  stays_if : (memory : MemoryMachine S) (s : RegisterState) (instr : Instr) → Some instr ≡ (fetched memory side.step.arch s state).instr → ReachesPrivate side state (next_fetch s)
      → InstrReaches side state s instr ↔ StaysPrivate memory side s state
  stays_if memory s instr e fetch = (
    λ h. record {
      fetch = fetch;
      kind = subst (λ (i : Option Instr). may_go_ahead side.step.arch i ≡ true) e h.0;
      accesses = subst (λ (i : Option Instr). AllReachPrivate side state (data_accesses side.step.arch (side.step.base state) s i)) e h.1;
    },
    λ k. (
      subst (λ (i : Option Instr). may_go_ahead side.step.arch i ≡ true) (sym e) k.kind,
      subst (λ (i : Option Instr). AllReachPrivate side state (data_accesses side.step.arch (side.step.base state) s i)) (sym e) k.accesses,
    ),
  )

-- ---- in the machine

pub instr_stays : (s : MachineState) (proc : Proc) (instr : Instr) (reach : Reach) → IsFootprint s proc instr reach
    → ((may_go_ahead (architecture_of proc) (Some instr) && data_private s proc reach) ≡ true) ↔ InstrStaysPrivate s proc instr
instr_stays s Nine instr reach is =
    let r = nine_reach (tick_of s.nine.processor) s in
    instr_is nine_side r s.nine.processor.registers instr reach (is.covers (nine_side.step.base r)) (is.told (nine_side.step.base r))
instr_stays s Seven instr reach is =
    let r = seven_reach (tick_of s.seven.processor) s in
    instr_is seven_side r s.seven.processor.registers instr reach (is.covers (seven_side.step.base r)) (is.told (seven_side.step.base r))

pub fetch_stays : (s : MachineState) (proc : Proc) (touch : Touch) (at : ℕ) (width : Width) → Fetch at width ≡ next_fetch (processor_of s proc).registers
    → touched_bytes touch ≡ access_bytes (Fetch at width) → (list_all (is_private_to s proc false true) (touched_bytes touch) ≡ true) ↔ FetchStaysPrivate s proc
fetch_stays s Nine touch at width e bytes = fetch_is nine_side (nine_reach (tick_of s.nine.processor) s) s.nine.processor.registers touch at width e bytes
fetch_stays s Seven touch at width e bytes = fetch_is seven_side (seven_reach (tick_of s.seven.processor) s) s.seven.processor.registers touch at width e bytes

pub stays_by_instr : (s : MachineState) (proc : Proc) (instr : Instr) → Some instr ≡ instr_at s proc → FetchStaysPrivate s proc
    → InstrStaysPrivate s proc instr ↔ ProcessorStaysPrivate s proc
stays_by_instr s Nine instr e fetch = stays_if nine_side (nine_reach (tick_of s.nine.processor) s) nine_memory s.nine.processor.registers instr e fetch
stays_by_instr s Seven instr e fetch = stays_if seven_side (seven_reach (tick_of s.seven.processor) s) seven_memory s.seven.processor.registers instr e fetch

pub fetch_of_stays : (s : MachineState) (proc : Proc) → ProcessorStaysPrivate s proc → FetchStaysPrivate s proc
fetch_of_stays s Nine k = k.fetch
fetch_of_stays s Seven k = k.fetch

-- what is fetched, decoded
abbrev fetched_by : {S : Type 0} → MemoryMachine S → Arch → RegisterState → S → Bool → Option Instr
fetched_by memory arch r state b = (if b then fetched_half memory arch r state else fetched_word memory arch r state).instr

half_at : (s : MachineState) (proc : Proc) → is_thumb (processor_of s proc).registers ≡ true
    → decoded_thumb (architecture_of proc) (fetch_of s proc (processor_of s proc).registers.pc Half % 2 ^ 16) ≡ instr_at s proc
half_at s Nine h = ap (fetched_by nine_memory V5 s.nine.processor.registers (nine_reach (tick_of s.nine.processor) s)) (sym h)
half_at s Seven h = ap (fetched_by seven_memory V4 s.seven.processor.registers (seven_reach (tick_of s.seven.processor) s)) (sym h)

word_at : (s : MachineState) (proc : Proc) → is_thumb (processor_of s proc).registers ≡ false
    → decoded_arm (architecture_of proc) (fetch_of s proc (processor_of s proc).registers.pc Word) ≡ instr_at s proc
word_at s Nine h = ap (fetched_by nine_memory V5 s.nine.processor.registers (nine_reach (tick_of s.nine.processor) s)) (sym h)
word_at s Seven h = ap (fetched_by seven_memory V4 s.seven.processor.registers (seven_reach (tick_of s.seven.processor) s)) (sym h)

pub half_is : (s : MachineState) (proc : Proc) (r : RegisterState) (half : ℕ) (instr : Option Instr) → r ≡ (processor_of s proc).registers → is_thumb r ≡ true
    → half ≡ fetch_of s proc r.pc Half → instr ≡ decoded_thumb (architecture_of proc) (half % 2 ^ 16) → instr ≡ instr_at s proc
half_is s proc r half instr same thumb got is =
    is ∙ ap (λ (n : ℕ). decoded_thumb (architecture_of proc) (n % 2 ^ 16)) (got ∙ ap (λ (x : RegisterState). fetch_of s proc x.pc Half) same)
    ∙ half_at s proc (ap (λ (x : RegisterState). is_thumb x) (sym same) ∙ thumb)

pub word_is : (s : MachineState) (proc : Proc) (r : RegisterState) (word : ℕ) (instr : Option Instr) → r ≡ (processor_of s proc).registers → is_thumb r ≡ false
    → word ≡ fetch_of s proc r.pc Word → instr ≡ decoded_arm (architecture_of proc) word → instr ≡ instr_at s proc
word_is s proc r word instr same arm got is =
    is ∙ ap (λ (n : ℕ). decoded_arm (architecture_of proc) n) (got ∙ ap (λ (x : RegisterState). fetch_of s proc x.pc Word) same)
    ∙ word_at s proc (ap (λ (x : RegisterState). is_thumb x) (sym same) ∙ arm)

-- a footprint by the core's registers and architecture
pub footprint_as : (s : MachineState) (proc : Proc) (instr : Instr) (reach : Reach) (arch : Arch) (r : RegisterState) → arch ≡ architecture_of proc
    → r ≡ (processor_of s proc).registers → ((base : ℕ) → Covers reach.touch (meaning arch base r instr).accesses)
    → ((base : ℕ) → AreAsTold reach.reads reach.writes (meaning arch base r instr).accesses) → ((base : ℕ) → AreOfData (meaning arch base r instr).accesses)
    → IsFootprint s proc instr reach
footprint_as s proc instr reach arch r a e covers told words = record {
  covers = λ base. there (Covers reach.touch) base (covers base);
  told = λ base. there (AreAsTold reach.reads reach.writes) base (told base);
  words = λ base. there AreOfData base (words base);
} where
  there : (P : List Access → Type 0) (base : ℕ) → P (meaning arch base r instr).accesses → P (meaning (architecture_of proc) base (processor_of s proc).registers instr).accesses
  there P base h =
      subst (λ (x : RegisterState). P (meaning (architecture_of proc) base x instr).accesses) e (subst (λ (x : Arch). P (meaning x base r instr).accesses) a h)
