use Rattle.ds_machine.proofs.Words.{Access, Addressed, AllReachPrivate, Arch, Bool, Byte, Contains, Coprocessor, DataAccess, DataStays, Fetch}
use Rattle.ds_machine.proofs.Words.{GoesByWords, Half, HalfOrSigned, IfSome, Instr, Ldrh, Ldrsb, Ldrsh, List, Meaning, MemoryMachine, None, Op}
use Rattle.ds_machine.proofs.Words.{Operation, Option, ReachesPrivate, Read, RegisterState, SideOf, Some, Strh, Swi, ThumbSwi, TransferOp, V4, V5}
use Rattle.ds_machine.proofs.Words.{Width, Word, WordOrByte, Write, [], access_made, access_meaning, access_stays, accesses_by, aligned_down, ap}
use Rattle.ds_machine.proofs.Words.{arith, count_listed, count_ones, data_accesses, false, fetched, holds, if◌then◌else◌, is_decoded, is_other}
use Rattle.ds_machine.proofs.Words.{length, length-map, list_bytes, listed_registers, loads, lowest, made_accesses, map, may_go_ahead, moved_base}
use Rattle.ds_machine.proofs.Words.{next_fetch, not, op_meaning, operation_meaning, operation_means, operation_of, refl, register, run_is_decoded}
use Rattle.ds_machine.proofs.Words.{single_transfer_meaning, skipped, slice_index_or, span, subst, suc, sym, true, true≢false, width_bytes, zero, ℕ}
use Rattle.ds_machine.proofs.Words.{◌%◌, ◌&&◌, ◌*◌, ◌+◌, ◌/◌, ◌<◌, ◌==◌, ◌^◌, ◌∙◌, ◌∷◌, ◌≡◌}
use Rattle.arm_words.specs.declared.instructions.Instr.TheVariants.{Bkpt, ThumbBkpt}
use Rattle.arm_core.specs.Multiples.{multiple_meaning, reached_bank, reads, stored_value, stores_new_base, transferred, writes}
use Rattle.arm_core.specs.Transfers.{load_meaning, signed_byte, signed_half}
use Rattle.arm_ops.specs.declared.operations.Op.TheVariants.{Multiple}
use Rattle.arm_ops.specs.declared.operations.RegisterList.{RegisterList}
use Rattle.ds_machine.proofs.PrivatePlaces.{private_itself}

-- What a decoded operation reaches, by the address of its access.

-- ---- the bytes of an access lie in one word

span_long : (first count : ℕ) → length (span first count) ≡ count
span_long first zero = refl
span_long first (suc count) = ap (λ (n : ℕ). suc n) (span_long (first + 1) count)

span_at : (first count k other : ℕ) → k < count → slice_index_or (span first count) k other ≡ (first + k) % 2 ^ 32
span_at first zero k other lt = absurd (omega (arith, lt))
span_at first (suc count) zero other lt = omega arith
span_at first (suc count) (suc k) other lt =
    let e : first + 1 + k ≡ first + suc k = omega arith in span_at (first + 1) count k other (omega (arith, lt)) ∙ ap (λ (n : ℕ). n % 2 ^ 32) e

in_word : (width : Width) (at k byte : ℕ) → at < 2 ^ 32 → k < width_bytes width → byte ≡ (aligned_down width at + k) % 2 ^ 32 → byte / 4 ≡ at / 4
in_word Byte at k byte lt few e = omega (arith, lt, few, e)
in_word Half at k byte lt few e = omega (arith, lt, few, e)
in_word Word at k byte lt few e = omega (arith, lt, few, e)

pub same_word : (width : Width) (at byte : ℕ) → at < 2 ^ 32 → Contains (span (aligned_down width at) (width_bytes width)) byte → byte / 4 ≡ at / 4
same_word width at byte lt c =
    let first = aligned_down width at in
    let below = c.1 in
    let long = span_long first (width_bytes width) in
    let few : c.0 < width_bytes width = omega (arith, below, long) in
    in_word width at c.0 byte lt few (sym c.2 ∙ span_at first (width_bytes width) c.0 byte few)

-- ---- an access reads or writes at its address

abbrev pub IsOne : Bool → ℕ → List Access → Type 0
IsOne false at accesses = (width : Width) × (accesses ≡ Read at width ∷ [])
IsOne true at accesses = (width : Width) × (value : ℕ) × (accesses ≡ Write at width value ∷ [])

pub one_by : (arch : Arch) (s : RegisterState) (op : TransferOp) (rn rd : ℕ) (to : Addressed) → IsOne (not (loads op)) to.address (single_transfer_meaning arch s op rn rd to).accesses
one_by arch s (WordOrByte true true) rn rd to = (Byte, refl)
one_by arch s (WordOrByte true false) rn rd to = (Word, refl)
one_by arch s (WordOrByte false true) rn rd to = (Byte, _, refl)
one_by arch s (WordOrByte false false) rn rd to = (Word, _, refl)
one_by arch s (HalfOrSigned Strh) rn rd to = (Half, _, refl)
one_by arch s (HalfOrSigned Ldrh) rn rd to = (Half, refl)
one_by arch s (HalfOrSigned Ldrsb) rn rd to = (Byte, refl)
one_by V5 s (HalfOrSigned Ldrsh) rn rd to = (Half, refl)
one_by V4 s (HalfOrSigned Ldrsh) rn rd to = either (to.address % 2 == 0) where
  either : (b : Bool) → IsOne false to.address (if b then load_meaning s rn rd to Half signed_half else load_meaning s rn rd to Byte signed_byte).accesses
  either true = (Half, refl)
  either false = (Byte, refl)

module _ {S : Type 0} (side : SideOf S) (state : S) (words : GoesByWords side) where
  reach_one : (w : Bool) (at : ℕ) (accesses : List Access) → at < 2 ^ 32 → IsOne w at accesses → side.is_private state w false at ≡ true → AllReachPrivate side state accesses
  reach_one false at accesses lt one h =
      subst (AllReachPrivate side state) (sym one.1) (λ byte c. words.same state false false byte at (same_word one.0 at byte lt c) ∙ h, tt)
  reach_one true at accesses lt one h =
      subst (AllReachPrivate side state) (sym one.2) (λ byte c. words.same state true false byte at (same_word one.0 at byte lt c) ∙ h, tt)

  reached_one : (w : Bool) (at : ℕ) (accesses : List Access) → at < 2 ^ 32 → IsOne w at accesses → AllReachPrivate side state accesses → side.is_private state w false at ≡ true
  reached_one false at accesses lt one k = private_itself (side.is_private state false false) one.0 at lt (subst (AllReachPrivate side state) one.1 k).0
  reached_one true at accesses lt one k = private_itself (side.is_private state true false) one.0 at lt (subst (AllReachPrivate side state) one.2 k).0

  -- what is fetched
  pub fetch_by_words : (s : RegisterState) (width : Width) → Fetch s.pc width ≡ next_fetch s → s.pc < 2 ^ 32 → side.is_private state false true s.pc ≡ true → ReachesPrivate side state (next_fetch s)
  fetch_by_words s width e lt h = subst (ReachesPrivate side state) e (λ byte c. words.same state false true byte s.pc (same_word width s.pc byte lt c) ∙ h)

  -- what an operation's access reaches
  reach_made : (arch : Arch) (s : RegisterState) (access : Option DataAccess) → IfSome access (λ it. it.to.address < 2 ^ 32) → access_stays side state access ≡ true
      → AllReachPrivate side state (accesses_by arch s access)
  reach_made arch s None low h = tt
  reach_made arch s (Some it) low h = reach_one (not (loads it.op)) it.to.address (access_meaning arch s it).accesses low (one_by arch s it.op it.rn it.rd it.to) h

  made_reached : (arch : Arch) (s : RegisterState) (access : Option DataAccess) → IfSome access (λ it. it.to.address < 2 ^ 32) → AllReachPrivate side state (accesses_by arch s access)
      → access_stays side state access ≡ true
  made_reached arch s None low k = refl
  made_reached arch s (Some it) low k = reached_one (not (loads it.op)) it.to.address (access_meaning arch s it).accesses low (one_by arch s it.op it.rn it.rd it.to) k

  -- words one behind the other
  word_next : (at i : ℕ) → ((at + 4) % 2 ^ 32 + 4 * i) % 2 ^ 32 ≡ (at + 4 * suc i) % 2 ^ 32
  word_next at i = omega arith

  word_first : (writing : Bool) (at : ℕ) → at < 2 ^ 32 → side.is_private state writing false ((at + 4 * 0) % 2 ^ 32) ≡ true → side.is_private state writing false at ≡ true
  word_first writing at lt h = (let e : (at + 4 * 0) % 2 ^ 32 ≡ at = omega (arith, lt) in subst (λ (n : ℕ). side.is_private state writing false n ≡ true) e h)

  abbrev WordsStay : Bool → ℕ → ℕ → Type 0
  WordsStay writing at count = (i : ℕ) → i < count → side.is_private state writing false ((at + 4 * i) % 2 ^ 32) ≡ true

  words_next : (writing : Bool) (at count : ℕ) → WordsStay writing at (suc count) → WordsStay writing ((at + 4) % 2 ^ 32) count
  words_next writing at count h = λ i lt. subst (λ (n : ℕ). side.is_private state writing false n ≡ true) (sym (word_next at i)) (h (suc i) (omega (arith, lt)))

  reach_reads : (at : ℕ) (rs : List ℕ) → at < 2 ^ 32 → WordsStay false at (length rs) → AllReachPrivate side state (reads at rs)
  reach_reads at [] lt h = tt
  reach_reads at (r ∷ rs) lt h =
      let first = word_first false at lt (h 0 (omega arith)) in (
        λ byte c. words.same state false false byte at (same_word Word at byte lt c) ∙ first,
        reach_reads ((at + 4) % 2 ^ 32) rs (omega arith) (words_next false at (length rs) h),
      )

  reach_writes : (at : ℕ) (values : List ℕ) → at < 2 ^ 32 → WordsStay true at (length values) → AllReachPrivate side state (writes at values)
  reach_writes at [] lt h = tt
  reach_writes at (value ∷ rest) lt h =
      let first = word_first true at lt (h 0 (omega arith)) in (
        λ byte c. words.same state true false byte at (same_word Word at byte lt c) ∙ first,
        reach_writes ((at + 4) % 2 ^ 32) rest (omega arith) (words_next true at (length rest) h),
      )

  -- LDM and STM, where so many words are private as it names registers
  module _ (arch : Arch) (s : RegisterState) (it : RegisterList) where
    abbrev start : ℕ
    start = lowest it.pre it.up (register s it.rn) (list_bytes it.list)

    abbrev stored : ℕ → ℕ
    stored = stored_value s (reached_bank s false) it.rn (it.write_back && not (it.rn == 15) && stores_new_base arch it.rn it.list)
        (moved_base it.up (register s it.rn) (list_bytes it.list))

    all_listed : (it.list == 0) ≡ false → it.list < 2 ^ 16 → length (listed_registers (transferred arch it.list)) ≡ count_ones it.list
    all_listed some lt = ap (λ (n : ℕ). length (listed_registers n)) (same arch) ∙ count_listed it.list lt where
      same : (arch : Arch) → transferred arch it.list ≡ it.list
      same V4 = rw some refl
      same V5 = refl

    reach_by : (load : Bool) → start < 2 ^ 32 → WordsStay (not load) start (length (listed_registers (transferred arch it.list)))
        → AllReachPrivate side state (multiple_meaning arch s it.pre it.up false it.write_back load it.rn it.list).accesses
    reach_by true lt h = reach_reads start (listed_registers (transferred arch it.list)) lt h
    reach_by false lt h =
        let rs = listed_registers (transferred arch it.list) in
        reach_writes start (map stored rs) lt (subst (WordsStay true start) (sym (length-map rs stored)) h)

    pub reach_list : (operation : Operation) → operation.op ≡ Multiple it → (it.list == 0) ≡ false → it.list < 2 ^ 16 → start < 2 ^ 32
        → WordsStay (not it.load) start (count_ones it.list) → AllReachPrivate side state (operation_meaning arch s operation).accesses
    reach_list operation is some low lt h =
        subst (λ (op : Op). AllReachPrivate side state (if holds operation.cond s.cpsr then op_meaning arch s op else skipped s).accesses) (sym is)
        (by_holds (holds operation.cond s.cpsr)) where
          by_holds : (b : Bool) → AllReachPrivate side state (if b then op_meaning arch s (Multiple it) else skipped s).accesses
          by_holds true = reach_by it.load lt (subst (WordsStay (not it.load) start) (sym (all_listed some low)) h)
          by_holds false = tt

-- ---- what is decoded

kind_known : (arch : Arch) (instr : Option Instr) → is_decoded (operation_of instr).op ≡ true → may_go_ahead arch instr ≡ true
kind_known arch None h = absurd (true≢false (sym h))
kind_known arch (Some (Swi cond immed)) h = absurd (true≢false (sym h))
kind_known arch (Some (ThumbSwi immed)) h = absurd (true≢false (sym h))
kind_known arch (Some (Bkpt immed)) h = absurd (true≢false (sym h))
kind_known arch (Some (ThumbBkpt immed)) h = absurd (true≢false (sym h))
kind_known arch (Some (Coprocessor cond load op1 crn rd cp op2 crm)) h = absurd (true≢false (sym h))
kind_known arch (Some _) h = refl

meant_accesses : (arch : Arch) (base : ℕ) (s : RegisterState) (instr : Option Instr) → is_decoded (operation_of instr).op ≡ true
    → data_accesses arch base s instr ≡ (operation_meaning arch s (operation_of instr)).accesses
meant_accesses arch base s None h = absurd (true≢false (sym h))
meant_accesses arch base s (Some instr) h = ap (λ (m : Meaning). m.accesses) (operation_means arch base s instr h)

pub accesses_known : (arch : Arch) (base : ℕ) (s : RegisterState) (instr : Option Instr) → is_other (operation_of instr).op ≡ false
    → data_accesses arch base s instr ≡ accesses_by arch s (access_made s (operation_of instr))
accesses_known arch base s instr h = meant_accesses arch base s instr (run_is_decoded (operation_of instr).op h) ∙ made_accesses arch s (operation_of instr) h

pub stays_known : {S : Type 0} (memory : MemoryMachine S) (side : SideOf S) (state : S) (s : RegisterState) (op : Operation)
    → op ≡ operation_of (fetched memory side.step.arch s state).instr → is_decoded op.op ≡ true → AllReachPrivate side state (operation_meaning side.step.arch s op).accesses
    → DataStays memory side s state
stays_known memory side state s op e known reach =
    let instr = (fetched memory side.step.arch s state).instr in
    let there = subst (λ (o : Operation). is_decoded o.op ≡ true) e known in
    record {
      kind = kind_known side.step.arch instr there;
      accesses = subst (AllReachPrivate side state) (sym (meant_accesses side.step.arch (side.step.base state) s instr there))
          (subst (λ (o : Operation). AllReachPrivate side state (operation_meaning side.step.arch s o).accesses) e reach);
    }

-- what makes one access at most, by its address
pub reach_told : {S : Type 0} (side : SideOf S) (state : S) (s : RegisterState) (op : Operation) → GoesByWords side
    → (operation_meaning side.step.arch s op).accesses ≡ accesses_by side.step.arch s (access_made s op) → IfSome (access_made s op) (λ it. it.to.address < 2 ^ 32)
    → access_stays side state (access_made s op) ≡ true → AllReachPrivate side state (operation_meaning side.step.arch s op).accesses
reach_told side state s op words told low h =
    subst (AllReachPrivate side state) (sym told) (reach_made side state words side.step.arch s (access_made s op) low h)

-- what isn't decoded is never told to leave
pub leaves_known : {S : Type 0} (memory : MemoryMachine S) (side : SideOf S) (state : S) (s : RegisterState) (op : Operation) → GoesByWords side
    → op ≡ operation_of (fetched memory side.step.arch s state).instr → is_other op.op ≡ false → IfSome (access_made s op) (λ it. it.to.address < 2 ^ 32)
    → access_stays side state (access_made s op) ≡ false → DataStays memory side s state → ⊥
leaves_known memory side state s op words e known low h stays =
    let i = (fetched memory side.step.arch s state).instr in
    let other = subst (λ (o : Operation). is_other o.op ≡ false) e known in
    let l = subst (λ (o : Operation). IfSome (access_made s o) (λ it. it.to.address < 2 ^ 32)) e low in
    let reached = made_reached side state words side.step.arch s (access_made s (operation_of i)) l
    (subst (AllReachPrivate side state) (accesses_known side.step.arch (side.step.base state) s i other) stays.accesses) in
    true≢false (sym (subst (λ (o : Operation). access_stays side state (access_made s o) ≡ true) (sym e) reached) ∙ h)
