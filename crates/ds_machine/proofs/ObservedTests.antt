use Rattle.ds_machine.proofs.Words.{Access, AllReachPrivate, Bool, Cp15State, DataAccess, Dtcm, Fetch, GoesByWords, Instr, IsFootprint, IsSome, Itcm}
use Rattle.ds_machine.proofs.Words.{List, MachineState, Nine, NineReach, None, Operation, Option, Past, Place, Reach, Read, RegisterState, SideOf}
use Rattle.ds_machine.proofs.Words.{Some, Tick, V5, Write, [], access_made, access_meaning, accesses_by, actor_of, any_observes, ap, arith}
use Rattle.ds_machine.proofs.Words.{data_accesses, data_unobserved, due_at, due_by, due_of_rank, dues_of, false, from_same, if◌then◌else◌, in_dtcm}
use Rattle.ds_machine.proofs.Words.{in_itcm, instr_at, is_observed_past, is_observed_place, is_other, loads, low_rank, made_observed, meaning, nat_le}
use Rattle.ds_machine.proofs.Words.{nine_reach, nine_side, not, not-true, operation_of, or_from, or_parts, place_of, refl, regions_of_nine, subst}
use Rattle.ds_machine.proofs.Words.{sym, tcm_of, tick_of, true, true≢false, upto_same, ℕ, ◌&&◌, ◌-◌, ◌/◌, ◌<◌, ◌||◌, ◌∙◌, ◌∷◌, ◌≡◌}
use Rattle.arm_core.specs.FootprintLaws.{AreOfData}
use Rattle.ds_places.specs.AddressTables.{BootRom, Cells, Content, Empty, Ports, Region, place_at, place_by, Video}
use Rattle.ds_map.proofs.ObservedPorts.{observed_same}
use Rattle.ds_runs.specs.declared.actors.Actor as actor
use Rattle.ds_machine.proofs.DecodedStays.{IsOne, accesses_known, one_by, same_word}
use Rattle.ds_machine.proofs.PlacesByWords.{are_rows, dtcm_same, itcm_same, row_facts, rows_of_nine}
use Rattle.ds_machine.proofs.PrivatePlaces.{private_itself}
use Rattle.ds_machine.proofs.PrivateTests.{data_passed, data_passes}

-- What the code tells of accesses that observe geometry is so: it asks each byte of an instruction's accesses, and an access is asked by its address.

-- ---- the four bytes of a word that is aligned are observed together

content_same : (content : Content) (a b : ℕ) → a / 4 ≡ b / 4 → is_observed_place (place_at content a) ≡ is_observed_place (place_at content b)
content_same (Cells memory from bytes) a b e = refl
content_same (Video space) a b e = refl
content_same Ports a b e = observed_same a b e
content_same BootRom a b e = refl
content_same Empty a b e = refl

picked : (t : Bool) (x y v w : Place) → is_observed_place x ≡ is_observed_place v → is_observed_place y ≡ is_observed_place w
    → is_observed_place (if t then x else y) ≡ is_observed_place (if t then v else w)
picked true x y v w h k = h
picked false x y v w h k = k

rows_same : (rs : List Region) (a b : ℕ) → are_rows rs ≡ true → a / 4 ≡ b / 4 → is_observed_place (place_by rs a) ≡ is_observed_place (place_by rs b)
rows_same [] a b h e = refl
rows_same (r ∷ rs) a b h e =
    let f = row_facts r rs h in
    let first = f.0 in
    let x = place_at r.content (a - r.first) in
    let y = place_by rs a in
    let by : Bool → Bool → Bool = λ from upto. is_observed_place (if from && upto then x else y) in
    ap (λ (t : Bool). by t (nat_le a r.last)) (from_same a b r.first f.0 e) ∙ ap (λ (t : Bool). by (nat_le r.first b) t) (upto_same a b r.last f.1 e)
    ∙ picked (nat_le r.first b && nat_le b r.last) x y (place_at r.content (b - r.first)) (place_by rs b)
    (content_same r.content (a - r.first) (b - r.first) (omega (arith, e, first))) (rows_same rs a b f.3 e)

-- by the tests alone
tcm_tests : (i d : Bool) (wramcnt at x y : ℕ)
    → is_observed_past (if i then Itcm x else (if d then Dtcm y else Past)) wramcnt at ≡ (not i && (not d && is_observed_place (place_of Nine wramcnt at)))
tcm_tests true d wramcnt at x y = refl
tcm_tests false true wramcnt at x y = refl
tcm_tests false false wramcnt at x y = refl

past_same : (s : Cp15State) (wramcnt : ℕ) (writing fetching : Bool) (a b : ℕ) → a / 4 ≡ b / 4
    → is_observed_past (tcm_of s a writing fetching) wramcnt a ≡ is_observed_past (tcm_of s b writing fetching) wramcnt b
past_same s wramcnt writing fetching a b e =
    let past : ℕ → Bool = λ at. is_observed_place (place_of Nine wramcnt at) in
    tcm_tests (in_itcm s a writing) (not fetching && in_dtcm s a writing) wramcnt a _ _
    ∙ ap (λ (t : Bool). not t && (not (not fetching && in_dtcm s a writing) && past a)) (itcm_same s writing a b e)
    ∙ ap (λ (t : Bool). not (in_itcm s b writing) && (not (not fetching && t) && past a)) (dtcm_same s writing a b e)
    ∙ ap (λ (t : Bool). not (in_itcm s b writing) && (not (not fetching && in_dtcm s b writing) && t)) (rows_same (regions_of_nine wramcnt) a b (rows_of_nine wramcnt) e)
    ∙ sym (tcm_tests (in_itcm s b writing) (not fetching && in_dtcm s b writing) wramcnt b _ _)

-- ARM9's side, with the places that aren't observed in place of those that it alone reaches
abbrev unobserved_side : SideOf NineReach
unobserved_side = record nine_side { is_private = λ r writing fetching at. not (is_observed_past (tcm_of r.cp15 at writing fetching) r.map.io.wramcnt at) }

unobserved_by_words : GoesByWords unobserved_side
unobserved_by_words = record { same = λ r writing fetching a b e. ap not (past_same r.cp15 r.map.io.wramcnt writing fetching a b e) }

-- ---- accesses by their addresses

module _ (r : NineReach) where
  abbrev at_read : ℕ → Bool
  at_read at = is_observed_past (tcm_of r.cp15 at false false) r.map.io.wramcnt at

  abbrev at_write : ℕ → Bool
  at_write at = is_observed_past (tcm_of r.cp15 at true false) r.map.io.wramcnt at

  none_by : (accesses : List Access) → AreOfData accesses → AllReachPrivate unobserved_side r accesses → any_observes r accesses ≡ false
  none_by [] low h = refl
  none_by (Fetch at width ∷ rest) low h = absurd low
  none_by (Read at width ∷ rest) low h =
      or_from (at_read at) (any_observes r rest) (not-true (at_read at) (private_itself (unobserved_side.is_private r false false) width at low.0 h.0)) (none_by rest low.1 h.1)
  none_by (Write at width value ∷ rest) low h =
      or_from (at_write at) (any_observes r rest) (not-true (at_write at) (private_itself (unobserved_side.is_private r true false) width at low.0 h.0)) (none_by rest low.1 h.1)

  by_none : (accesses : List Access) → AreOfData accesses → any_observes r accesses ≡ false → AllReachPrivate unobserved_side r accesses
  by_none [] low h = tt
  by_none (Fetch at width ∷ rest) low h = absurd low
  by_none (Read at width ∷ rest) low h = (
    λ byte c. unobserved_by_words.same r false false byte at (same_word width at byte low.0 c) ∙ ap not (or_parts (at_read at) (any_observes r rest) h).0,
    by_none rest low.1 (or_parts (at_read at) (any_observes r rest) h).1,
  )
  by_none (Write at width value ∷ rest) low h = (
    λ byte c. unobserved_by_words.same r true false byte at (same_word width at byte low.0 c) ∙ ap not (or_parts (at_write at) (any_observes r rest) h).0,
    by_none rest low.1 (or_parts (at_write at) (any_observes r rest) h).1,
  )

-- ---- in the machine

same_test : (t o : Bool) → (t ≡ true → o ≡ false) → (o ≡ false → t ≡ true) → not t ≡ o
same_test true o h k = sym (h refl)
same_test false true h k = refl
same_test false false h k = absurd (true≢false (sym (k refl)))

pub instr_observes_by : (s : MachineState) (instr : Instr) (reach : Reach) → IsFootprint s Nine instr reach
    → not (data_unobserved s reach)
    ≡ any_observes (nine_reach (tick_of s.nine.processor) s) (data_accesses V5 (nine_side.step.base (nine_reach (tick_of s.nine.processor) s)) s.nine.processor.registers (Some instr))
instr_observes_by s instr reach is =
    let r = nine_reach (tick_of s.nine.processor) s in
    let base = nine_side.step.base r in
    let m = meaning V5 base s.nine.processor.registers instr in
    let low = is.words base in
    same_test (data_unobserved s reach) (any_observes r m.accesses)
    (λ h. none_by r m.accesses low (data_passes unobserved_side r reach.reads reach.writes reach.touch m.accesses (is.told base) (is.covers base) h))
    (λ h. data_passed unobserved_side r reach.reads reach.writes reach.touch m.accesses (is.told base) (is.covers base) (by_none r m.accesses low h))

-- ---- by a decoded operation: an access is asked by its address

or_none : (b : Bool) → (b || false) ≡ b
or_none true = refl
or_none false = refl

one_observed : (r : NineReach) (w : Bool) (at : ℕ) (accesses : List Access) → IsOne w at accesses
    → is_observed_past (tcm_of r.cp15 at w false) r.map.io.wramcnt at ≡ any_observes r accesses
one_observed r false at accesses one = sym (ap (any_observes r) one.1 ∙ or_none (at_read r at))
one_observed r true at accesses one = sym (ap (any_observes r) one.2 ∙ or_none (at_write r at))

made_by : (s : MachineState) (registers : RegisterState) (access : Option DataAccess)
    → made_observed s access ≡ any_observes (nine_reach (tick_of s.nine.processor) s) (accesses_by V5 registers access)
made_by s registers None = refl
made_by s registers (Some it) =
    one_observed (nine_reach (tick_of s.nine.processor) s) (not (loads it.op)) it.to.address (access_meaning V5 registers it).accesses
    (one_by V5 registers it.op it.rn it.rd it.to)

pub operation_observes_by : (s : MachineState) (operation : Operation) → operation ≡ operation_of (instr_at s Nine) → is_other operation.op ≡ false
    → made_observed s (access_made s.nine.processor.registers operation)
    ≡ any_observes (nine_reach (tick_of s.nine.processor) s)
    (data_accesses V5 (nine_side.step.base (nine_reach (tick_of s.nine.processor) s)) s.nine.processor.registers (instr_at s Nine))
operation_observes_by s operation e known =
    let r = nine_reach (tick_of s.nine.processor) s in
    let registers = s.nine.processor.registers in
    let instr = instr_at s Nine in
    let other = subst (λ (o : Operation). is_other o.op ≡ false) e known in
    made_by s registers (access_made registers operation)
    ∙ ap (λ (o : Operation). any_observes r (accesses_by V5 registers (access_made registers o))) e
    ∙ sym (ap (any_observes r) (accesses_known V5 (nine_side.step.base r) registers instr other))

-- an actor that is due by its rank
pub low_if_due : (s : MachineState) (rank : ℕ) → IsSome (due_at (dues_of s) rank) → rank < 24
low_if_due s rank is = by (due_at (dues_of s) rank) refl is where
  by : (due : Option Tick) → due_at (dues_of s) rank ≡ due → IsSome due → rank < 24
  by None e h = absurd (true≢false (sym h))
  by (Some tick) e h = low_rank s rank tick e

pub due_if_due : (s : MachineState) (rank : ℕ) (a : actor.Actor) → a ≡ actor_of rank → IsSome (due_at (dues_of s) rank) → IsSome (due_by a s)
due_if_due s rank a e is =
    let same = due_of_rank s rank (low_if_due s rank is) ∙ ap (λ (x : actor.Actor). due_by x s) (sym e) in
    let P : Option Tick → Type 0 = λ due. IsSome due in
    subst P same is
