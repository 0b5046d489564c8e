use Rattle.ds_machine.proofs.Words.{Bool, Dtcm, GxState, Itcm, MachineState, Nine, Past, Proc, ProcessorState, Seven, Some, Tcm, Tick, Width, ap}
use Rattle.ds_machine.proofs.Words.{due_then, enters, false, fetch_of, if◌then◌else◌, is_blocked, is_thumb, line_of, nine_reach, processor_due}
use Rattle.ds_machine.proofs.Words.{processor_of, refl, seen_by, seen_of, seven_reach, sym, tcm_of, tick_of, true, with_gx, ℕ, ◌%◌, ◌^◌, ◌∙◌, ◌≡◌}
use Rattle.ds_machine.proofs.NineReads.{tcm_fetched}
use Rattle.ds_base.specs.declared.memories.Width.TheVariants as width
use Rattle.ds_map.proofs.GxApart as gx_map
use Rattle.ds_machine.specs.declared.answers.Seen.{Seen}
use Rattle.ds_machine.specs.declared.answers.Seen.TheVariants.{Half, Irq, Word}
use Rattle.ds_machine.proofs.CatchingUp.{CaughtSo}
use Rattle.ds_machine.proofs.OwnRemaining.{still_due}

-- What a processor that is due does next is the same after steps of quiet geometry: no fetch sees geometry.

abbrev with_geometry : GxState → ℕ → MachineState → MachineState
with_geometry g events s = record s { io = with_gx g s.io; events = events }

module _ (g : GxState) (events : ℕ) (s : MachineState) where
  nine_fetched : (tcm : Tcm) (now : Tick) (at : ℕ) (width : Width) → tcm_fetched tcm (nine_reach now (with_geometry g events s)) at width ≡ tcm_fetched tcm (nine_reach now s) at width
  nine_fetched (Itcm place) now at width = refl
  nine_fetched (Dtcm place) now at width = refl
  nine_fetched Past now at width = gx_map.fetched g Nine (nine_reach now s).map at width

  fetch_same : (proc : Proc) (at : ℕ) (width : Width) → fetch_of (with_geometry g events s) proc at width ≡ fetch_of s proc at width
  fetch_same Nine at width = nine_fetched (tcm_of s.nine.cp15 at false true) (tick_of s.nine.processor) at width
  fetch_same Seven at width = gx_map.fetched g Seven (seven_reach (tick_of s.seven.processor) s).map at width

-- by what it fetches
module _ (p : ProcessorState) (first second : ℕ → Width → ℕ) (same : (at : ℕ) (width : Width) → first at width ≡ second at width) where
  by_tests : (enters thumb : Bool) → (if enters then Irq p.registers.pc else if thumb then Half p.registers.pc (first p.registers.pc width.Half % 2 ^ 16) else Word p.registers.pc (first p.registers.pc width.Word))
      ≡ (if enters then Irq p.registers.pc else if thumb then Half p.registers.pc (second p.registers.pc width.Half % 2 ^ 16) else Word p.registers.pc (second p.registers.pc width.Word))
  by_tests true thumb = refl
  by_tests false true = ap (λ (n : ℕ). (let seen : Seen = Half p.registers.pc (n % 2 ^ 16) in seen)) (same p.registers.pc width.Half)
  by_tests false false = ap (λ (n : ℕ). (let seen : Seen = Word p.registers.pc n in seen)) (same p.registers.pc width.Word)

  fetches_same : (line : Bool) → seen_by false line p first ≡ seen_by false line p second
  fetches_same line = by_tests (enters line p.registers) (is_thumb p.registers)

-- by its state, where it isn't blocked
abbrev unblocked : MachineState → Proc → Seen
unblocked s proc = seen_by false (line_of s proc) (processor_of s proc) (fetch_of s proc)

unblocked_same : (g : GxState) (events : ℕ) (s : MachineState) (proc : Proc) → unblocked (with_geometry g events s) proc ≡ unblocked s proc
unblocked_same g events s Nine = fetches_same s.nine.processor (fetch_of (with_geometry g events s) Nine) (fetch_of s Nine) (fetch_same g events s Nine) (line_of s Nine)
unblocked_same g events s Seven = fetches_same s.seven.processor (fetch_of (with_geometry g events s) Seven) (fetch_of s Seven) (fetch_same g events s Seven) (line_of s Seven)

where_due : (s : MachineState) (proc : Proc) (tick : Tick) → processor_due s proc ≡ Some tick → seen_of s proc ≡ unblocked s proc
where_due s proc tick due =
    ap (λ (blocked : Bool). seen_by blocked (line_of s proc) (processor_of s proc) (fetch_of s proc)) (due_then (is_blocked s proc) (processor_of s proc) tick due).0

pub seen_same : (s now : MachineState) (proc : Proc) (tick : Tick) → CaughtSo s now → processor_due s proc ≡ Some tick → seen_of now proc ≡ seen_of s proc
seen_same s now proc tick so due =
    where_due now proc tick (still_due s now proc so.dues ∙ due)
    ∙ ap (λ (m : MachineState). unblocked m proc) so.same
    ∙ unblocked_same now.io.gx now.events s proc
    ∙ sym (where_due s proc tick due)
