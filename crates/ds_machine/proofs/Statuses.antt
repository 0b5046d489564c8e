use Rattle.ds_machine.proofs.Words.{All, Arch, At, Bool, Cost, Dma, Ending, Halted, HasBothStatuses, HasNineStatuses, HasStatuses, IsStatus, KeyLine}
use Rattle.ds_machine.proofs.Words.{Left, LeftOut, List, MachineState, MachineStep, Makes, Nine, NineReach, None, Option, Outcome, Proc, Processor}
use Rattle.ds_machine.proofs.Words.{RegisterState, Runs, Seven, SevenReach, Shown, Some, Stops, Tick, V4, V5, [], actor_of, arith, arm7, awake}
use Rattle.ds_machine.proofs.Words.{copied, due_by, either, ended, goes_on, gone_by, header_bytes, header_place, image_entry, image_of, image_place}
use Rattle.ds_machine.proofs.Words.{left_by, line_of, machine_blank, machine_concluded, machine_graft, machine_settled, more, nine_memory, nine_reach}
use Rattle.ds_machine.proofs.Words.{nine_side, outcome_of, over, processor_of, processor_step, reference, reference_step, refl, seven_memory}
use Rattle.ds_machine.proofs.Words.{seven_reach, seven_side, side_taken, stacks_of, step_by, stepped_of, stops, stored, subst, sym, take, tick_of}
use Rattle.ds_machine.proofs.Words.{unchanged_by, wakes, with_image, woken_one, ℕ, ◌+◌, ◌∷◌, ◌≡◌}
use Rattle.std.proofs.lemmas.List.Elements.{All-cons, All-nil}
use Rattle.arm_core.specs.Cores as cores
use Rattle.arm_core.specs.declared.outcomes.Stepped as arm
use Rattle.arm_exec.proofs.StatusBits.{no_status}
use Rattle.arm_exec.proofs.StatusSteps.{step_has}
use Rattle.arm9_exec.proofs.Statuses.{step9_has}
use Rattle.ds_runs.specs.Runs as runs
use Rattle.ds_runs.specs.declared.actors.Actor as actor
use Rattle.ds_machine.specs.declared.answers.Done as answer
use Rattle.ds_machine.specs.declared.answers.Done.TheVariants as answers
use Rattle.ds_machine.specs.Statuses.{BootsWithStatuses, RunsKeepStatuses, StepsKeepStatuses}
use Rattle.ds_machine.proofs.OwnSteps.{is_step7, is_step9}
use Rattle.ds_machine.proofs.Touched.{each_touches}

-- CPSR and each SPSR have no bits but those that are kept, whatever steps.

-- ---- ARM9's step, and ARM7's

abbrev NineHas : Outcome NineReach → Type 0
NineHas o = HasNineStatuses o.registers o.state.cp15

abbrev SevenHas : Outcome SevenReach → Type 0
SevenHas o = HasStatuses V4 o.registers

nine_has : (line : Bool) (s : RegisterState) (r : NineReach) → HasNineStatuses s r.cp15 → NineHas (side_taken nine_memory nine_side line s r)
nine_has line s r h =
    subst NineHas (sym (is_step9 line s r)) (step9_has s r.cp15 h nine_memory line r)

seven_has : (line : Bool) (s : RegisterState) (r : SevenReach) → HasStatuses V4 s → SevenHas (side_taken seven_memory seven_side line s r)
seven_has line s r h =
    subst SevenHas (sym (is_step7 line s r)) (step_has seven_memory arm7 s h line r)

-- ---- a processor's step in the machine

outcome_has : (proc : Proc) (now : Tick) (s : MachineState) → HasBothStatuses s → HasBothStatuses (outcome_of proc now s).machine
outcome_has Nine now s h = record { nine = nine_has (line_of s Nine) s.nine.processor.registers (nine_reach now s) h.nine; seven = h.seven }
outcome_has Seven now s h = record { nine = h.nine; seven = seven_has (line_of s Seven) s.seven.processor.registers (seven_reach now s) h.seven }

gone_has : (proc : Proc) (came : arm.Stepped) (s : MachineState) → HasBothStatuses s → HasBothStatuses (gone_by proc came s)
gone_has Nine (Cost clocks) s h = record { nine = h.nine; seven = h.seven }
gone_has Nine (Halted clocks) s h = record { nine = h.nine; seven = h.seven }
gone_has Nine (Left stop) s h = h
gone_has Seven (Cost clocks) s h = record { nine = h.nine; seven = h.seven }
gone_has Seven (Halted clocks) s h = record { nine = h.nine; seven = h.seven }
gone_has Seven (Left stop) s h = h

concluded_has : (rank : ℕ) (proc : Proc) (s : MachineState) (came : arm.Stepped) → HasBothStatuses s
    → (let step : MachineStep MachineState Shown LeftOut = machine_concluded rank proc s came in HasBothStatuses (left_by step))
concluded_has rank proc s (Cost clocks) h = gone_has proc (Cost clocks) s h
concluded_has rank proc s (Halted clocks) h = gone_has proc (Halted clocks) s h
concluded_has rank proc s (Left stop) h = h

processor_has : (rank : ℕ) (proc : Proc) (s : MachineState) → HasBothStatuses s
    → (let step : MachineStep MachineState Shown LeftOut = processor_step rank proc s in HasBothStatuses (left_by step))
processor_has rank proc s h =
    let o = outcome_of proc (tick_of (processor_of s proc)) s in
    concluded_has rank proc o.machine o.stepped (outcome_has proc (tick_of (processor_of s proc)) s h)

-- ---- each actor: who isn't a processor changes none of it, by the table

untouched_has : (rank : ℕ) (a : actor.Actor) (s : MachineState) → HasBothStatuses (machine_graft (unchanged_by a s) s (left_by (step_by rank a s)))
    → HasBothStatuses (left_by (step_by rank a s))
untouched_has rank a s h = subst HasBothStatuses (each_touches rank a s).leaves h

step_has_by : (rank : ℕ) (a : actor.Actor) (s : MachineState) → HasBothStatuses s → HasBothStatuses (left_by (step_by rank a s))
step_has_by rank (Processor proc) s h = processor_has rank proc s h
step_has_by rank (Dma Nine channel) s h = untouched_has rank (Dma Nine channel) s (record { nine = h.nine; seven = h.seven })
step_has_by rank (Dma Seven channel) s h = untouched_has rank (Dma Seven channel) s (record { nine = h.nine; seven = h.seven })
step_has_by rank a s h = untouched_has rank a s (record { nine = h.nine; seven = h.seven })

-- ---- waking

on_has : (proc : Proc) (tick : Tick) (s : MachineState) → HasBothStatuses s → HasBothStatuses (goes_on proc tick s)
on_has Nine tick s h = record { nine = h.nine; seven = h.seven }
on_has Seven tick s h = record { nine = h.nine; seven = h.seven }

one_has : (proc : Proc) (tick : Tick) (s : MachineState) → HasBothStatuses s → HasBothStatuses (woken_one proc tick s)
one_has proc tick s h = either HasBothStatuses (wakes s proc) (goes_on proc tick s) s (on_has proc tick s h) h

awake_has : (due : Option Tick) (came : MachineStep MachineState Shown LeftOut) → HasBothStatuses (left_by came) → HasBothStatuses (left_by (awake due came))
unfolding ended
awake_has None came h = h
awake_has (Some tick) (Makes next outs) h =
    let rest = machine_settled tick next in one_has Seven tick (woken_one Nine tick rest) (one_has Nine tick rest (record { nine = h.nine; seven = h.seven }))
awake_has (Some tick) (Stops stop left) h = h

-- ---- the laws

pub steps_keep_statuses : StepsKeepStatuses
steps_keep_statuses rank s h = awake_has (due_by (actor_of rank) s) (step_by rank (actor_of rank) s) (step_has_by rank (actor_of rank) s h)

-- whatever is answered
pub statuses_done : (s next : MachineState) (rank : ℕ) (done : answer.Done) → HasBothStatuses s → reference_step rank s ≡ stepped_of s done next → HasBothStatuses next
statuses_done s next rank answers.Made h e =
    let P : MachineStep MachineState Shown LeftOut → Type 0 = λ m. HasBothStatuses (left_by m) in subst P e (steps_keep_statuses rank s h)
statuses_done s next rank (answers.Frame swapped) h e =
    let P : MachineStep MachineState Shown LeftOut → Type 0 = λ m. HasBothStatuses (left_by m) in subst P e (steps_keep_statuses rank s h)
statuses_done s next rank (answers.Stopped left) h e =
    let P : MachineStep MachineState Shown LeftOut → Type 0 = λ m. HasBothStatuses (left_by m) in subst P e (steps_keep_statuses rank s h)

no_bits : (arch : Arch) → All (IsStatus arch) (0 ∷ 0 ∷ 0 ∷ 0 ∷ 0 ∷ [])
no_bits arch =
    let P : ℕ → Type 0 = λ n. IsStatus arch n in
    let z = no_status arch in
    All-cons P 0 (0 ∷ 0 ∷ 0 ∷ 0 ∷ []) z
    (All-cons P 0 (0 ∷ 0 ∷ 0 ∷ []) z (All-cons P 0 (0 ∷ 0 ∷ []) z (All-cons P 0 (0 ∷ []) z (All-cons P 0 [] z (All-nil P)))))

core_boots : (arch : Arch) (entry : ℕ) (stacks : List ℕ) → HasStatuses arch (cores.booted entry stacks)
core_boots V4 entry stacks = record { cpsr = refl; saved = no_bits V4 }
core_boots V5 entry stacks = record { cpsr = refl; saved = no_bits V5 }

-- what is copied leaves the registers
copied_has : (proc : Proc) (s : MachineState) (at : ℕ) (bytes : List ℕ) → HasBothStatuses s → HasBothStatuses (copied proc s at bytes)
copied_has proc s at [] h = h
copied_has proc s at (byte ∷ rest) h = copied_has proc (stored proc s at byte) (at + 1) rest (record { nine = h.nine; seven = h.seven })

blank_has : (file : List ℕ) (keys : List KeyLine) → HasBothStatuses (machine_blank file keys)
blank_has file keys = record {
  nine = record {
    processor = core_boots V5 (image_entry file Nine) (stacks_of Nine);
    control = omega arith;
    dtcm = omega arith;
    itcm = omega arith;
  };
  seven = core_boots V4 (image_entry file Seven) (stacks_of Seven);
}

pub boots_with_statuses : BootsWithStatuses
boots_with_statuses file keys =
    let nine = with_image Nine (machine_blank file keys) file in
    let seven = with_image Seven nine file in
    copied_has Nine seven header_place (take header_bytes file)
    (copied_has Seven nine (image_place file Seven) (image_of file Seven)
    (copied_has Nine (machine_blank file keys) (image_place file Nine) (image_of file Nine) (blank_has file keys)))

-- where a run ends that isn't stopped
abbrev EndHas : Ending MachineState LeftOut → Type 0
EndHas (At s) = HasBothStatuses s
EndHas (runs.Stopped stop) = Unit {0}

run_has : (limit : ℕ) (end : Ending MachineState LeftOut) (s : MachineState) (all : List Shown) → Runs reference limit end s all → HasBothStatuses s → EndHas end
run_has limit end s all (over s0 none) h = h
run_has limit end s all (stops s0 after tick rank stop least below halts) h = tt
run_has limit end s all (more e0 s0 next tick rank outs rest least below goes run) h =
    let k : HasBothStatuses (left_by (reference.step rank s0)) = steps_keep_statuses rank s0 h in
    let P : MachineStep MachineState Shown LeftOut → Type 0 = λ m. HasBothStatuses (left_by m) in
    run_has limit e0 next rest run (subst P goes k)

pub runs_keep_statuses : RunsKeepStatuses
runs_keep_statuses limit start end outs run h = run_has limit (At end) start outs run h
