use Rattle.ds_machine.proofs.Words.{AreKeyLines, At, Bool, Dma, Ending, HasSoundParts, KeyLine, KeyScript, LeftOut, List, MachineState, MachineStep}
use Rattle.ds_machine.proofs.Words.{Makes, Nine, Proc, Processor, Runs, RunsKeepScript, Seven, Shown, Some, Tick, Timer, [], actor_of, after_line, ap}
use Rattle.ds_machine.proofs.Words.{arith, due_of_rank, ended, false, goes_on, if_false, if_true, if◌then◌else◌, keys_due, left_by, machine_graft}
use Rattle.ds_machine.proofs.Words.{machine_settled, more, nat_lt, over, reference, reference_step, refl, same_Some, same_makes, script_from, step_by}
use Rattle.ds_machine.proofs.Words.{stops, sym, true, unchanged_by, wakes, woken_one, ℕ, ◌+◌, ◌<◌, ◌∙◌, ◌∷◌, ◌≡◌, ◌≤◌}
use Rattle.ds_runs.specs.Runs as runs
use Rattle.ds_runs.specs.declared.actors.Actor as actor
use Rattle.ds_machine.proofs.MachineSchedule.{Steps, owes_as, step_made_as, steps_here}
use Rattle.ds_machine.proofs.Touched.{each_touches}

-- Wherever a run to a tick ends, the lines that are to come are those of the script that are due from that tick on.

-- ---- the lines from a tick on

-- they are the same from a later tick on, where the first of them isn't due before it
later_lines : (now later : ℕ) (script lines : List KeyLine) → now ≤ later → lines ≡ script_from now script
    → ((tick : Tick) → keys_due lines ≡ Some tick → later ≤ tick.0) → lines ≡ script_from later script
later_lines now later [] lines le is none = is
later_lines now later (line ∷ rest) lines le is none =
    by_first (nat_lt line.tick.0 now) refl (λ e. later_lines now later rest lines le (is ∙ if_true (nat_lt line.tick.0 now) (script_from now rest) (line ∷ rest) e) none) where
      by_first : (b : Bool) → nat_lt line.tick.0 now ≡ b → (nat_lt line.tick.0 now ≡ true → lines ≡ script_from later rest) → lines ≡ script_from later (line ∷ rest)
      by_first true e again =
          let below : nat_lt line.tick.0 later ≡ true = grind (arith, e, le) in
          again e ∙ sym (if_true (nat_lt line.tick.0 later) (script_from later rest) (line ∷ rest) below)
      by_first false e again =
          let here : lines ≡ line ∷ rest = is ∙ if_false (nat_lt line.tick.0 now) (script_from now rest) (line ∷ rest) e in
          let most : later ≤ line.tick.0 = none line.tick (ap keys_due here) in
          let past : nat_lt line.tick.0 later ≡ false = grind (arith, most) in
          here ∙ sym (if_false (nat_lt line.tick.0 later) (script_from later rest) (line ∷ rest) past)

abbrev first_tick : List KeyLine → ℕ
first_tick [] = 0
first_tick (line ∷ lines) = line.tick.0

abbrev rest_of : List KeyLine → List KeyLine
rest_of [] = []
rest_of (line ∷ lines) = lines

all_from : (script : List KeyLine) → script_from 0 script ≡ script
all_from [] = refl
all_from (line ∷ lines) = if_false (nat_lt line.tick.0 0) (script_from 0 lines) (line ∷ lines) (grind arith)

-- and once the first of them was taken, at its tick, from the tick after it on the others are left
lines_after : (now : ℕ) (script : List KeyLine) (line : KeyLine) (lines : List KeyLine) → line ∷ lines ≡ script_from now script
    → ((tick : Tick) → keys_due lines ≡ Some tick → line.tick.0 < tick.0) → now ≤ line.tick.0 + 1 → lines ≡ script_from (line.tick.0 + 1) script
lines_after now [] line lines is later le = absurd (cc)
lines_after now (one ∷ rest) line lines is later le =
    by_first (nat_lt one.tick.0 now) refl (λ e. lines_after now rest line lines (is ∙ if_true (nat_lt one.tick.0 now) (script_from now rest) (one ∷ rest) e) later le) where
      by_first : (b : Bool) → nat_lt one.tick.0 now ≡ b → (nat_lt one.tick.0 now ≡ true → lines ≡ script_from (line.tick.0 + 1) rest)
          → lines ≡ script_from (line.tick.0 + 1) (one ∷ rest)
      by_first true e again =
          let below : nat_lt one.tick.0 (line.tick.0 + 1) ≡ true = grind (arith, e, le) in
          again e ∙ sym (if_true (nat_lt one.tick.0 (line.tick.0 + 1)) (script_from (line.tick.0 + 1) rest) (one ∷ rest) below)
      by_first false e again =
          let here : line ∷ lines ≡ one ∷ rest = is ∙ if_false (nat_lt one.tick.0 now) (script_from now rest) (one ∷ rest) e in
          let others : lines ≡ rest = ap (λ (ls : List KeyLine). rest_of ls) here in
          let same : line.tick.0 ≡ one.tick.0 = ap (λ (ls : List KeyLine). first_tick ls) here in
          let below : nat_lt one.tick.0 (line.tick.0 + 1) ≡ true = grind (arith, same) in
          later_lines 0 (line.tick.0 + 1) rest lines (omega arith) (others ∙ sym (all_from rest)) (λ tick due. (let lt = later tick due in omega (arith, lt)))
          ∙ sym (if_true (nat_lt one.tick.0 (line.tick.0 + 1)) (script_from (line.tick.0 + 1) rest) (one ∷ rest) below)

-- they are due from that tick on
head_late : (now : ℕ) (script : List KeyLine) (line : KeyLine) (lines : List KeyLine) → line ∷ lines ≡ script_from now script → now ≤ line.tick.0
head_late now [] line lines is = absurd (cc)
head_late now (one ∷ rest) line lines is =
    by_first (nat_lt one.tick.0 now) refl (λ e. head_late now rest line lines (is ∙ if_true (nat_lt one.tick.0 now) (script_from now rest) (one ∷ rest) e)) where
      by_first : (b : Bool) → nat_lt one.tick.0 now ≡ b → (nat_lt one.tick.0 now ≡ true → now ≤ line.tick.0) → now ≤ line.tick.0
      by_first true e again = again e
      by_first false e again =
          let here : line ∷ lines ≡ one ∷ rest = is ∙ if_false (nat_lt one.tick.0 now) (script_from now rest) (one ∷ rest) e in
          let same : line.tick.0 ≡ one.tick.0 = ap (λ (ls : List KeyLine). first_tick ls) here in
          grind (arith, e, same)

-- lines rise
rises : (line : KeyLine) (lines : List KeyLine) → AreKeyLines (line ∷ lines) → (tick : Tick) → keys_due lines ≡ Some tick → line.tick.0 < tick.0
rises line [] are tick due = absurd (cc)
rises line (next ∷ lines) are tick due =
    let lt : line.tick.0 < next.tick.0 = are.rising 0 (omega arith) in
    let same = ap (λ (t : Tick). t.0) (same_Some next.tick tick due) in
    omega (arith, lt, same)

-- ---- who doesn't press keys leaves them

keys_left : (a : actor.Actor) (rank : ℕ) (s made : MachineState) (outs : List Shown) → step_by rank a s ≡ Makes made outs
    → (machine_graft (unchanged_by a s) s (left_by (step_by rank a s))).keys ≡ s.keys → made.keys ≡ s.keys
keys_left a rank s made outs h same =
    ap (λ (m : MachineState). m.keys) (sym ((each_touches rank a s).leaves ∙ ap (λ (x : MachineStep MachineState Shown LeftOut). left_by x) h)) ∙ same

woken_keys : (b : Bool) (proc : Proc) (tick : Tick) (s : MachineState) → (if b then goes_on proc tick s else s).keys ≡ s.keys
woken_keys true Nine tick s = refl
woken_keys true Seven tick s = refl
woken_keys false proc tick s = refl

ended_keys : (tick : Tick) (s : MachineState) → (ended tick s).keys ≡ s.keys
unfolding ended
ended_keys tick s =
    let rest = machine_settled tick s in
    let first = woken_one Nine tick rest in
    woken_keys (wakes first Seven) Seven tick first ∙ woken_keys (wakes rest Nine) Nine tick rest

-- ---- a step at a tick: the lines are those from some tick on, which isn't past a limit

abbrev AreFrom : ℕ → List KeyLine → List KeyLine → Type 0
AreFrom limit script lines = (now : ℕ) × (now ≤ limit) × (lines ≡ script_from now script)

module _ (limit : ℕ) (script : List KeyLine) where
  line_taken : (s made : MachineState) (lines : List KeyLine) (tick : Tick) → after_line lines s ≡ made → keys_due lines ≡ Some tick → tick.0 < limit
      → AreKeyLines lines → (now : ℕ) → lines ≡ script_from now script → AreFrom limit script made.keys
  line_taken s made [] tick is due lt are now from = absurd (cc)
  line_taken s made (line ∷ lines) tick is due lt are now from =
      let same : line.tick.0 ≡ tick.0 = ap (λ (t : Tick). t.0) (same_Some line.tick tick due) in
      let late = head_late now script line lines from in (
        line.tick.0 + 1,
        omega (arith, same, lt),
        ap (λ (m : MachineState). m.keys) (sym is) ∙ lines_after now script line lines from (rises line lines are) (omega (arith, late)),
      )

  script_made : (a : actor.Actor) (rank : ℕ) (tick : Tick) (s made : MachineState) (outs : List Shown) → Steps a rank tick s → step_by rank a s ≡ Makes made outs
      → tick.0 < limit → AreFrom limit script s.keys → AreFrom limit script made.keys
  script_made KeyScript rank tick s made outs st h lt from =
      line_taken s made s.keys tick (same_makes (after_line s.keys s) made [] outs h).0 st.due lt st.sound.keys from.0 from.2
  script_made (Timer Nine number) rank tick s made outs st h lt from = (from.0, from.1, keys_left (Timer Nine number) rank s made outs h refl ∙ from.2)
  script_made (Timer Seven number) rank tick s made outs st h lt from = (from.0, from.1, keys_left (Timer Seven number) rank s made outs h refl ∙ from.2)
  script_made (Dma Nine channel) rank tick s made outs st h lt from = (from.0, from.1, keys_left (Dma Nine channel) rank s made outs h refl ∙ from.2)
  script_made (Dma Seven channel) rank tick s made outs st h lt from = (from.0, from.1, keys_left (Dma Seven channel) rank s made outs h refl ∙ from.2)
  script_made (Processor Nine) rank tick s made outs st h lt from = (from.0, from.1, keys_left (Processor Nine) rank s made outs h refl ∙ from.2)
  script_made (Processor Seven) rank tick s made outs st h lt from = (from.0, from.1, keys_left (Processor Seven) rank s made outs h refl ∙ from.2)
  script_made a rank tick s made outs st h lt from = (from.0, from.1, keys_left a rank s made outs h refl ∙ from.2)

  script_step : (s next : MachineState) (tick : Tick) (rank : ℕ) (outs : List Shown) → Steps (actor_of rank) rank tick s → reference_step rank s ≡ Makes next outs
      → tick.0 < limit → AreFrom limit script s.keys → AreFrom limit script next.keys
  script_step s next tick rank outs st h lt from =
      let k = step_made_as s next tick rank outs st h in
      let made = script_made (actor_of rank) rank tick s k.0 outs st k.1 lt from in
      (made.0, made.1, ap (λ (m : MachineState). m.keys) (sym k.2) ∙ ended_keys tick k.0 ∙ made.2)

  -- where a run ends that isn't stopped
  abbrev EndsFrom : Ending MachineState LeftOut → Type 0
  EndsFrom (At s) = s.keys ≡ script_from limit script
  EndsFrom (runs.Stopped stop) = Unit {0}

  run_from : (end : Ending MachineState LeftOut) (s : MachineState) (all : List Shown) → Runs reference limit end s all → HasSoundParts s
      → AreFrom limit script s.keys → EndsFrom end
  run_from end s all (over s0 none) sound from =
      later_lines from.0 limit script s0.keys from.1 from.2 (λ tick due. none 0 tick (due_of_rank s0 0 (omega arith) ∙ due))
  run_from end s all (stops s0 after tick rank stop least below halts) sound from = tt
  run_from end s all (more e0 s0 next tick rank outs rest least below goes run) sound from =
      let st = steps_here s0 tick rank sound least in
      run_from e0 next rest run (owes_as s0 next tick rank outs st goes).sound (script_step s0 next tick rank outs st goes below from)

pub runs_keep_script : RunsKeepScript
runs_keep_script limit later script start end outs run sound le is = run_from later script (At end) start outs run sound (limit, le, is)
