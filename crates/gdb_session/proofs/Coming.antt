use Rattle.gdb_session.proofs.Words.{ComesFrom, ConsoleState, List, MachineState, Shown, ap, arith, dues_of, reference_step, subst, sym, ℕ, ◌∙◌, ◌≡◌}
use Rattle.std.proofs.Common.{◌⊎◌, inl, inr, Bool, true, false, [], Option, Some, None, is_some, max, refl}
use Rattle.ds_base.specs.declared.left_out.LeftOut.{LeftOut}
use Rattle.ds_base.specs.declared.processors.Proc.{Proc}
use Rattle.gdb_session.specs.Tapes.{HasRunTo}
use Rattle.ds_runs.specs.Runs.{IsOver, MachineStep, Makes, Stops}
use Rattle.ds_machine.specs.Hearing.{geometry_rank}
use Rattle.ds_machine.specs.Lagging.{CatchesUpIf, TakesGeometry, more_geometry, no_geometry, observes_by}
use Rattle.ds_machine.specs.Private.{rank_of}
use Rattle.ds_machine.specs.Statuses.{left_by}
use Rattle.ds_machine.specs.Steps.{processor_of}
use Rattle.ds_machine.specs.TurnSteps.{TakesSteps, more_steps, no_steps}
use Rattle.ds_machine.proofs.Files.{steps_keep_file}
use Rattle.ds_runs.specs.Actors.{actor_of}
use Rattle.run_ahead.specs.Turns.{Acts, HasTurned, MeetsStop, TakesEvent, TakesQuiet, TakesStretch, Turns, no_turn, one_turn}
use Rattle.run_ahead.specs.ToEndLaws.{TurnsOn, no_turn_on, one_turn_on}
use Rattle.run_ahead.specs.TurnLaws.{TurnsUpTo}
use Rattle.run_ahead.specs.declared.turns.Turned.{Turned}
use Rattle.run_ahead.specs.declared.turns.Turned.TheVariants.{AtEnd, Frame, Ran, Stopped}

-- Turns one after another are turns, and none of them changes the cartridge's file.

-- ---- the file

comes_file : (rank : ℕ) (s : MachineState) (came : MachineStep MachineState Shown LeftOut) → reference_step rank s ≡ came → (left_by came).file ≡ s.file
comes_file rank s came is = ap (λ (m : MachineStep MachineState Shown LeftOut). (left_by m).file) (sym is) ∙ steps_keep_file rank s

geometry_file : (tick rank : ℕ) (s caught : MachineState) → TakesGeometry tick rank s caught → caught.file ≡ s.file
geometry_file tick rank s caught (no_geometry start) = refl
geometry_file tick rank s caught (more_geometry start before next earlier behind is) =
    comes_file geometry_rank before (Makes next []) is ∙ geometry_file tick rank start before earlier

caught_file : (observes : Bool) (tick rank : ℕ) (s caught : MachineState) → CatchesUpIf observes tick rank s caught → caught.file ≡ s.file
caught_file true tick rank s caught c = geometry_file tick rank s caught c.steps
caught_file false tick rank s caught is = ap (λ (m : MachineState). m.file) is

acts_file : (until : ℕ) (old : MachineState) (came : MachineStep MachineState Shown LeftOut) → Acts until old came → (left_by came).file ≡ old.file
acts_file until old came a =
    comes_file a.rank a.caught came a.step ∙ caught_file (observes_by (actor_of a.rank) old) a.tick.0 a.rank old a.caught a.catches

step_file : (proc : Proc) (before caught : MachineState) (came : MachineStep MachineState Shown LeftOut)
    → CatchesUpIf (observes_by (actor_of (rank_of proc)) before) (processor_of before proc).due (rank_of proc) before caught
    → reference_step (rank_of proc) caught ≡ came → (left_by came).file ≡ before.file
step_file proc before caught came catches is =
    comes_file (rank_of proc) caught came is
    ∙ caught_file (observes_by (actor_of (rank_of proc)) before) (processor_of before proc).due (rank_of proc) before caught catches

steps_file : (until : ℕ) (proc : Proc) (old new : MachineState) → TakesSteps until proc old new → new.file ≡ old.file
steps_file until proc old new (no_steps start) = refl
steps_file until proc old new (more_steps start before caught next earlier belongs catches is) =
    step_file proc before caught (Makes next []) catches is ∙ steps_file until proc start before earlier

ran_file : (until : ℕ) (old new : MachineState) → TakesEvent until old [] new ⊎ (TakesStretch until old new ⊎ TakesQuiet until old new) → new.file ≡ old.file
ran_file until old new (inl event) = acts_file until old (Makes new []) event.0
ran_file until old new (inr (inl stretch)) = steps_file until stretch.proc old new stretch.steps
ran_file until old new (inr (inr quiet)) = geometry_file until 0 old new quiet.catches.steps

stop_file : (until : ℕ) (old new : MachineState) (left : LeftOut) → MeetsStop until old left new → new.file ≡ old.file
stop_file until old new left (inl event) = acts_file until old (Stops left new) event.0
stop_file until old new left (inr s) =
    step_file s.proc s.before s.caught (Stops left new) s.catches s.step ∙ steps_file until s.proc old s.before s.steps

stopped_file : (until : ℕ) (old new : ConsoleState) (left : LeftOut) (stopped : Option LeftOut) → old.stopped ≡ stopped → Turns until old (Stopped left) new
    → new.machine.file ≡ old.machine.file
stopped_file until old new left None is t = stop_file until old.machine new.machine left (t.0 is).0
stopped_file until old new left (Some had) is t = ap (λ (c : ConsoleState). c.machine.file) (t.1 (ap is_some is)).1

turn_file : (until : ℕ) (old new : ConsoleState) (answer : Turned) → Turns until old answer new → new.machine.file ≡ old.machine.file
turn_file until old new Ran t = ran_file until old.machine new.machine t.1
turn_file until old new (Frame swapped) t = acts_file until old.machine (Makes new.machine _) t.1.0
turn_file until old new AtEnd t = ap (λ (c : ConsoleState). c.machine.file) t.2
turn_file until old new (Stopped left) t = stopped_file until old new left old.stopped refl t

pub came_file : (old new : ConsoleState) (outs : List Shown) → TurnsOn old new outs → new.machine.file ≡ old.machine.file
came_file old new outs (no_turn_on start) = refl
came_file old new outs (one_turn_on start before now front until answer earlier turn) =
    turn_file until before now answer turn ∙ came_file start before front earlier

-- ---- turns one after another

pub stays : (c : ConsoleState) → ComesFrom c c
stays c = ([], no_turn_on c)

pub one_comes : (until : ℕ) (old new : ConsoleState) (answer : Turned) → Turns until old answer new → ComesFrom old new
one_comes until old new answer turn = (_, one_turn_on old old new [] until answer (no_turn_on old) turn)

turned_comes : (until : ℕ) (old new : ConsoleState) → HasTurned until old new → ComesFrom old new
turned_comes until old new (no_turn start) = ([], no_turn_on start)
turned_comes until old new (one_turn start before now answer earlier turn) =
    let e = turned_comes until start before earlier in (_, one_turn_on start before now e.0 until answer e.1 turn)

ran_comes : (until : ℕ) (old new : ConsoleState) (answer : Turned) → TurnsUpTo until old answer new → ComesFrom old new
ran_comes until old new answer up =
    let e = turned_comes until old up.before up.ran.turned in (_, one_turn_on old up.before new e.0 until answer e.1 up.last)

pub comes_on : (first middle last : ConsoleState) (outs more : List Shown) → TurnsOn first middle outs → TurnsOn middle last more → ComesFrom first last
comes_on first middle last outs more came (no_turn_on start) = (outs, came)
comes_on first middle last outs more came (one_turn_on start before now front until answer earlier turn) =
    let e = comes_on first middle before outs front came earlier in (_, one_turn_on first before now e.0 until answer e.1 turn)

pub ran_on : (until : ℕ) (first middle last : ConsoleState) (answer : Turned) → ComesFrom first middle → TurnsUpTo until middle answer last → ComesFrom first last
ran_on until first middle last answer came up =
    let e = ran_comes until middle last answer up in comes_on first middle last came.0 e.0 came.1 e.1

-- ---- the tick to which a console is run

again : (limit until : ℕ) → max (max limit until) until ≡ max limit until
again limit until = grind arith

stopped_limit : (until : ℕ) (old new : ConsoleState) (left : LeftOut) (stopped : Option LeftOut) → old.stopped ≡ stopped → Turns until old (Stopped left) new
    → max new.limit until ≡ max old.limit until
stopped_limit until old new left None is t = ap (λ (c : ConsoleState). max c.limit until) (t.0 is).1 ∙ again old.limit until
stopped_limit until old new left (Some had) is t = ap (λ (c : ConsoleState). max c.limit until) (t.1 (ap is_some is)).1

turn_limit : (until : ℕ) (old new : ConsoleState) (answer : Turned) → Turns until old answer new → max new.limit until ≡ max old.limit until
turn_limit until old new Ran t = ap (λ (c : ConsoleState). max c.limit until) t.2 ∙ again old.limit until
turn_limit until old new (Frame swapped) t = ap (λ (c : ConsoleState). max c.limit until) t.2 ∙ again old.limit until
turn_limit until old new AtEnd t = ap (λ (c : ConsoleState). max c.limit until) t.2 ∙ again old.limit until
turn_limit until old new (Stopped left) t = stopped_limit until old new left old.stopped refl t

pub ran_limit : (until : ℕ) (old new : ConsoleState) (answer : Turned) → TurnsUpTo until old answer new → max new.limit until ≡ max old.limit until
ran_limit until old new answer up = turn_limit until up.before new answer up.last ∙ up.ran.limit

ran_to : (until : ℕ) (old new : ConsoleState) → TurnsUpTo until old AtEnd new → HasRunTo until old new
ran_to until old new up = (
  ap (λ (c : ConsoleState). c.limit) up.last.2 ∙ up.ran.limit,
  subst (λ (m : MachineState). IsOver (dues_of m) until) (sym (ap (λ (c : ConsoleState). c.machine) up.last.2)) up.last.1,
  ap (λ (c : ConsoleState). c.stopped) up.last.2 ∙ up.last.0,
)

pub ran_there : (until n : ℕ) (first middle last : ConsoleState) → n ≡ until → max middle.limit n ≡ max first.limit n → TurnsUpTo n middle AtEnd last
    → HasRunTo until first last
ran_there until n first middle last same kept up =
    let h = ran_to n middle last up in subst (λ (k : ℕ). HasRunTo k first last) same (h.0 ∙ kept, h.1, h.2)
