use Rattle.ds_machine.proofs.Words.{At, CardPasses, Ending, Geometry, GxState, HasItsTransfer, HasShortRun, HasSoundParts, IoState, IsBy, IsLeast}
use Rattle.ds_machine.proofs.Words.{IsPastBy, IsSoonBy, IsWithinTick, KeyScript, LeftOut, List, MachineState, MachineStep, Makes, Nine, None, Option}
use Rattle.ds_machine.proofs.Words.{Proc, Runs, Seven, Shown, Some, Tick, actor_of, ap, arith, card_due, channel_at, dma_at_boot, dues_of, io_at_boot}
use Rattle.ds_machine.proofs.Words.{io_of, last_tick, left_by, more, numbers_at_boot, over, processor_io_is, reference, reference_step, refl, run_of}
use Rattle.ds_machine.proofs.Words.{scans_follow, step_by, stops, subst, suc, sym, timer_at, timers_at_boot, zero, ℕ, ◌<◌, ◌∙◌, ◌≡◌, ◌≤◌}
use Rattle.ds_ports.specs.WithinLaws.{AreWithinTick, OwnIsWithinTick}
use Rattle.ds_runs.specs.Runs as runs
use Rattle.ds_runs.specs.declared.actors.Actor as actor
use Rattle.video2d.proofs.VideoLaws.{stays_video}
use Rattle.ds_machine.specs.WithinLaws.{BootsWithinTick, RunsStayWithinTick, TicksRise}
use Rattle.ds_machine.proofs.Booting.{booted_due}
use Rattle.ds_machine.proofs.CardSteps.{steps_pass_card}
use Rattle.ds_machine.proofs.Files.{steps_keep_file}
use Rattle.ds_machine.proofs.Halting.{boots_keep_no_more, step_still}
use Rattle.ds_machine.proofs.MachineSchedule.{Steps, owes_as, step_made_as, steps_here}
use Rattle.ds_machine.proofs.Running.{short_least}
use Rattle.ds_machine.proofs.VertexRuns.{made_run}
use Rattle.ds_machine.proofs.VideoEvents.{ended_leaves}
use Rattle.ds_machine.proofs.WithinCard.{passes_stays}
use Rattle.ds_machine.proofs.WithinSteps.{StepStays, ended_stays, made_stays}

-- Wherever a run to a tick ends, the machine is within that tick.

-- ---- later ticks serve too

tick_rises : (limit later : ℕ) (tick : Option Tick) → limit ≤ later → IsBy limit tick → IsBy later tick
tick_rises limit later None le h = tt
tick_rises limit later (Some tick) le h = omega (arith, le, h)

soon_rises : (limit later : ℕ) (due : Option Tick) → limit ≤ later → IsSoonBy limit due → IsSoonBy later due
soon_rises limit later None le h = tt
soon_rises limit later (Some tick) le h = omega (arith, le, h)

past_rises : (limit later : ℕ) (tick : Option Tick) → limit ≤ later → IsPastBy limit tick → IsPastBy later tick
past_rises limit later None le h = tt
past_rises limit later (Some tick) le h = let most = h.1 in (h.0, omega (arith, le, most))

own_rises : (limit later : ℕ) (u : IoState) → limit ≤ later → AreWithinTick limit u → (proc : Proc) → OwnIsWithinTick proc later (io_of u proc)
own_rises limit later u le h proc = record {
  timers = λ which l. tick_rises limit later (timer_at (io_of u proc).timers which).since le ((h.own proc).timers which l);
  dma = record {
    trigger = λ which l. tick_rises limit later (channel_at (io_of u proc).dma.channels which).trigger le ((h.own proc).dma.trigger which l);
    last = past_rises limit later (last_tick (io_of u proc).dma.last) le (h.own proc).dma.last;
  };
  is_its = (h.own proc).is_its;
  ie = (h.own proc).ie;
  keycnt = (h.own proc).keycnt;
  level = (h.own proc).level;
}

units_rise : (limit later : ℕ) (u : IoState) → limit ≤ later → AreWithinTick limit u → AreWithinTick later u
units_rise limit later u le h = record {
  own = own_rises limit later u le h;
  divider = soon_rises limit later u.divider.due le h.divider;
  root = soon_rises limit later u.root.due le h.root;
  gx = soon_rises limit later u.gx.due le h.gx;
  card = soon_rises limit later (card_due u.card) le h.card;
  released = (let most = h.released in omega (arith, le, most));
  swap = (let most = h.swap in omega (arith, le, most));
  none = h.none;
  video = h.video;
  scan = (h.scan.0, (let most = h.scan.1 in omega (arith, le, most)), h.scan.2);
}

pub ticks_rise : TicksRise
ticks_rise limit later s le h = record {
  units = units_rise limit later s.io le h.units;
  own = λ proc. (let most = h.own proc in omega (arith, le, most));
  run = (let most = h.run in omega (arith, le, most));
  short = h.short;
  kept = h.kept;
  card = h.card;
}

-- ---- at boot

anchors_at_boot : (which : ℕ) → which < 4 → IsBy 0 (timer_at timers_at_boot which).since
anchors_at_boot zero l = tt
anchors_at_boot (suc zero) l = tt
anchors_at_boot (suc (suc zero)) l = tt
anchors_at_boot (suc (suc (suc zero))) l = tt
anchors_at_boot (suc (suc (suc (suc n)))) l = absurd (omega (arith, l))

triggers_at_boot : (proc : Proc) (which : ℕ) → which < 4 → IsBy 0 (channel_at (dma_at_boot proc).channels which).trigger
triggers_at_boot proc zero l = tt
triggers_at_boot proc (suc zero) l = tt
triggers_at_boot proc (suc (suc zero)) l = tt
triggers_at_boot proc (suc (suc (suc zero))) l = tt
triggers_at_boot proc (suc (suc (suc (suc n)))) l = absurd (omega (arith, l))

own_at_boot : (proc : Proc) → OwnIsWithinTick proc 0 (io_of io_at_boot proc)
own_at_boot Nine = record { timers = anchors_at_boot; dma = record { trigger = triggers_at_boot Nine; last = tt }; is_its = refl; ie = refl; keycnt = refl; level = λ e. refl }
own_at_boot Seven = record { timers = anchors_at_boot; dma = record { trigger = triggers_at_boot Seven; last = tt }; is_its = refl; ie = refl; keycnt = refl; level = λ e. refl }

units_at_boot : AreWithinTick 0 io_at_boot
units_at_boot = record {
  own = own_at_boot;
  divider = tt;
  root = tt;
  gx = tt;
  card = tt;
  released = omega arith;
  swap = omega arith;
  none = λ e. refl;
  video = stays_video.boot;
  scan = (0, omega arith, sym scans_follow.boot);
}

run_at_boot : (s : MachineState) → s.io ≡ io_at_boot → run_of s ≡ 0
unfolding numbers_at_boot
run_at_boot s io = ap (λ (u : IoState). u.gx.geometry.numbers.run) io

pub boots_within_tick : BootsWithinTick
boots_within_tick s keys is io =
    let none = run_at_boot s io in
    record {
      units = subst (AreWithinTick 0) (sym io) units_at_boot;
      own = λ proc. (let due = booted_due s keys is proc in omega (arith, due));
      run = omega (arith, none);
      short = record { own = λ tick due. omega (arith, none); others = λ rank tick due. omega (arith, none) };
      kept = boots_keep_no_more s io;
      card = subst (λ (u : IoState). HasItsTransfer s.file u.card) (sym io) (record { left = tt; word = tt });
    }

-- ---- a step

-- geometry's adds one vertex at most, after no more vertices than its tick
run_made : (limit : ℕ) (a : actor.Actor) (rank : ℕ) (tick : Tick) (s made : MachineState) (outs : List Shown) → Steps a rank tick s → step_by rank a s ≡ Makes made outs
    → tick.0 < limit → HasShortRun s → run_of s ≤ limit → run_of made ≤ limit
run_made limit Geometry rank tick s made outs st h lt short few =
    let more = made_run Geometry rank tick s made outs st h in
    let here = short.own tick st.due in
    omega (arith, more, here, lt)
run_made limit KeyScript rank tick s made outs st h lt short few = let more = made_run KeyScript rank tick s made outs st h in omega (arith, more, few)
run_made limit a rank tick s made outs st h lt short few = let more = made_run a rank tick s made outs st h in omega (arith, more, few)

step_within : (limit : ℕ) (s next : MachineState) (tick : Tick) (rank : ℕ) (outs : List Shown) → HasSoundParts s → IsLeast (dues_of s) tick rank
    → reference_step rank s ≡ Makes next outs → tick.0 < limit → IsWithinTick limit s → IsWithinTick limit next
step_within limit s next tick rank outs sound least h lt was =
    let st = steps_here s tick rank sound least in
    let k = step_made_as s next tick rank outs st h in
    let le : tick.0 ≤ limit = omega (arith, lt) in
    let before : StepStays limit s = record { io = record { is = processor_io_is s.io sound.io; within = was.units }; own = was.own } in
    let after : StepStays limit next = subst (StepStays limit) k.2 (ended_stays limit tick k.0 le (made_stays limit (actor_of rank) rank tick s k.0 outs st k.1 lt before)) in
    let came : left_by (reference_step rank s) ≡ next = ap (λ (x : MachineStep MachineState Shown LeftOut). left_by x) h in
    let file : next.file ≡ s.file = ap (λ (m : MachineState). m.file) (sym came) ∙ steps_keep_file rank s in
    let passes = subst (λ (m : MachineState). (words : List ℕ) × CardPasses s.file s.io.card words m.io.card) came (_, steps_pass_card rank s) in
    record {
      units = after.io.within;
      own = after.own;
      run = subst (λ (m : MachineState). run_of m ≤ limit) k.2
          (subst (λ (g : GxState). g.geometry.numbers.run ≤ limit) (sym (ended_leaves tick k.0).gx)
          (run_made limit (actor_of rank) rank tick s k.0 outs st k.1 lt was.short was.run));
      short = short_least s next tick rank outs st least h was.short;
      kept = step_still s next tick rank outs sound least h was.kept.halted;
      card = subst (λ (f : List ℕ). HasItsTransfer f next.io.card) (sym file) (passes_stays s.file s.io.card next.io.card passes.0 passes.1 was.card);
    }

-- ---- the law

-- where a run ends that isn't stopped
abbrev EndsWithinTick : ℕ → Ending MachineState LeftOut → Type 0
EndsWithinTick limit (At s) = IsWithinTick limit s
EndsWithinTick limit (runs.Stopped stop) = Unit {0}

run_within : (limit : ℕ) (end : Ending MachineState LeftOut) (s : MachineState) (all : List Shown) → Runs reference limit end s all → HasSoundParts s → IsWithinTick limit s
    → EndsWithinTick limit end
run_within limit end s all (over s0 none) sound h = h
run_within limit end s all (stops s0 after tick rank stop least below halts) sound h = tt
run_within limit end s all (more e0 s0 next tick rank outs rest least below goes run) sound h =
    run_within limit e0 next rest run (owes_as s0 next tick rank outs (steps_here s0 tick rank sound least) goes).sound
    (step_within limit s0 next tick rank outs sound least goes below h)

pub runs_stay_within_tick : RunsStayWithinTick
runs_stay_within_tick limit later start end outs run sound le h = run_within later (At end) start outs run sound (ticks_rise limit later start le h)
