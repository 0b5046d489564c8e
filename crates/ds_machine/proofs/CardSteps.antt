use Rattle.ds_machine.proofs.Words.{At, Bool, Card, CardPasses, CardState, Cost, Dma, DmaUnit, Ending, Err, HBlank, Halted, IoState, IsSome, KeyLine}
use Rattle.ds_machine.proofs.Words.{KeyScript, Left, LeftOut, List, MachineState, MachineStep, Makes, MapState, Nine, NineReach, None, Ok, Option}
use Rattle.ds_machine.proofs.Words.{Proc, Processor, Result, Runs, Seven, SevenReach, Shown, Some, Stop, Stops, Tick, Timer, VBlank, Video, []}
use Rattle.ds_machine.proofs.Words.{actor_of, after_line, and_taken, ap, awake, both_raised, came, card_after_event, card_done_at, card_due}
use Rattle.ds_machine.proofs.Words.{card_starter, channel_moved, channel_step, channels_triggered, due_by, ended, false, goes_on, if◌then◌else◌}
use Rattle.ds_machine.proofs.Words.{io_due, left_by, line_of, machine_concluded, machine_settled, map_after_unit, map_of, map_value, map_written}
use Rattle.ds_machine.proofs.Words.{more, moved_by, next_unit, nine_memory, nine_reach, nine_side, outcome_of, over, passed_none, processor_of}
use Rattle.ds_machine.proofs.Words.{reference, refl, scan_due_tick, seven_memory, seven_reach, seven_side, shown_to_others, starter_told}
use Rattle.ds_machine.proofs.Words.{starts_vblank, step_accesses, step_by, stops, subst, swapped_if, sym, tick_of, true, unit_read, unit_refusal}
use Rattle.ds_machine.proofs.Words.{unit_taken, unit_waits, unless_stop, video_after_event, video_answer, video_done, video_shown, video_step}
use Rattle.ds_machine.proofs.Words.{video_stop, wakes, with_map, woken_one, ℕ, ◌++◌, ◌∙◌, ◌∷◌, ◌≡◌}
use Rattle.ds_machine.specs.CardSteps.{map_word, MachineTakesInOrder, RunsTakeCardSteps, StepsPassCard, TakesCardSteps, unit_words, words_by}
use Rattle.arm_core.specs.declared.outcomes.Stepped as arm
use Rattle.ds_card.proofs.Begins.{begins}
use Rattle.ds_runs.specs.Runs as runs
use Rattle.ds_runs.specs.declared.actors.Actor as actor
use Rattle.ds_machine.specs.CardSteps.TakesCardSteps.{more_card_steps, no_card_steps}
use Rattle.ds_machine.proofs.CardAccesses.{joins, joins_none, map_reads, map_writes, nine_passes, passes_one, seven_passes}
use Rattle.ds_machine.proofs.Files.{steps_keep_file}
use Rattle.ds_machine.proofs.MadeAccesses.{seven_made}
use Rattle.ds_machine.proofs.Rooms.{step_made}
use Rattle.ds_machine.proofs.Wakes.{settle_leaves}
use Rattle.video2d.specs.declared.videos.Shown as display

-- Each step of the machine passes the card as the card's own law says, and so do steps one after another.

abbrev card_of : MachineState → CardState
card_of s = s.io.card

abbrev Step : Type 0
Step = MachineStep MachineState Shown LeftOut

-- ---- settling and waking leave the card

on_leaves : (proc : Proc) (tick : Tick) (s : MachineState) → card_of (goes_on proc tick s) ≡ card_of s
on_leaves Nine tick s = refl
on_leaves Seven tick s = refl

one_leaves : (proc : Proc) (tick : Tick) (s : MachineState) → card_of (woken_one proc tick s) ≡ card_of s
one_leaves proc tick s = by_waking (wakes s proc) where
  by_waking : (b : Bool) → card_of (if b then goes_on proc tick s else s) ≡ card_of s
  by_waking true = on_leaves proc tick s
  by_waking false = refl

awake_leaves : (due : Option Tick) (step : Step) → card_of (left_by (awake due step)) ≡ card_of (left_by step)
unfolding ended
awake_leaves None step = refl
awake_leaves (Some tick) (Makes next outs) =
    let settles = machine_settled tick next in
    one_leaves Seven tick (woken_one Nine tick settles) ∙ one_leaves Nine tick settles ∙ (settle_leaves tick next.io).card
awake_leaves (Some tick) (Stops stop left) = refl

-- ---- a processor's step

concluded_leaves : (rank : ℕ) (proc : Proc) (s : MachineState) (stepped : arm.Stepped)
    → (let step : Step = machine_concluded rank proc s stepped in card_of (left_by step) ≡ card_of s)
concluded_leaves rank Nine s (Cost clocks) = refl
concluded_leaves rank Nine s (Halted clocks) = refl
concluded_leaves rank Nine s (Left stop) = refl
concluded_leaves rank Seven s (Cost clocks) = refl
concluded_leaves rank Seven s (Halted clocks) = refl
concluded_leaves rank Seven s (Left stop) = refl

-- what it reaches passes the card, and the rest leaves it
nine_steps : (s : MachineState)
    → CardPasses s.file (card_of s) (words_by (Processor Nine) s) (card_of (outcome_of Nine (tick_of s.nine.processor) s).machine)
nine_steps s =
    let r : NineReach = nine_reach (tick_of s.nine.processor) s in
    let registers = s.nine.processor.registers in
    let line = line_of s Nine in
    subst (CardPasses s.file (card_of s) (words_by (Processor Nine) s)) (sym (ap (λ (x : NineReach). x.map.io.card) (step_made registers r line)))
    (nine_passes s.file (step_accesses nine_memory nine_side line registers r) r)

seven_steps : (s : MachineState)
    → CardPasses s.file (card_of s) (words_by (Processor Seven) s) (card_of (outcome_of Seven (tick_of s.seven.processor) s).machine)
seven_steps s =
    let r : SevenReach = seven_reach (tick_of s.seven.processor) s in
    let registers = s.seven.processor.registers in
    let line = line_of s Seven in
    subst (CardPasses s.file (card_of s) (words_by (Processor Seven) s)) (sym (ap (λ (x : SevenReach). x.map.io.card) (seven_made line registers r)))
    (seven_passes s.file (step_accesses seven_memory seven_side line registers r) r)

processor_steps : (proc : Proc) (s : MachineState)
    → CardPasses s.file (card_of s) (words_by (Processor proc) s) (card_of (outcome_of proc (tick_of (processor_of s proc)) s).machine)
processor_steps Nine s = nine_steps s
processor_steps Seven s = seven_steps s

-- ---- a DMA channel's

moved_leaves : (proc : Proc) (now : Tick) (waits : ℕ) (u : IoState) → (channel_moved proc now waits u).card ≡ u.card
moved_leaves Nine now waits u = refl
moved_leaves Seven now waits u = refl

-- its read comes first; the write, where it isn't refused, takes nothing
unit_passes : (file : List ℕ) (refusal : Option Stop) (proc : Proc) (now : Tick) (unit : DmaUnit) (m : MapState)
    → CardPasses file m.io.card (and_taken (map_word proc m unit.from unit.width) []) (map_after_unit refusal proc now unit m).io.card
unit_passes file (Some stop) proc now unit m = map_reads file proc now m unit.from unit.width
unit_passes file None proc now unit m =
    let read : MapState = unit_read proc now unit m in
    let taken : MapState = unit_taken proc now unit m in
    let value = map_value proc now m unit.from unit.width in
    let last = (map_written proc now taken unit.to unit.width value).io.card in
    joins_none file m.io.card read.io.card last (and_taken (map_word proc m unit.from unit.width) []) (map_reads file proc now m unit.from unit.width)
    (subst (λ (c : CardState). CardPasses file c [] last) (moved_leaves proc now (unit_waits proc now unit m) read.io)
    (map_writes file proc now taken unit.to unit.width value))

by_leaves : (rank : ℕ) (proc : Proc) (now : Tick) (stop : Option Stop) (s : MachineState)
    → (let step : Step = moved_by rank proc now stop s in card_of (left_by step) ≡ card_of s)
by_leaves rank Nine now None s = refl
by_leaves rank Seven now None s = refl
by_leaves rank proc now (Some stop) s = refl

channel_passes : (rank : ℕ) (proc : Proc) (due : Option Tick) (s : MachineState)
    → (let step : Step = channel_step rank proc due s in CardPasses s.file (card_of s) (unit_words proc due s) (card_of (left_by step)))
channel_passes rank proc None s = passed_none (card_of s)
channel_passes rank proc (Some now) s =
    let unit : DmaUnit = next_unit s.io proc in
    let refusal = unit_refusal proc now unit (map_of proc s) in
    let m : MapState = map_after_unit refusal proc now unit (map_of proc s) in
    subst (CardPasses s.file (card_of s) (unit_words proc (Some now) s)) (sym (by_leaves rank proc now refusal (with_map proc s m)))
    (unit_passes s.file refusal proc now unit (map_of proc s))

-- ---- the display's

shown_leaves : (shown : display.Shown) (now : Tick) (u : IoState) → (shown_to_others shown now u).card ≡ u.card
shown_leaves shown now u = by_kind shown.vblank shown.hblank where
  by_kind : (vblank hblank : Bool)
      → (let told = both_raised u shown.raised in
      if vblank then channels_triggered VBlank now told else (if hblank then channels_triggered HBlank now told else told)).card ≡ u.card
  by_kind true hblank = refl
  by_kind false true = refl
  by_kind false false = refl

video_leaves : (palette oam : List ℕ) (u : IoState) → (video_done palette oam u).card ≡ u.card
video_leaves palette oam u = by_stop (video_stop oam u.video) where
  by_stop : (stop : Option Stop)
      → (let shown = record u { video = video_after_event u.vram palette oam u.video } in
      unless_stop stop (shown_to_others (video_shown u.video) (scan_due_tick u.video.scan) shown) u).card ≡ u.card
  by_stop None = shown_leaves (video_shown u.video) (scan_due_tick u.video.scan) (record u { video = video_after_event u.vram palette oam u.video })
  by_stop (Some stop) = refl

swapped_leaves : (whole : Bool) (now : Tick) (u : IoState) → (swapped_if whole now u).card ≡ u.card
swapped_leaves true now u = refl
swapped_leaves false now u = refl

display_leaves : (rank : ℕ) (answer : Result display.Shown Stop) (s : MachineState) → card_of (left_by (video_step rank answer s)) ≡ card_of s
display_leaves rank (Ok shown) s =
    swapped_leaves (starts_vblank s.io.video.scan) (scan_due_tick s.io.video.scan) (video_done s.palette s.oam s.io)
    ∙ video_leaves s.palette s.oam s.io
display_leaves rank (Err stop) s = refl

-- ---- the card's own, and the key script's

told_leaves : (starter : Option Proc) (card : CardState) (now : Tick) (u : IoState) → (starter_told starter card now u).card ≡ u.card
told_leaves None card now u = refl
told_leaves (Some Nine) card now u = refl
told_leaves (Some Seven) card now u = refl

card_comes : (file : List ℕ) (u : IoState) (due : Option Tick) → card_due u.card ≡ due → CardPasses file u.card [] (card_done_at due file u).card
card_comes file u None e = passed_none u.card
card_comes file u (Some now) e =
    let next : CardState = card_after_event file u.card in
    subst (CardPasses file u.card []) (sym (told_leaves (card_starter u.card) u.card now (record u { card = next })))
    (passes_one file u.card next None (came (subst (λ (d : Option Tick). IsSome d) (sym e) refl)))

line_leaves : (lines : List KeyLine) (s : MachineState) → card_of (after_line lines s) ≡ card_of s
line_leaves [] s = refl
line_leaves (line ∷ lines) s = refl

-- ---- each actor's

-- who leaves the card passes nothing
leaves : (a : actor.Actor) (rank : ℕ) (s : MachineState) → card_of (left_by (step_by rank a s)) ≡ card_of s
    → CardPasses s.file (card_of s) [] (card_of (left_by (step_by rank a s)))
leaves a rank s e = subst (CardPasses s.file (card_of s) []) (sym e) (passed_none (card_of s))

actor_passes : (a : actor.Actor) (rank : ℕ) (s : MachineState) → CardPasses s.file (card_of s) (words_by a s) (card_of (left_by (step_by rank a s)))
actor_passes KeyScript rank s = leaves KeyScript rank s (line_leaves s.keys s)
actor_passes Video rank s = leaves Video rank s (display_leaves rank (video_answer s.oam s.io.video) s)
actor_passes (Timer Nine number) rank s = passed_none (card_of s)
actor_passes (Timer Seven number) rank s = passed_none (card_of s)
actor_passes Card rank s = card_comes s.file s.io (card_due s.io.card) refl
actor_passes (Dma proc channel) rank s = channel_passes rank proc (io_due (Dma proc channel) s.io) s
actor_passes (Processor proc) rank s =
    let o = outcome_of proc (tick_of (processor_of s proc)) s in
    subst (CardPasses s.file (card_of s) (words_by (Processor proc) s)) (sym (concluded_leaves rank proc o.machine o.stepped))
    (processor_steps proc s)
actor_passes _ rank s = passed_none (card_of s)

pub steps_pass_card : StepsPassCard
steps_pass_card rank s =
    let a = actor_of rank in
    subst (CardPasses s.file (card_of s) (words_by a s)) (sym (awake_leaves (due_by a s) (step_by rank a s))) (actor_passes a rank s)

-- ---- steps one after another

all_pass_card : (s last : MachineState) (words : List ℕ) → TakesCardSteps s words last → CardPasses s.file (card_of s) words (card_of last)
all_pass_card s last words (no_card_steps start) = passed_none (card_of start)
all_pass_card s last words (more_card_steps rank start next end outs others makes on) =
    let is : Step → Type 0 = λ step. CardPasses start.file (card_of start) (words_by (actor_of rank) start) (card_of (left_by step)) in
    let kept : next.file ≡ start.file = ap (λ (step : Step). (left_by step).file) (sym makes) ∙ steps_keep_file rank start in
    joins start.file (card_of start) (card_of next) (card_of last) (words_by (actor_of rank) start) others
    (subst is makes (steps_pass_card rank start))
    (subst (λ (file : List ℕ). CardPasses file (card_of next) others (card_of last)) kept (all_pass_card next last others on))

pub machine_takes_in_order : MachineTakesInOrder
machine_takes_in_order s last words proc now is begun steps =
    begins s.file (card_of s) (card_of last) words proc now is begun (all_pass_card s last words steps)

-- ---- a run is steps one after another

abbrev EndTakes : MachineState → Ending MachineState LeftOut → Type 0
EndTakes s (At end) = (words : List ℕ) × TakesCardSteps s words end
EndTakes s (runs.Stopped stop) = Unit {0}

run_takes : (limit : ℕ) (end : Ending MachineState LeftOut) (s : MachineState) (all : List Shown) → Runs reference limit end s all → EndTakes s end
run_takes limit end s all (over start none) = ([], no_card_steps start)
run_takes limit end s all (stops start after tick rank stop least below halts) = tt
run_takes limit end s all (more ending start next tick rank outs rest least below goes run) =
    further ending (run_takes limit ending next rest run) where
      further : (ending : Ending MachineState LeftOut) → EndTakes next ending → EndTakes start ending
      further (At last) k = (words_by (actor_of rank) start ++ k.0, more_card_steps rank start next last outs k.0 goes k.1)
      further (runs.Stopped stop) k = tt

pub runs_take_card_steps : RunsTakeCardSteps
runs_take_card_steps limit start end outs run = run_takes limit (At end) start outs run
