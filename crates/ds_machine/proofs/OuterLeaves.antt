use Rattle.ds_machine.proofs.Words.{Card, Cost, Dma, Fences, Geometry, Halted, IoState, IrqState, IsTold, KeyScript, Left, LeftOut, List}
use Rattle.ds_machine.proofs.Words.{MachineState, MachineStep, Makes, Nine, None, Option, Proc, Processor, ProcessorIoState, Seven, Shown, Some, Tick}
use Rattle.ds_machine.proofs.Words.{Timer, Video, [], after_event, ap, card_due, card_due_for, card_starter, channel_step, gone_by, io_of, left_by}
use Rattle.ds_machine.proofs.Words.{machine_graft, next_unit, nine_own_of, other_proc, refl, same_makes, step_by, step_with, subst, sym, unchanged_by}
use Rattle.ds_machine.proofs.Words.{unchanged_same, with_seven_part, ℕ, ◌∙◌, ◌≡◌, ◌≢◌}
use Rattle.arm_core.specs.declared.outcomes.Stepped as arm
use Rattle.ds_card.proofs.Schedules.{event_leaves_other}
use Rattle.ds_runs.specs.declared.actors.Actor as actor
use Rattle.ds_machine.proofs.Apart.{leave_seven, none_of_seven}
use Rattle.ds_machine.proofs.ChannelEvents.{channel_made, machine_after_unit, unit_card, unit_gx, unit_released, unit_video}
use Rattle.ds_machine.proofs.MachineSchedule.{Steps, channel_timers, operation}
use Rattle.ds_machine.proofs.OwnShares.{given, given_to, own_stays}
use Rattle.ds_machine.proofs.ProcessorSteps.{came_by, concludes, costs_some, goes, reached_by, reaches, step_is}
use Rattle.ds_machine.proofs.Touched.{each_touches}
use Rattle.ds_machine.proofs.Told.{IsOnlyTold, channel_tells, step_tells}

-- What a step leaves of a processor that is taken by an actor which is neither that processor nor in its fence.

-- two machines have the same own part of a processor: ARM9's by the present map
abbrev pub HasPartOf : Proc → MachineState → MachineState → Type 0
HasPartOf Nine s t = nine_own_of s ≡ nine_own_of t
HasPartOf Seven s t = s.seven ≡ t.seven

-- its own part; what it has behind the ports, but that it is told of IPC interrupts; and when each actor in its fence is due
pub record LeavesApart (proc : Proc) (s made : MachineState) : Type 0 where
  pub own : HasPartOf proc made s
  pub told : IsOnlyTold (io_of s.io proc) (io_of made.io proc)
  pub keys : made.keys ≡ s.keys
  pub scan : made.io.video.scan ≡ s.io.video.scan
  pub geometry : proc ≡ Nine → (made.io.gx ≡ s.io.gx) × (made.io.released ≡ s.io.released)
  pub card : card_due_for proc made.io.card ≡ card_due_for proc s.io.card

-- ---- the own part

own_left : (proc : Proc) (a : actor.Actor) (rank : ℕ) (s made : MachineState) (outs : List Shown) → a ≢ Processor proc → (Fences a proc s → ⊥) → step_by rank a s ≡ Makes made outs
    → HasPartOf proc made s
own_left Nine a rank s made outs other apart h = own_stays rank a s made outs (other, apart) h
own_left Seven a rank s made outs other apart h =
    let put = with_seven_part s.seven in
    let both : (let step : MachineStep MachineState Shown LeftOut = Makes made outs in step) ≡ Makes (put made) outs =
    sym h ∙ leave_seven rank a s s.seven (none_of_seven a s other apart) ∙ ap (step_with put) h in
    ap (λ (m : MachineState). m.seven) (same_makes made (put made) outs outs both).0

-- ---- what stands behind the ports

irq_same : (irq : IrqState) → IsTold irq irq
irq_same irq = record { ime = refl; ie = refl; if_ = refl }

not_told : (o : ProcessorIoState) → IsOnlyTold o o
not_told o = record { own = unchanged_same o; told = irq_same o.irq }

nine_is_not_seven : Seven ≢ Nine
nine_is_not_seven e = (let P : Proc → Type 0 = λ p. (let t : Type 0 = by p in t) in subst P e tt) where
  by : Proc → Type 0
  by Nine = ⊥
  by Seven = Unit {0}

-- so much of it is said of a machine whose units are others
pub record LeavesIo (proc : Proc) (old new : IoState) : Type 0 where
  pub told : IsOnlyTold (io_of old proc) (io_of new proc)
  pub scan : new.video.scan ≡ old.video.scan
  pub geometry : proc ≡ Nine → (new.gx ≡ old.gx) × (new.released ≡ old.released)
  pub card : card_due_for proc new.card ≡ card_due_for proc old.card

-- the other processor's step
gone_leaves : (proc : Proc) (came : arm.Stepped) (m : MachineState) → ((gone_by proc came m).keys ≡ m.keys) × ((gone_by proc came m).io.video ≡ m.io.video)
    × ((gone_by proc came m).io.gx ≡ m.io.gx) × ((gone_by proc came m).io.released ≡ m.io.released) × ((gone_by proc came m).io.card ≡ m.io.card)
gone_leaves Nine (Cost clocks) m = (refl, refl, refl, refl, refl)
gone_leaves Seven (Cost clocks) m = (refl, refl, refl, refl, refl)
gone_leaves Nine (Halted clocks) m = (refl, refl, refl, refl, refl)
gone_leaves Seven (Halted clocks) m = (refl, refl, refl, refl, refl)
gone_leaves proc (Left stop) m = (refl, refl, refl, refl, refl)

-- ---- each actor

pub record LeavesRest (proc : Proc) (s made : MachineState) : Type 0 where
  pub keys : made.keys ≡ s.keys
  pub io : LeavesIo proc s.io made.io

-- another unit's event, by the table
unit_rest : (proc : Proc) (a : actor.Actor) (rank : ℕ) (s made : MachineState) (outs : List Shown) → step_by rank a s ≡ Makes made outs
    → LeavesRest proc s (machine_graft (unchanged_by a s) s (left_by (step_by rank a s))) → LeavesRest proc s made
unit_rest proc a rank s made outs h rest =
    subst (LeavesRest proc s) ((each_touches rank a s).leaves ∙ ap (λ (x : MachineStep MachineState Shown LeftOut). left_by x) h) rest

processor_rest : (proc : Proc) (rank : ℕ) (tick : Tick) (s made : MachineState) (outs : List Shown) → Steps (Processor (other_proc proc)) rank tick s
    → step_by rank (Processor (other_proc proc)) s ≡ Makes made outs → (other_proc (other_proc proc) ≡ proc) → (proc ≡ Nine → other_proc proc ≡ Seven) → LeavesRest proc s made
processor_rest proc rank tick s made outs st h twice seven =
    let of = other_proc proc in
    let came = came_by of s in
    let m = reached_by of s in
    let g = goes of tick s (operation of rank tick s st) in
    let k = concludes rank of m made outs came (costs_some of s) (sym (step_is rank of s) ∙ h) in
    let l = gone_leaves of came m in
    let t : IsOnlyTold (io_of s.io proc) (io_of made.io proc) =
    subst (λ (p : Proc). IsOnlyTold (io_of s.io p) (io_of made.io p)) twice
    (subst (λ (came : MachineStep MachineState Shown LeftOut). IsOnlyTold (io_of s.io (other_proc of)) (io_of (left_by came).io (other_proc of))) h (step_tells rank of tick s st)) in
    record {
      keys = ap (λ (x : MachineState). x.keys) (sym k.1) ∙ l.0 ∙ (reaches of s).keys;
      io = record {
        told = t;
        scan = ap (λ (x : MachineState). x.io.video.scan) (sym k.1) ∙ ap (λ v. v.scan) l.1 ∙ g.scan;
        geometry = λ e. (
          ap (λ (x : MachineState). x.io.gx) (sym k.1) ∙ l.2 ∙ g.geometry.of_seven (seven e),
          ap (λ (x : MachineState). x.io.released) (sym k.1) ∙ l.3 ∙ g.geometry.released,
        );
        card = ap (λ (x : MachineState). card_due_for proc x.io.card) (sym k.1) ∙ ap (card_due_for proc) l.4
            ∙ subst (λ (p : Proc). card_due_for p m.io.card ≡ card_due_for p s.io.card) twice g.card;
      };
    }

channel_rest : (proc : Proc) (channel rank : ℕ) (tick : Tick) (s made : MachineState) (outs : List Shown) → Steps (Dma (other_proc proc) channel) rank tick s
    → step_by rank (Dma (other_proc proc) channel) s ≡ Makes made outs → (other_proc (other_proc proc) ≡ proc) → (proc ≡ Nine → other_proc proc ≡ Seven) → LeavesRest proc s made
channel_rest proc channel rank tick s made outs st h twice seven =
    let of = other_proc proc in
    let P : Option Tick → Type 0 = λ o. channel_step rank of o s ≡ Makes made outs in
    let e = channel_made rank of tick s made outs (subst P st.due h) in
    let unit = next_unit s.io of in
    let timers = channel_timers of channel rank tick s st in
    let t : IsOnlyTold (io_of s.io proc) (io_of made.io proc) =
    subst (λ (p : Proc). IsOnlyTold (io_of s.io p) (io_of made.io p)) twice
    (subst (λ (came : MachineStep MachineState Shown LeftOut). IsOnlyTold (io_of s.io (other_proc of)) (io_of (left_by came).io (other_proc of))) h (channel_tells rank of channel tick s st)) in
    record {
      keys = ap (λ (x : MachineState). x.keys) e ∙ unit_keys of;
      io = record {
        told = t;
        scan = ap (λ (x : MachineState). x.io.video.scan) e ∙ unit_video of channel tick unit s st.sound st.numbered st.due timers;
        geometry = λ nine. (
          ap (λ (x : MachineState). x.io.gx) e ∙ unit_gx of channel tick unit s st.sound st.numbered st.due timers (seven nine),
          ap (λ (x : MachineState). x.io.released) e ∙ unit_released of channel tick unit s st.sound st.numbered st.due timers,
        );
        card = ap (λ (x : MachineState). card_due_for proc x.io.card) e
            ∙ subst (λ (p : Proc). card_due_for p (machine_after_unit of tick unit s).io.card ≡ card_due_for p s.io.card) twice
            (unit_card of channel tick unit s st.sound st.numbered st.due timers);
      };
    } where
      unit_keys : (of : Proc) → (machine_after_unit of tick (next_unit s.io of) s).keys ≡ s.keys
      unit_keys Nine = refl
      unit_keys Seven = refl

-- the card's event, where the other processor started its transfer
given_rest : (proc : Proc) (s : MachineState) (now : Tick) (starter : Option Proc) → card_starter s.io.card ≡ starter → (card_starter s.io.card ≡ Some proc → ⊥)
    → LeavesRest proc s (given_to starter now s)
given_rest Nine s now None e apart = record {
  keys = refl;
  io = record { told = not_told s.io.nine; scan = refl; geometry = λ e. (refl, refl); card = event_leaves_other s.file s.io.card Nine apart };
}
given_rest Seven s now None e apart = record {
  keys = refl;
  io = record { told = not_told s.io.seven; scan = refl; geometry = λ e. (refl, refl); card = event_leaves_other s.file s.io.card Seven apart };
}
given_rest Nine s now (Some Nine) e apart = absurd (apart e)
given_rest Nine s now (Some Seven) e apart = record {
  keys = refl;
  io = record { told = not_told s.io.nine; scan = refl; geometry = λ e. (refl, refl); card = event_leaves_other s.file s.io.card Nine apart };
}
given_rest Seven s now (Some Nine) e apart = record {
  keys = refl;
  io = record { told = not_told s.io.seven; scan = refl; geometry = λ e. (refl, refl); card = event_leaves_other s.file s.io.card Seven apart };
}
given_rest Seven s now (Some Seven) e apart = absurd (apart e)

card_rest : (proc : Proc) (s : MachineState) (due : Option Tick) → (card_starter s.io.card ≡ Some proc → ⊥) → LeavesRest proc s (given due s)
card_rest Nine s None apart = record { keys = refl; io = record { told = not_told s.io.nine; scan = refl; geometry = λ e. (refl, refl); card = refl } }
card_rest Seven s None apart = record { keys = refl; io = record { told = not_told s.io.seven; scan = refl; geometry = λ e. (refl, refl); card = refl } }
card_rest proc s (Some now) apart = given_rest proc s now (card_starter s.io.card) refl apart

seven_nine : Seven ≡ Nine → Nine ≡ Seven
seven_nine e = sym e

pub rest_left : (proc : Proc) (a : actor.Actor) (rank : ℕ) (tick : Tick) (s made : MachineState) (outs : List Shown) → Steps a rank tick s → a ≢ Processor proc → (Fences a proc s → ⊥)
    → step_by rank a s ≡ Makes made outs → LeavesRest proc s made
rest_left proc KeyScript rank tick s made outs st other apart h = absurd (apart tt)
rest_left proc Video rank tick s made outs st other apart h = absurd (apart tt)
rest_left Nine Geometry rank tick s made outs st other apart h = absurd (apart refl)
rest_left Seven Geometry rank tick s made outs st other apart h =
    unit_rest Seven Geometry rank s made outs h (record { keys = refl; io = record { told = not_told s.io.seven; scan = refl; geometry = λ e. absurd (nine_is_not_seven e); card = refl } })
rest_left proc Card rank tick s made outs st other apart h =
    subst (LeavesRest proc s) (same_makes (after_event Card s) made [] outs h).0 (card_rest proc s (card_due s.io.card) apart)
rest_left Nine (Timer Nine number) rank tick s made outs st other apart h = absurd (apart refl)
rest_left Nine (Timer Seven number) rank tick s made outs st other apart h = unit_rest Nine (Timer Seven number) rank s made outs h (record { keys = refl; io = record { told = not_told s.io.nine; scan = refl; geometry = λ e. (refl, refl); card = refl } })
rest_left Seven (Timer Nine number) rank tick s made outs st other apart h = unit_rest Seven (Timer Nine number) rank s made outs h (record { keys = refl; io = record { told = not_told s.io.seven; scan = refl; geometry = λ e. (refl, refl); card = refl } })
rest_left Seven (Timer Seven number) rank tick s made outs st other apart h = absurd (apart refl)
rest_left Nine (Dma Nine channel) rank tick s made outs st other apart h = absurd (apart refl)
rest_left Nine (Dma Seven channel) rank tick s made outs st other apart h = channel_rest Nine channel rank tick s made outs st h refl (λ e. refl)
rest_left Seven (Dma Nine channel) rank tick s made outs st other apart h = channel_rest Seven channel rank tick s made outs st h refl seven_nine
rest_left Seven (Dma Seven channel) rank tick s made outs st other apart h = absurd (apart refl)
rest_left Nine (Processor Nine) rank tick s made outs st other apart h = absurd (other refl)
rest_left Nine (Processor Seven) rank tick s made outs st other apart h = processor_rest Nine rank tick s made outs st h refl (λ e. refl)
rest_left Seven (Processor Nine) rank tick s made outs st other apart h = processor_rest Seven rank tick s made outs st h refl seven_nine
rest_left Seven (Processor Seven) rank tick s made outs st other apart h = absurd (other refl)
rest_left Nine a rank tick s made outs st other apart h = unit_rest Nine a rank s made outs h (record { keys = refl; io = record { told = not_told s.io.nine; scan = refl; geometry = λ e. (refl, refl); card = refl } })
rest_left Seven a rank tick s made outs st other apart h = unit_rest Seven a rank s made outs h (record { keys = refl; io = record { told = not_told s.io.seven; scan = refl; geometry = λ e. (refl, refl); card = refl } })

pub leaves_apart : (proc : Proc) (a : actor.Actor) (rank : ℕ) (tick : Tick) (s made : MachineState) (outs : List Shown) → Steps a rank tick s → a ≢ Processor proc → (Fences a proc s → ⊥)
    → step_by rank a s ≡ Makes made outs → LeavesApart proc s made
leaves_apart proc a rank tick s made outs st other apart h =
    let rest = rest_left proc a rank tick s made outs st other apart h in
    record {
      own = own_left proc a rank s made outs other apart h;
      told = rest.io.told;
      keys = rest.keys;
      scan = rest.io.scan;
      geometry = rest.io.geometry;
      card = rest.io.card;
    }
