use Rattle.ds_machine.proofs.Words.{AreAsleep, Bool, Cost, Halted, IoState, IsHarmless, IsIo, IsLater, IsPrivate, IsSharedSo, IsSound, Left, LeftOut}
use Rattle.ds_machine.proofs.Words.{List, MachineState, MachineStep, Makes, Nine, NineOwn, NineReach, Outcome, Proc, Processor, ProcessorIoState}
use Rattle.ds_machine.proofs.Words.{ProcessorState, ProcessorStaysPrivate, RegisterState, Seven, SevenReach, SevenState, Shown, Some, StaysPrivate}
use Rattle.ds_machine.proofs.Words.{Tick, [], ap, arith, awake, due_by, due_unless, enters, false, is_beyond_seven, is_blocked, is_deaf, is_settled}
use Rattle.ds_machine.proofs.Words.{is_shown_to_nine, line_of, machine_concluded, mixed, mixed_length, mixed_same, mixed_twice, nine_memory}
use Rattle.ds_machine.proofs.Words.{nine_own_of, nine_reach, nine_side, processor_due, processor_of, rank_of, reference_step, refl, seven_memory}
use Rattle.ds_machine.proofs.Words.{seven_reach, seven_side, shared_put, shares_bit, side_taken, side_waits, steps_as, subst, sym, tick_of, true}
use Rattle.ds_machine.proofs.Words.{went_on, with_nine, with_nine_own, with_processor, with_seven, with_seven_part, ℕ, ◌&&◌, ◌+◌, ◌<◌, ◌∙◌, ◌≡◌, ◌≢◌}
use Rattle.arm_core.specs.declared.outcomes.Stepped as arm
use Rattle.ds_ports.specs.Io.{with_shares}
use Rattle.ds_runs.specs.declared.actors.Actor as actor
use Rattle.vram_banks.specs.Cells as cells
use Rattle.ds_machine.specs.Apart.{with_nine_part}
use Rattle.ds_machine.proofs.FastSteps.{cost_ends}
use Rattle.ds_machine.proofs.Moves.{later_unless}
use Rattle.ds_machine.proofs.OwnShares.{is_shared_so}
use Rattle.ds_machine.proofs.PrivateAccesses.{StepsAlike, costing, ticked_alike}
use Rattle.ds_machine.proofs.PrivateSides.{NineReachOwn, NineShared, nine_apart, nine_executes, put_nine, put_shared, shared_wrote, put_seven, seven_apart, seven_executes, seven_wrote}
use Rattle.ds_machine.proofs.PrivateSteps.{private_alike, step_waits_alike, taken_alike}
use Rattle.ds_machine.proofs.Ticks.{ticked}

-- A harmless step changes the processor's own part alone, depends on it alone, and never stops.

-- ---- what it makes of the own part: what it would make of it beside any rest, where the line is down

abbrev pub ticks_in : arm.Stepped → ℕ
ticks_in (Cost ticks) = ticks
ticks_in (Halted ticks) = ticks
ticks_in (Left stop) = 0

abbrev pub went_by : ProcessorState → RegisterState → arm.Stepped → ProcessorState
went_by p registers stepped = went_on (ticks_in stepped) false (record p { registers = registers })

-- ARM9's
abbrev pub nine_reached : NineOwn → NineReachOwn
nine_reached own = record {
  cp15 = own.part.nine.cp15;
  itcm = own.part.nine.itcm;
  dtcm = own.part.nine.dtcm;
  bytes = record { palette = own.part.palette; oam = own.part.oam; share = own.share };
}

-- of shared work RAM and of video memory those bytes count that it alone reaches
abbrev pub nine_by : NineOwn → Outcome NineReach → NineOwn
nine_by own o = record {
  part = record {
    nine = record { processor = went_by own.part.nine.processor o.registers o.stepped; cp15 = o.state.cp15; itcm = o.state.itcm; dtcm = o.state.dtcm };
    palette = o.state.map.memories.palette;
    oam = o.state.map.memories.oam;
  };
  share = record { shared = o.state.map.memories.shared; vram = o.state.map.io.vram; wramcnt = o.state.map.io.wramcnt };
}

abbrev pub after_nine : NineReach → NineOwn → NineOwn
after_nine rest own =
    let old = own.part.nine.processor.registers in
    let r = put_nine (nine_reached own) rest in
    nine_by own (ticked Nine (side_waits nine_memory nine_side false old r) (side_taken nine_memory nine_side false old r))

-- ARM7's
abbrev pub seven_by : SevenState → Outcome SevenReach → SevenState
seven_by part o = record { processor = went_by part.processor o.registers o.stepped; wram = o.state.map.memories.wram }

abbrev pub after_seven : SevenReach → SevenState → SevenState
after_seven rest part =
    let old = part.processor.registers in
    let r = put_seven part.wram rest in
    seven_by part (ticked Seven (side_waits seven_memory seven_side false old r) (side_taken seven_memory seven_side false old r))

-- ---- the law

-- where nothing is to be settled, and nobody to be woken
pub record IsCalm (s : MachineState) : Type 0 where
  pub io : IsIo s.io
  pub settled : is_settled s.io ≡ true
  pub asleep : AreAsleep s

pub calm : (s : MachineState) → IsSound s → IsCalm s
calm s sound = record { io = sound.parts.io; settled = sound.settled; asleep = sound.asleep }

due_there : (s : MachineState) (proc : Proc) → is_blocked s proc ≡ false → processor_due s proc ≡ Some (tick_of (processor_of s proc))
due_there s proc free = ap (λ (blocked : Bool). due_unless blocked (processor_of s proc)) free

line_down : (s : RegisterState) → enters false s ≡ false
line_down s = refl

own_again : (own : ℕ → Bool) (xs ys : List ℕ) → mixed own (mixed own xs ys) xs ≡ xs
own_again own xs ys = mixed_twice own xs ys xs ∙ mixed_same own xs

put_again : (tick : Tick) (s : MachineState) → put_nine (nine_reached (nine_own_of s)) (nine_reach tick s) ≡ nine_reach tick s
put_again tick s =
    let there = nine_reach tick s in
    let with_bytes : List ℕ → List ℕ → NineReach = λ shared bytes. record there {
      map = record {
        memories = record there.map.memories { shared = shared };
        io = record s.io { vram = record s.io.vram { bytes = bytes } };
      };
    } in
    let bytes = s.io.vram.bytes in
    let apart = is_beyond_seven s.io.vram.controls in
    ap (λ (xs : List ℕ). with_bytes xs (mixed apart (mixed apart bytes []) bytes)) (own_again (is_shown_to_nine s.io.wramcnt) s.shared [])
    ∙ ap (with_bytes s.shared) (own_again apart bytes [])

-- a step by ticks
abbrev nine_ticked : Bool → RegisterState → NineReach → Outcome NineReach
nine_ticked line old r = ticked Nine (side_waits nine_memory nine_side line old r) (side_taken nine_memory nine_side line old r)

abbrev seven_ticked : Bool → RegisterState → SevenReach → Outcome SevenReach
seven_ticked line old r = ticked Seven (side_waits seven_memory seven_side line old r) (side_taken seven_memory seven_side line old r)

nine_taken : (rest : NineReach) (s : MachineState) → IsHarmless s Nine
    → StepsAlike (put_shared s.shared s.io) (nine_reach (tick_of s.nine.processor) s) rest
    (nine_ticked (line_of s Nine) s.nine.processor.registers (nine_reach (tick_of s.nine.processor) s))
    (nine_ticked false s.nine.processor.registers (put_nine (nine_reached (nine_own_of s)) rest))
nine_taken rest s h =
    let registers = s.nine.processor.registers in
    let there = nine_reach (tick_of s.nine.processor) s in
    let k : NineShared s.shared s.io = record { own = nine_reached (nine_own_of s); so = is_shared_so s } in
    let again = put_again (tick_of s.nine.processor) s in
    let stays = subst (StaysPrivate nine_memory nine_side registers) (sym again) h.own in
    let line = line_of s Nine in
    let here = put_nine k.own there in
    let beside = put_nine k.own rest in
    subst (λ (r : NineReach). StepsAlike (put_shared s.shared s.io) there rest (nine_ticked line registers r) (nine_ticked false registers beside)) again
    (ticked_alike (put_shared s.shared s.io) there rest (side_taken nine_memory nine_side line registers here) (side_taken nine_memory nine_side false registers beside) Nine
    (side_waits nine_memory nine_side line registers here) (side_waits nine_memory nine_side false registers beside)
    (step_waits_alike nine_memory nine_side (put_shared s.shared s.io) (shared_wrote s.shared s.io) (nine_apart s.shared s.io) registers k there rest
    line false h.quiet (line_down registers) stays)
    (taken_alike nine_memory nine_side (put_shared s.shared s.io) (shared_wrote s.shared s.io) (nine_apart s.shared s.io) (nine_executes s.shared s.io) registers k there rest
    line false h.quiet (line_down registers) stays))

seven_taken : (rest : SevenReach) (s : MachineState) → IsHarmless s Seven
    → StepsAlike put_seven (seven_reach (tick_of s.seven.processor) s) rest
    (seven_ticked (line_of s Seven) s.seven.processor.registers (seven_reach (tick_of s.seven.processor) s))
    (seven_ticked false s.seven.processor.registers (put_seven s.seven.wram rest))
seven_taken rest s h =
    let registers = s.seven.processor.registers in
    let there = seven_reach (tick_of s.seven.processor) s in
    let line = line_of s Seven in
    let beside = put_seven s.seven.wram rest in
    ticked_alike put_seven there rest (side_taken seven_memory seven_side line registers there) (side_taken seven_memory seven_side false registers beside) Seven
    (side_waits seven_memory seven_side line registers there) (side_waits seven_memory seven_side false registers beside)
    (step_waits_alike seven_memory seven_side put_seven seven_wrote seven_apart registers s.seven.wram there rest line false h.quiet (line_down registers) h.own)
    (taken_alike seven_memory seven_side put_seven seven_wrote seven_apart seven_executes registers s.seven.wram there rest line false h.quiet (line_down registers) h.own)

-- of the units behind the ports video memory's bytes alone change
io_stays : (v : cells.Banks) (wramcnt : ℕ) (u : IoState) → IsIo u → IsIo (with_shares v wramcnt u)
io_stays v wramcnt u is = record { nine = is.nine; seven = is.seven; gx = is.gx }

asleep_by : (s m : MachineState) → m.io.nine ≡ s.io.nine → m.io.seven ≡ s.io.seven → AreAsleep s → AreAsleep m
asleep_by s m nine seven asleep Nine = ap (λ (each : ProcessorIoState). each.halted && shares_bit each.irq) nine ∙ asleep Nine
asleep_by s m nine seven asleep Seven = ap (λ (each : ProcessorIoState). each.halted && shares_bit each.irq) seven ∙ asleep Seven

-- what a step left beside a machine's rest, and beside another, is the same once it is put into the machine
put_after : (s : MachineState) (rest : NineReach) (own : NineReachOwn) (registers : RegisterState) (clocks : ℕ)
    → (let m = with_nine s (costing registers (put_nine own (nine_reach (tick_of s.nine.processor) s)) clocks) in with_processor Nine m (went_on clocks false (processor_of m Nine)))
    ≡ with_nine_own (nine_by (nine_own_of s) (costing registers (put_nine own rest) clocks)) s
put_after s rest own registers clocks =
    let share = own.bytes.share in
    let apart = is_beyond_seven share.vram.controls in
    let shown = is_shown_to_nine share.wramcnt in
    let after = nine_by (nine_own_of s) (costing registers (put_nine own rest) clocks) in
    let with_bytes : List ℕ → List ℕ → MachineState = λ shared bytes. with_nine_part after.part (record s {
      shared = shared;
      io = with_shares (record share.vram { bytes = bytes }) share.wramcnt s.io;
    }) in
    ap (λ (xs : List ℕ). with_bytes xs (mixed apart share.vram.bytes s.io.vram.bytes)) (sym (mixed_twice shown share.shared rest.map.memories.shared s.shared))
    ∙ ap (with_bytes (shared_put after.share s.shared)) (sym (mixed_twice apart share.vram.bytes rest.map.io.vram.bytes s.io.vram.bytes))

pub inner_nine : (rest : NineReach) (s : MachineState) → IsCalm s → IsHarmless s Nine → reference_step (rank_of Nine) s ≡ Makes (with_nine_own (after_nine rest (nine_own_of s)) s) []
inner_nine rest s calm h =
    let tick = tick_of s.nine.processor in
    let a = nine_taken rest s h in
    let own = a.own.own in
    let m = with_nine s (costing a.registers (put_nine own (nine_reach tick s)) a.clocks) in
    let came : MachineStep MachineState Shown LeftOut = Makes (with_nine_own (after_nine rest (nine_own_of s)) s) [] in
    let made : MachineState → MachineStep MachineState Shown LeftOut = λ next. Makes next [] in
    steps_as s (rank_of Nine) (Processor Nine) (Some tick) came refl (due_there s Nine h.free)
    (ap (λ (o : Outcome NineReach). awake (Some tick) (machine_concluded (rank_of Nine) Nine (with_nine s o) o.stepped)) a.here
    ∙ cost_ends m (rank_of Nine) Nine tick a.clocks (io_stays m.io.vram m.io.wramcnt s.io calm.io) calm.settled (asleep_by s m refl refl calm.asleep) h.free
    ∙ ap made (put_after s rest own a.registers a.clocks)
    ∙ ap (λ (o : Outcome NineReach). made (with_nine_own (nine_by (nine_own_of s) o) s)) (sym a.there))

pub inner_seven : (rest : SevenReach) (s : MachineState) → IsCalm s → IsHarmless s Seven → reference_step (rank_of Seven) s ≡ Makes (with_seven_part (after_seven rest s.seven) s) []
inner_seven rest s calm h =
    let tick = tick_of s.seven.processor in
    let a = seven_taken rest s h in
    let m = with_seven s (costing a.registers (put_seven a.own (seven_reach tick s)) a.clocks) in
    let came : MachineStep MachineState Shown LeftOut = Makes (with_seven_part (after_seven rest s.seven) s) [] in
    steps_as s (rank_of Seven) (Processor Seven) (Some tick) came refl (due_there s Seven h.free)
    (ap (λ (o : Outcome SevenReach). awake (Some tick) (machine_concluded (rank_of Seven) Seven (with_seven s o) o.stepped)) a.here
    ∙ cost_ends m (rank_of Seven) Seven tick a.clocks calm.io calm.settled calm.asleep h.free
    ∙ ap (λ (o : Outcome SevenReach). (let step : MachineStep MachineState Shown LeftOut = Makes (with_seven_part (seven_by s.seven o) s) [] in step)) (sym a.there))

-- after it the processor is due later
due_later : (due ticks : ℕ) → 0 < ticks → due < due + ticks
due_later due ticks some = omega (arith, some)

pub nine_later : (rest : NineReach) (s : MachineState) → IsHarmless s Nine → s.nine.processor.due < (after_nine rest (nine_own_of s)).part.nine.processor.due
nine_later rest s h =
    let a = nine_taken rest s h in
    subst (λ (o : Outcome NineReach). s.nine.processor.due < (nine_by (nine_own_of s) o).part.nine.processor.due) (sym a.there) (due_later s.nine.processor.due a.clocks a.some)

pub seven_later : (rest : SevenReach) (s : MachineState) → IsHarmless s Seven → s.seven.processor.due < (after_seven rest s.seven).processor.due
seven_later rest s h =
    let a = seven_taken rest s h in
    subst (λ (o : Outcome SevenReach). s.seven.processor.due < (seven_by s.seven o).processor.due) (sym a.there) (due_later s.seven.processor.due a.clocks a.some)

-- the memories are shared out as before
pub nine_fits : (rest : NineReach) (s : MachineState) → IsHarmless s Nine → IsSharedSo (after_nine rest (nine_own_of s)).share s.shared s.io
nine_fits rest s h =
    let a = nine_taken rest s h in
    let share = a.own.own.bytes.share in
    let so = a.own.so in
    subst (λ (o : Outcome NineReach). IsSharedSo (nine_by (nine_own_of s) o).share s.shared s.io) (sym a.there) (record {
      wramcnt = so.wramcnt;
      controls = so.controls;
      shared = mixed_length (is_shown_to_nine share.wramcnt) share.shared rest.map.memories.shared ∙ so.shared;
      bytes = mixed_length (is_beyond_seven share.vram.controls) share.vram.bytes rest.map.io.vram.bytes ∙ so.bytes;
    })

-- ---- when actors are due after it: no other's due tick moves, and the processor's becomes later

pub record MovesAlone (proc : Proc) (s next : MachineState) : Type 0 where
  pub there : due_by (Processor proc) s ≡ Some (tick_of (processor_of s proc))
  pub later : IsLater (tick_of (processor_of s proc)) (due_by (Processor proc) next)
  pub others : (a : actor.Actor) → a ≢ Processor proc → due_by a next ≡ due_by a s

nine_others : (own : NineOwn) (s : MachineState) (a : actor.Actor) → a ≢ Processor Nine → due_by a (with_nine_own own s) ≡ due_by a s
nine_others own s (Processor Nine) other = absurd (other refl)
nine_others own s a other = refl

seven_others : (part : SevenState) (s : MachineState) (a : actor.Actor) → a ≢ Processor Seven → due_by a (with_seven_part part s) ≡ due_by a s
seven_others part s (Processor Seven) other = absurd (other refl)
seven_others part s a other = refl

pub nine_moves : (rest : NineReach) (s : MachineState) → IsHarmless s Nine → MovesAlone Nine s (with_nine_own (after_nine rest (nine_own_of s)) s)
nine_moves rest s h =
    let own = after_nine rest (nine_own_of s) in
    record {
      there = due_there s Nine h.free;
      later = later_unless (tick_of s.nine.processor) (is_blocked s Nine) own.part.nine.processor (nine_later rest s h);
      others = nine_others own s;
    }

pub seven_moves : (rest : SevenReach) (s : MachineState) → IsHarmless s Seven → MovesAlone Seven s (with_seven_part (after_seven rest s.seven) s)
seven_moves rest s h =
    let part = after_seven rest s.seven in
    record {
      there = due_there s Seven h.free;
      later = later_unless (tick_of s.seven.processor) (is_blocked s Seven) part.processor (seven_later rest s h);
      others = seven_others part s;
    }

-- ---- harmless is what the own part is, but for what others tell the processor

-- two machines have the same own part of a processor
abbrev pub HasOwnOf : Proc → MachineState → MachineState → Type 0
HasOwnOf Nine s t = nine_own_of s ≡ nine_own_of t
HasOwnOf Seven s t = s.seven ≡ t.seven

stays_by_part : (proc : Proc) (s t : MachineState) → HasOwnOf proc s t → ProcessorStaysPrivate s proc → ProcessorStaysPrivate t proc
stays_by_part Nine s t same stays =
    let there = nine_reach (tick_of t.nine.processor) t in
    let k : NineShared s.shared s.io = record { own = nine_reached (nine_own_of s); so = is_shared_so s } in
    let moved = private_alike nine_memory nine_side (put_shared s.shared s.io) (shared_wrote s.shared s.io) (nine_apart s.shared s.io) s.nine.processor.registers k
    (nine_reach (tick_of s.nine.processor) s) there
    (subst (StaysPrivate nine_memory nine_side s.nine.processor.registers) (sym (put_again (tick_of s.nine.processor) s)) stays) in
    subst (StaysPrivate nine_memory nine_side t.nine.processor.registers) (put_again (tick_of t.nine.processor) t)
    (subst (λ (own : NineOwn). StaysPrivate nine_memory nine_side own.part.nine.processor.registers (put_nine (nine_reached own) there)) same moved)
stays_by_part Seven s t same stays =
    subst (λ (n : SevenState). StaysPrivate seven_memory seven_side n.processor.registers (put_seven n.wram (seven_reach (tick_of t.seven.processor) t))) same
    (private_alike seven_memory seven_side put_seven seven_wrote seven_apart s.seven.processor.registers s.seven.wram (seven_reach (tick_of s.seven.processor) s)
    (seven_reach (tick_of t.seven.processor) t) stays)

pub harmless_by_part : (proc : Proc) (s t : MachineState) → HasOwnOf proc s t → is_blocked t proc ≡ false → enters (line_of t proc) (processor_of t proc).registers ≡ false
    → is_deaf t proc ≡ true → IsHarmless s proc → IsHarmless t proc
harmless_by_part proc s t same free quiet deaf h = record { free = free; quiet = quiet; deaf = deaf; own = stays_by_part proc s t same h.own }

-- where the line is down no interrupt is entered
pub private_is_harmless : (s : MachineState) (proc : Proc) → IsPrivate s proc → IsHarmless s proc
private_is_harmless s proc p = record {
  free = p.free;
  quiet = ap (λ (line : Bool). enters line (processor_of s proc).registers) p.down;
  deaf = p.deaf;
  own = p.own;
}
