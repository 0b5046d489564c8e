use Rattle.ds_machine.proofs.Words.{AllReschedule, AreWaiting, Bool, Goes, GxState, IoState, IsIo, IsLater, IsNumbered, IsUnchanged, KeyLine}
use Rattle.ds_machine.proofs.Words.{KeyScript, List, MachineState, Nine, None, Option, Proc, Processor, ProcessorIoState, ProcessorState, ReadLeaves}
use Rattle.ds_machine.proofs.Words.{Reschedules, ReschedulesEach, Seven, Some, Tick, all_of_actors, ap, blocks_processor, due_by, due_unless, dues_of}
use Rattle.ds_machine.proofs.Words.{false, inl, inr, io_due, io_of, is_held, is_stalled, keys_due, other_proc, processor_due, processor_io_is, refl}
use Rattle.ds_machine.proofs.Words.{subst, sym, true, true≢false, ℕ, ◌<◌, ◌||◌, ◌∙◌, ◌≡◌}
use Rattle.ds_ports.proofs.Later.{io_is, in_turn, unchanged_is}
use Rattle.ds_runs.specs.declared.actors.Actor as actor

-- How due ticks move: each stays, or becomes later than a tick.

-- ---- one due tick

-- what is due, is due later than a tick
pub later_if : (tick : Tick) (o : Option Tick) → ((at : Tick) → o ≡ Some at → tick.0 < at.0) → IsLater tick o
later_if tick None h = tt
later_if tick (Some at) h = h at refl

-- a processor that is due later, or is blocked
pub later_unless : (tick : Tick) (blocked : Bool) (p : ProcessorState) → tick.0 < p.due → IsLater tick (due_unless blocked p)
later_unless tick true p h = tt
later_unless tick false p h = h

-- a processor that stays blocked where it was, and is due as it was otherwise
pub blocked_moves : (tick : Tick) (old new : Bool) (p q : ProcessorState) → q.due ≡ p.due → (old ≡ true → new ≡ true) → Reschedules tick (due_unless old p) (due_unless new q)
blocked_moves tick old true p q e h = inr tt
blocked_moves tick true false p q e h = absurd (true≢false (sym (h refl)))
blocked_moves tick false false p q e h = inl (ap (λ (n : ℕ). (let o : Option Tick = Some (record { 0 = n }) in o)) e)

-- ---- the units behind the ports

pub then_io_dues : (tick : Tick) (a b c : IoState) → ReschedulesEach tick a b → ReschedulesEach tick b c → ReschedulesEach tick a c
then_io_dues tick a b c one two = λ who n. in_turn tick (io_due who a) (io_due who b) (io_due who c) (one who n) (two who n)

-- ---- a processor's own

-- it is blocked as before
pub unchanged_blocked : (old new : ProcessorIoState) → IsUnchanged old new → blocks_processor new ≡ blocks_processor old
unchanged_blocked old new l = rw (l.halted, l.dma) refl

pub left_after : (a b c : ProcessorIoState) → IsUnchanged a b → IsUnchanged b c → IsUnchanged a c
left_after a b c one two = record { timers = two.timers ∙ one.timers; keycnt = two.keycnt ∙ one.keycnt; halted = two.halted ∙ one.halted; dma = two.dma ∙ one.dma }

-- what a read leaves
pub read_io : (proc : Proc) (now : Tick) (old new : IoState) → IsIo old → ReadLeaves proc now old new → IsIo new
read_io proc now old new are l =
    io_is new (λ each. unchanged_is (io_of old each) (io_of new each) (l.processor_io each) (processor_io_is old are each)) (subst AreWaiting (sym l.gx) are.gx)

-- each is held as before; ARM9 by geometry too
held_by : (old new : IoState) → IsUnchanged old.nine new.nine → new.gx ≡ old.gx → is_held new Nine ≡ is_held old Nine
held_by old new l gx =
    ap (λ (b : Bool). b || is_stalled new.gx) (unchanged_blocked old.nine new.nine l) ∙ ap (λ (g : GxState). blocks_processor old.nine || is_stalled g) gx

pub read_held : (proc : Proc) (now : Tick) (old new : IoState) → ReadLeaves proc now old new → (each : Proc) → is_held new each ≡ is_held old each
read_held proc now old new l Nine = held_by old new (l.processor_io Nine) l.gx
read_held proc now old new l Seven = unchanged_blocked old.seven new.seven (l.processor_io Seven)

-- the other one is held as before where a processor, or a channel of it, makes accesses
pub other_held : (proc : Proc) (now : Tick) (old new : IoState) → Goes proc now old new → is_held new (other_proc proc) ≡ is_held old (other_proc proc)
other_held Nine now old new g = unchanged_blocked old.seven new.seven g.other
other_held Seven now old new g = held_by old new g.other (g.geometry.of_seven refl)

-- ---- the machine

abbrev pub Moves : Tick → MachineState → MachineState → Type 0
Moves tick s next = (a : actor.Actor) → IsNumbered a → Reschedules tick (due_by a s) (due_by a next)

pub moves_all : (tick : Tick) (s next : MachineState) → Moves tick s next → AllReschedule tick (dues_of s) (dues_of next)
unfolding dues_of
moves_all tick s next m = all_of_actors tick (λ (a : actor.Actor). due_by a s) (λ (a : actor.Actor). due_by a next) m

pub then_all : (tick : Tick) (a b c : MachineState) → Moves tick a b → Moves tick b c → Moves tick a c
then_all tick a b c one two = λ who n. in_turn tick (due_by who a) (due_by who b) (due_by who c) (one who n) (two who n)

-- the machine's due ticks, by its parts
pub moves_of : (tick : Tick) (s next : MachineState) → Reschedules tick (keys_due s.keys) (keys_due next.keys)
    → ReschedulesEach tick s.io next.io → ((proc : Proc) → Reschedules tick (processor_due s proc) (processor_due next proc)) → Moves tick s next
moves_of tick s next keys dues processors KeyScript n = keys
moves_of tick s next keys dues processors (Processor proc) n = processors proc
moves_of tick s next keys dues processors a n = dues a n

pub same_keys : (tick : Tick) (old new : List KeyLine) → new ≡ old → Reschedules tick (keys_due old) (keys_due new)
same_keys tick old new e = inl (ap keys_due e)
