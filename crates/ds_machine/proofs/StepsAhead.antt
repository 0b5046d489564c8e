use Rattle.ds_machine.proofs.Words.{AreKeyLines, HasSoundParts, IoState, IsHarmless, IsIo, IsSharedSo, IsSound, List, MachineState, Makes, Nine}
use Rattle.ds_machine.proofs.Words.{NineOwn, Proc, Seven, SevenState, [], ap, io_of, is_settled, nine_own_of, nine_reach, other_proc, processor_of}
use Rattle.ds_machine.proofs.Words.{rank_of, reference_step, refl, seven_reach, shares_bit, subst, sym, tick_of, with_nine_own, with_seven_part, ℕ}
use Rattle.ds_machine.proofs.Words.{◌&&◌, ◌+◌, ◌<◌, ◌∙◌, ◌≡◌}
use Rattle.ds_machine.proofs.InnerLaw.{after_nine, after_seven, calm, inner_nine, inner_seven, nine_later, nine_fits, seven_later}

-- A processor's step before its turn: what it leaves.

-- a machine is as another but for a processor's own part; ARM9's shares the memories out as they were
abbrev pub DiffersInOwn : Proc → MachineState → MachineState → Type 0
DiffersInOwn Nine s next = (own : NineOwn) × IsSharedSo own.share s.shared s.io × (next ≡ with_nine_own own s)
DiffersInOwn Seven s next = (own : SevenState) × (next ≡ with_seven_part own s)

-- what such a step makes of a machine: its own part alone changes, and the processor took one more step and is due later
pub record StepsAhead (s next : MachineState) (proc : Proc) : Type 0 where
  pub own : DiffersInOwn proc s next
  pub steps : (processor_of next proc).steps ≡ (processor_of s proc).steps + 1
  pub later : (processor_of s proc).due < (processor_of next proc).due

-- it is taken, and puts out nothing
pub record GoesAhead (s : MachineState) (proc : Proc) : Type 0 where
  pub next : MachineState
  pub makes : reference_step (rank_of proc) s ≡ Makes next []
  pub steps : StepsAhead s next proc

-- so goes each harmless step of a sound machine
pub harmless_goes : (s : MachineState) (proc : Proc) → IsHarmless s proc → IsSound s → GoesAhead s proc
harmless_goes s Nine is sound =
    let rest = nine_reach (tick_of s.nine.processor) s in
    let own = after_nine rest (nine_own_of s) in
    record {
      next = with_nine_own own s;
      makes = inner_nine rest s (calm s sound) is;
      steps = record { own = (own, nine_fits rest s is, refl); steps = refl; later = nine_later rest s is };
    }
harmless_goes s Seven is sound =
    let rest = seven_reach (tick_of s.seven.processor) s in
    let own = after_seven rest s.seven in
    record {
      next = with_seven_part own s;
      makes = inner_seven rest s (calm s sound) is;
      steps = record { own = (own, refl); steps = refl; later = seven_later rest s is };
    }

-- ---- what it leaves

-- the units are as they were, but for the bytes of video memory
abbrev pub with_bytes : List ℕ → IoState → IoState
with_bytes bytes u = record u { vram = record u.vram { bytes = bytes } }

pub record Leaves (proc : Proc) (s next : MachineState) : Type 0 where
  pub bytes : List ℕ
  pub io : next.io ≡ with_bytes bytes s.io
  pub keys : next.keys ≡ s.keys
  pub events : next.events ≡ s.events
  pub other : processor_of next (other_proc proc) ≡ processor_of s (other_proc proc)

shared_io : (own : NineOwn) (s : MachineState) → IsSharedSo own.share s.shared s.io → (with_nine_own own s).io ≡ with_bytes (with_nine_own own s).io.vram.bytes s.io
shared_io own s is =
    let u = (with_nine_own own s).io in
    ap (λ (w : ℕ). (let v : IoState = record u { wramcnt = w } in v)) is.wramcnt
    ∙ ap (λ (controls : List ℕ). (let v : IoState = record s.io { vram = record u.vram { controls = controls } } in v)) is.controls

leaves : (proc : Proc) (s next : MachineState) → DiffersInOwn proc s next → Leaves proc s next
leaves Nine s next own =
    subst (Leaves Nine s) (sym own.2)
    (record { bytes = (with_nine_own own.0 s).io.vram.bytes; io = shared_io own.0 s own.1; keys = refl; events = refl; other = refl })
leaves Seven s next own = subst (Leaves Seven s) (sym own.1) (record { bytes = s.io.vram.bytes; io = refl; keys = refl; events = refl; other = refl })

module _ (s next : MachineState) (proc : Proc) (st : StepsAhead s next proc) where
  pub left : Leaves proc s next
  left = leaves proc s next st.own

  -- ---- a sound machine stays so

  pub ahead_parts : HasSoundParts s → HasSoundParts next
  ahead_parts is = record {
    io = subst IsIo (sym left.io) (record { nine = is.io.nine; seven = is.io.seven; gx = is.io.gx });
    keys = subst AreKeyLines (sym left.keys) is.keys;
  }

  pub ahead_sound : IsSound s → IsSound next
  ahead_sound is = record {
    parts = ahead_parts is.parts;
    asleep = λ each. ap (λ (u : IoState). (io_of u each).halted && shares_bit (io_of u each).irq) left.io ∙ is.asleep each;
    settled = ap is_settled left.io ∙ is.settled;
  }
