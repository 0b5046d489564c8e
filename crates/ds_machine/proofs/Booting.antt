use Rattle.ds_machine.proofs.Words.{AreAsleep, Byte, HasSoundParts, ImageLies, IoState, IsRunning, IsSound, KeyLine, List, MachineState, Nine, Proc}
use Rattle.ds_machine.proofs.Words.{ProcessorState, Seven, Tick, [], ap, arith, copied, counts_of, false, header_bytes, header_place, if_false}
use Rattle.ds_machine.proofs.Words.{image_of, image_place, inl, inr, io_at_boot, io_of, is_settled, length, machine_blank, machine_booted, map_of}
use Rattle.ds_machine.proofs.Words.{nat_lt, numbers_at_boot, processor_of, refl, run_of, script_from, shares_bit, stored, sym, take, true, with_file}
use Rattle.ds_machine.proofs.Words.{with_header, with_image, ℕ, ◌&&◌, ◌+◌, ◌∙◌, ◌∷◌, ◌≡◌, ◌≤◌}
use Rattle.ds_machine.proofs.RamAccesses.{ram_write_io}
use Rattle.ds_machine.proofs.Running.{starts_running}

-- What boot leaves of the counts and the units.

abbrev start : Tick
start = record { 0 = 0 }

-- the key script, the processors' numbers, the count of events and the file stay
pub record Stays (s next : MachineState) : Type 0 where
  pub keys : next.keys ≡ s.keys
  pub events : next.events ≡ s.events
  pub file : next.file ≡ s.file
  pub nine : next.nine.processor ≡ s.nine.processor
  pub seven : next.seven.processor ≡ s.seven.processor

then_stays : (a b c : MachineState) → Stays a b → Stays b c → Stays a c
then_stays a b c one two = record {
  keys = two.keys ∙ one.keys;
  events = two.events ∙ one.events;
  file = two.file ∙ one.file;
  nine = two.nine ∙ one.nine;
  seven = two.seven ∙ one.seven;
}

copied_stays : (proc : Proc) (s : MachineState) (at : ℕ) (bytes : List ℕ) → Stays s (copied proc s at bytes)
copied_stays proc s at [] = record { keys = refl; events = refl; file = refl; nine = refl; seven = refl }
copied_stays proc s at (byte ∷ rest) =
    let next = stored proc s at byte in
    then_stays s next (copied proc next (at + 1) rest) (record { keys = refl; events = refl; file = refl; nine = refl; seven = refl }) (copied_stays proc next (at + 1) rest)

-- the file stands beside what is copied
copied_put : (file : List ℕ) (proc : Proc) (s : MachineState) (at : ℕ) (bytes : List ℕ) → copied proc (with_file file s) at bytes ≡ with_file file (copied proc s at bytes)
copied_put file proc s at [] = refl
copied_put file proc s at (byte ∷ rest) = copied_put file proc (stored proc s at byte) (at + 1) rest

pub booted_put : (file : List ℕ) (keys : List KeyLine) (s : MachineState) → with_file file s ≡ machine_blank file keys
    → with_file file (with_header (with_image Seven (with_image Nine s file) file) file) ≡ machine_booted file keys
booted_put file keys s blank =
    let nine = with_image Nine s file in
    sym (copied_put file Nine (with_image Seven nine file) header_place (take header_bytes file))
    ∙ ap (λ (m : MachineState). with_header m file) (sym (copied_put file Seven nine (image_place file Seven) (image_of file Seven))
    ∙ ap (λ (m : MachineState). with_image Seven m file) (sym (copied_put file Nine s (image_place file Nine) (image_of file Nine))
    ∙ ap (λ (m : MachineState). with_image Nine m file) blank))

pub booted_stays : (file : List ℕ) (keys : List KeyLine) → Stays (machine_blank file keys) (machine_booted file keys)
booted_stays file keys =
    let blank = machine_blank file keys in
    let nine = with_image Nine blank file in
    let seven = with_image Seven nine file in
    let booted = machine_booted file keys in
    then_stays blank nine booted (copied_stays Nine blank (image_place file Nine) (image_of file Nine))
    (then_stays nine seven booted (copied_stays Seven nine (image_place file Seven) (image_of file Seven))
    (copied_stays Nine seven header_place (take header_bytes file)))

-- ---- images go to RAM, and leave the units

pub copied_io : (proc : Proc) (s : MachineState) (at : ℕ) (bytes : List ℕ) → 0x02000000 ≤ at → at + length bytes ≤ 0x04000000 → (copied proc s at bytes).io ≡ s.io
copied_io proc s at [] low high = refl
copied_io proc s at (byte ∷ rest) low high =
    copied_io proc (stored proc s at byte) (at + 1) rest (omega (arith, low)) (omega (arith, high))
    ∙ ram_write_io proc start (map_of proc s) at Byte byte low (omega (arith, high))

-- the lines from the start on are all
pub from_start : (lines : List KeyLine) → script_from 0 lines ≡ lines
from_start [] = refl
from_start (line ∷ lines) = if_false (nat_lt line.tick.0 0) (script_from 0 lines) (line ∷ lines) (grind arith)

-- where an accepted image lies
pub image_lies : (proc : Proc) (at count : ℕ) → ImageLies proc at count → (0x02000000 ≤ at) × (at + count ≤ 0x04000000)
image_lies Nine at count is = let low : 0x02000000 ≤ at = is.first in let high : at + count ≤ 0x03000000 = is.whole in (low, omega (arith, high))
image_lies Seven at count (inl is) = let low : 0x02000000 ≤ at = is.first in let high : at + count ≤ 0x03000000 = is.whole in (low, omega (arith, high))
image_lies Seven at count (inr is) = let low : 0x037F8000 ≤ at = is.first in let high : at + count ≤ 0x03810000 = is.whole in (omega (arith, low), omega (arith, high))

-- ---- no step was taken

none_steps : (file : List ℕ) (keys : List KeyLine) (proc : Proc) → (processor_of (machine_booted file keys) proc).steps ≡ 0
none_steps file keys Nine = ap (λ (p : ProcessorState). p.steps) (booted_stays file keys).nine
none_steps file keys Seven = ap (λ (p : ProcessorState). p.steps) (booted_stays file keys).seven

due_at_boot : (file : List ℕ) (keys : List KeyLine) (proc : Proc) → (processor_of (machine_booted file keys) proc).due ≡ 0
due_at_boot file keys Nine = ap (λ (p : ProcessorState). p.due) (booted_stays file keys).nine
due_at_boot file keys Seven = ap (λ (p : ProcessorState). p.due) (booted_stays file keys).seven

-- and each processor is due at once
pub booted_due : (s : MachineState) (keys : List KeyLine) → s ≡ machine_booted s.file keys → (proc : Proc) → (processor_of s proc).due ≡ 0
booted_due s keys is proc = ap (λ (m : MachineState). (processor_of m proc).due) is ∙ due_at_boot s.file keys proc

none_events : (file : List ℕ) (keys : List KeyLine) → (machine_booted file keys).events ≡ 0
none_events file keys = (booted_stays file keys).events

pub none_booted : (file : List ℕ) (keys : List KeyLine) → counts_of (machine_booted file keys) ≡ 0
none_booted file keys =
    let nine = none_steps file keys Nine in
    let seven = none_steps file keys Seven in
    let events = none_events file keys in
    omega (arith, nine, seven, events)

-- a machine whose units are as at boot is asleep
asleep_booted : (s : MachineState) → s.io ≡ io_at_boot → AreAsleep s
asleep_booted s e proc = ap (λ (u : IoState). (io_of u proc).halted && shares_bit (io_of u proc).irq) e ∙ at_boot proc where
  at_boot : (proc : Proc) → ((io_of io_at_boot proc).halted && shares_bit (io_of io_at_boot proc).irq) ≡ false
  at_boot Nine = refl
  at_boot Seven = refl

-- and settled
pub settled_booted : (s : MachineState) → s.io ≡ io_at_boot → is_settled s.io ≡ true
settled_booted s e = ap is_settled e ∙ refl

pub sound_booted : (s : MachineState) → HasSoundParts s → s.io ≡ io_at_boot → IsSound s
sound_booted s parts e = record { parts = parts; asleep = asleep_booted s e; settled = settled_booted s e }

-- so it goes on
pub running_booted : (s : MachineState) (file : List ℕ) (keys : List KeyLine) → s ≡ machine_booted file keys → HasSoundParts s → s.io ≡ io_at_boot → IsRunning 0 s
unfolding numbers_at_boot
running_booted s file keys is parts io =
    let none = ap counts_of is ∙ none_booted file keys in
    let run : run_of s ≡ 0 = ap (λ (u : IoState). u.gx.geometry.numbers.run) io in
    starts_running 0 s (sound_booted s parts io) (λ rank tick due. omega arith) (omega (arith, none)) (omega (arith, run))
