use Rattle.ds_machine.proofs.Words.{Around, Bool, DmaState, Err, Format, IrqState, List, MachineState, MachinesAreSaved, Ok, Proc, [], around_of}
use Rattle.ds_machine.proofs.Words.{bytes_written, card_format, channel_format_by, dma_format, dma_format_by, done, false, gx_format_by, irq_format}
use Rattle.ds_machine.proofs.Words.{irq_format_by, irq_levelled, list, machine_format, machine_parts, one_spelling, refl, spelled_once, subst, sym}
use Rattle.ds_machine.proofs.Words.{then_field, then_part, video_format, ℕ, ◌∙◌, ◌≡◌}
use Rattle.ds_state.specs.Reading.{◌>>=◌, ReadAnswer, read_format, Left, read_code, read_list, ruled}
use Rattle.ds_timers.proofs.SavedLaws.{irqs_saved}
use Rattle.ds_machine.proofs.SavedExact.{machine_exact}
use Rattle.ds_machine.proofs.SavedParts.{machine_reads, machine_writes}

-- The bytes are those of the state alone, and what is read has what was handed in.

-- whatever a rule looks at
pub dma_bytes : (proc other : Proc) (asked : Bool → Bool) (before : List ℕ) (s : DmaState)
    → bytes_written (dma_format proc) before s ≡ bytes_written (dma_format_by other asked) before s
unfolding dma_format_by channel_format_by
dma_bytes proc other asked before s = refl

-- ARM9's interrupt words without the FIFO's bit have the bytes that they have with it
pub irq_bytes : (proc : Proc) (before : List ℕ) (i : IrqState)
    → bytes_written (irq_format proc) before i ≡ bytes_written (irq_format proc) before (irq_levelled i false)
irq_bytes proc before i = irqs_saved.level proc before i

machine_bytes : (around other : Around) (at later : ℕ) (before : List ℕ) (s : MachineState)
    → bytes_written (machine_format around.file around.keys around.nine around.seven around.events at) before s
    ≡ bytes_written (machine_format other.file other.keys other.nine other.seven other.events later) before s
unfolding machine_format irq_format_by dma_format_by channel_format_by video_format gx_format_by card_format
machine_bytes around other at later before s = refl

-- ---- what holds of whatever a format makes

abbrev Always : {S A : Type 0} → Format S A → (A → Type 0) → Type 0
Always (done a) P = P a
Always (then_field c get rule next) P = (v : _) → Always (next v) P
Always (then_part f get next) P = (t : _) → Always (next t) P
Always (list n f get next) P = (ts : _) → Always (next ts) P

abbrev IsRead : {A : Type 0} → ReadAnswer A → Type 0
IsRead (Ok p) = Unit {0}
IsRead (Err e) = ⊥

abbrev HoldsOf : {A : Type 0} → (A → Type 0) → ReadAnswer A → Type 0
HoldsOf P (Ok p) = P p.0
HoldsOf P (Err e) = Unit {0}

then_holds : {A B : Type 0} (P : B → Type 0) (r : ReadAnswer A) (k : A × Left → ReadAnswer B) → ((p : A × Left) → HoldsOf P (k p)) → HoldsOf P (r >>= k)
then_holds P (Ok p) k h = h p
then_holds P (Err e) k h = tt

always_read : {S A : Type 0} (f : Format S A) (at : ℕ) (P : A → Type 0) (l : Left) → Always f P → HoldsOf P (read_format f at l)
always_read (done a) at P l h = h
always_read (then_field c get rule next) at P l h =
    then_holds P (ruled (rule at) l (read_code c l)) (λ p. read_format (next p.0) at p.1) (λ p. always_read (next p.0) at P p.1 (h p.0))
always_read (then_part f get next) at P l h = then_holds P (read_format f at l) (λ p. read_format (next p.0) at p.1) (λ p. always_read (next p.0) at P p.1 (h p.0))
always_read (list n f get next) at P l h =
    then_holds P (read_list (read_format f at) n l) (λ p. read_format (next p.0) at p.1) (λ p. always_read (next p.0) at P p.1 (h p.0))

abbrev HasAround : Around → MachineState → Type 0
HasAround around s =
    (s.nine.processor.steps ≡ around.nine) × (s.seven.processor.steps ≡ around.seven) × (s.events ≡ around.events) × (s.file ≡ around.file)

around_read : (around : Around) (at : ℕ) (l : Left) → HoldsOf (HasAround around) (read_format (machine_parts around at) at l)
unfolding machine_parts
around_read around at l = always_read (machine_parts around at) at (HasAround around) l (λ processors memories units channels video gx card. (refl, refl, refl, refl))

pub machines_saved : MachinesAreSaved
machines_saved = record {
  spelling = λ file keys nine seven events at.
      (let around = around_of file keys nine seven events in
      spelled_once (machine_format file keys nine seven events at) (machine_parts around at) at (machine_reads file keys nine seven events at)
      (machine_writes file keys nine seven events at []) (one_spelling (machine_parts around at) at (machine_exact around at)));
  same = λ file other_file keys other_keys nine seven events at other_nine other_seven other_events later before s.
      machine_bytes (around_of file keys nine seven events) (around_of other_file other_keys other_nine other_seven other_events) at later before s;
  counts = λ file keys nine seven events at l left s h.
      subst (HoldsOf (HasAround (around_of file keys nine seven events))) (sym (machine_reads file keys nine seven events at l) ∙ h) (around_read (around_of file keys nine seven events) at l);
}
