-- The machine's format, and the parts in which the code takes it from bytes.
use Rattle.ds_machine.proofs.Words.{Around, Format, KeyLine, List, MachineState, [], around_of, bytes_written, channels_format, machine_format}
use Rattle.ds_machine.proofs.Words.{machine_parts, memories_format, open_by, open_reads, processor_format, processors_format, refl, subst, true}
use Rattle.ds_machine.proofs.Words.{units_format, ℕ, ◌∙◌, ◌∷◌, ◌≡◌}
use Rattle.ds_state.specs.Reading.{read_format, Left}

abbrev four_opened : Around → ℕ → Format MachineState MachineState
four_opened around at = open_by (true ∷ true ∷ true ∷ true ∷ []) (machine_parts around at)

-- the fields of the first four stand in the whole, and so do both processors'
parts_open : (file : List ℕ) (keys : List KeyLine) (nine seven events at : ℕ)
    → open_by (true ∷ true ∷ []) (four_opened (around_of file keys nine seven events) at) ≡ machine_format file keys nine seven events at
unfolding machine_format machine_parts processor_format processors_format memories_format units_format channels_format
parts_open file keys nine seven events at = refl

pub machine_reads : (file : List ℕ) (keys : List KeyLine) (nine seven events at : ℕ) (l : Left)
    → read_format (machine_format file keys nine seven events at) at l ≡ read_format (machine_parts (around_of file keys nine seven events) at) at l
machine_reads file keys nine seven events at l =
    subst (λ (f : Format MachineState MachineState). read_format f at l ≡ read_format (machine_parts (around_of file keys nine seven events) at) at l)
    (parts_open file keys nine seven events at)
    (open_reads (true ∷ true ∷ []) (four_opened (around_of file keys nine seven events) at) at l
    ∙ open_reads (true ∷ true ∷ true ∷ true ∷ []) (machine_parts (around_of file keys nine seven events) at) at l)

pub machine_writes : (file : List ℕ) (keys : List KeyLine) (nine seven events at : ℕ) (before : List ℕ) (s : MachineState)
    → bytes_written (machine_format file keys nine seven events at) before s
    ≡ bytes_written (machine_parts (around_of file keys nine seven events) at) before s
unfolding machine_format machine_parts processor_format processors_format memories_format units_format channels_format
machine_writes file keys nine seven events at before s = refl
