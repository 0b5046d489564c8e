use Rattle.gx_fifo.proofs.Words.{slice_index_or, ℕ, ◌<◌, ◌^◌}
use Rattle.gx_fifo.proofs.Walks.{no_entry}
use Rattle.gx_fifo.proofs.entries.saved.are_words.Given as goal

abbrev pub invariant-loop-entry : goal.invariant-loop-entry
invariant-loop-entry l = (i : ℕ) → i < l.entry-index → (slice_index_or l.entries i no_entry).word < 2 ^ 32
