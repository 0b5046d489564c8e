use Rattle.nds_plays.proofs.Words.{List, [], ap, bytes_at, memory_of, refl, sym, ℕ, ◌++◌, ◌+◌, ◌∙◌, ◌∷◌}
use Rattle.std.proofs.lemmas.List.FromFn.{map-range_with_len_more}
use Rattle.std.proofs.Common.{length-set, slice_index}
use Rattle.std.proofs.lemmas.List.{take_more_set}
use Rattle.nds_plays.proofs.peeks.copy.Goals as goal

pub loop-i-preserved : goal.loop-i-preserved
loop-i-preserved c =
    let i : ℕ = c.loop-i.i in
    let place : ℕ = c.args.place in
    let byte : ℕ → ℕ = λ at. slice_index (memory_of c.args.console.now.machine c.args.memory) at in
    let more = map-range_with_len_more byte place i (place + i) refl in
    record {
      front = take_more_set c.loop-i.into i c.byte_of.result (rw (sym c.loop-i.invariant.long) at c.loop-i-test.true) ∙ ap (λ (x : List ℕ). x ++ c.byte_of.result ∷ []) c.loop-i.invariant.front
          ∙ ap (λ (x : ℕ). bytes_at c.args.memory place i c.args.console.now.machine ++ x ∷ []) c.byte_of.ensures ∙ sym more;
      long = length-set c.loop-i.into c.loop-i.i c.byte_of.result ∙ c.loop-i.invariant.long;
    }
