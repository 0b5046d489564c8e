use Rattle.nds_plays.proofs.Words.{List, ap, length, sym, ℕ, ◌∙◌}
use Rattle.nds_plays.proofs.Lengths.{frame_few}
use Rattle.nds_plays.proofs.records.put_last_frame.Goals as goal

pub returns-in-Some-clause-few : goal.returns-in-Some-clause-few
returns-in-Some-clause-few g c =
    frame_few c.args.console.now.machine (sym (ap (λ (xs : List ℕ). length xs) c.frame.ensures.value) ∙ c.frame.ensures.long)
