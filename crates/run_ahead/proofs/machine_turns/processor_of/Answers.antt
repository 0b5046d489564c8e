use Rattle.run_ahead.proofs.Words.{Nine, Seven, actor_of, ap, inl, inr, sort_rank, sym, ◌∙◌}
use Rattle.ds_machine.proofs.Ranks.{processor_ranked}
use Rattle.run_ahead.proofs.machine_turns.processor_of.Goals as goal

pub returns-in-Processor : goal.returns-in-Processor
returns-in-Processor c = processor_ranked c.in-Processor.proc c.args.rank c.requires (sym c.in-Processor.ensures.actor)

pub returns-in_default : goal.returns-in_default
returns-in_default c = elim (sort_rank c.args.rank c.requires) [
  | inl event ↦ event
  | inr last ↦ elim last [
    | inl is ↦ absurd (c.in_default.not-Processor Nine (c.of.ensures.actor ∙ ap actor_of is))
    | inr is ↦ absurd (c.in_default.not-Processor Seven (c.of.ensures.actor ∙ ap actor_of is))
  ]
]
