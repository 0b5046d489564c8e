use Rattle.ds_machine.proofs.CardSteps.{machine_takes_in_order, runs_take_card_steps, steps_pass_card}
use Rattle.ds_machine.proofs.CardValues.{loads_give_words, reads_give_words}
use Rattle.ds_machine.proofs.laws.card_laws.Goals as goal

pub returns : goal.returns
returns c = record {
  steps = steps_pass_card;
  order = machine_takes_in_order;
  runs = runs_take_card_steps;
  values = reads_give_words;
  loads = loads_give_words;
}
