use Rattle.ds_machine.proofs.Running.{counts_add_up, limits_rise, starts_running, steps_count, steps_keep_running, stops_count_none}
use Rattle.ds_machine.proofs.laws.running_laws.Goals as goal

pub returns : goal.returns
returns c = record { start = starts_running; step = steps_keep_running; rise = limits_rise; few = counts_add_up; count = steps_count; stop = stops_count_none }
