use Rattle.nds_words.proofs.ScriptLaws.{one_script, none_bad, one_bad}
use Rattle.nds_words.proofs.laws.script_laws.Goals as goal

pub returns-clause-one : goal.returns-clause-one
returns-clause-one c = one_script

pub returns-clause-good : goal.returns-clause-good
returns-clause-good c = none_bad

pub returns-clause-first : goal.returns-clause-first
returns-clause-first c = one_bad
