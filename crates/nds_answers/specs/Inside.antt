use Rattle.std.specs.Prelude.{ℕ, ◌≡◌, List, Some}
use Rattle.ds_header.specs.Rules.{fault_of}
use Rattle.nds_words.specs.Scripts.{IsFirstBadAt}
use Rattle.nds_answers.specs.declared.statuses.Status.{Status}
use Rattle.nds_answers.specs.declared.statuses.Status.TheVariants.{BadHeader, BadScript, NoMemory}

-- What the code's parts say of one another. No public clause speaks of it.

-- when each refusal of a cartridge's bytes comes
abbrev pub RefusesBytes : List ℕ → Status → Type 0
RefusesBytes file (BadHeader fault) = fault_of file ≡ Some fault
RefusesBytes file other = ⊥

-- when each refusal of a key script's text comes
abbrev pub RefusesText : List ℕ → Status → Type 0
RefusesText text (BadScript line column) = IsFirstBadAt text line column
RefusesText text NoMemory = Unit {0}
RefusesText text other = ⊥
