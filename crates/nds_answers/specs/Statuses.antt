use Rattle.std.specs.Prelude.{ℕ}
use Rattle.nds_answers.specs.declared.statuses.Status.{Status}
use Rattle.nds_answers.specs.declared.statuses.Status.TheVariants.{Done, Usage, NoFile, ReadFault, WriteFault, TooLong, BadHeader, BadScript, LeftOut, BadText, BadState, NoMemory}

-- the number of each status (our choice)
abbrev pub status_number : Status → ℕ
status_number Done = 0
status_number Usage = 2
status_number NoFile = 3
status_number ReadFault = 4
status_number WriteFault = 5
status_number TooLong = 6
status_number (BadHeader fault) = 7
status_number (BadScript line column) = 8
status_number (LeftOut left) = 9
status_number (BadText line) = 10
status_number (BadState offset) = 11
status_number NoMemory = 12
