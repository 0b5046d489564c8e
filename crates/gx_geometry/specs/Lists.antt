use Rattle.gx_matrix.specs.Commands.{error_cleared}
use Rattle.gx_geometry.specs.declared.numbers.Numbers.{Numbers}

-- What clearing the error of the matrix stacks leaves.

-- the numbers without the stacks' error
abbrev pub numbers_cleared : Numbers → Numbers
numbers_cleared s = record s { stacks = error_cleared s.stacks }
