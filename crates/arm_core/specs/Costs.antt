use Rattle.std.specs.Prelude.{ℕ, ◌+◌, ◌≤◌, max}
use Rattle.ds_base.specs.declared.processors.Arch.{Arch}
use Rattle.ds_base.specs.declared.processors.Arch.TheVariants.{V4, V5}
use Rattle.arm_core.specs.declared.classes.Class.{Class}
use Rattle.arm_core.specs.declared.classes.Class.TheVariants.{Processing, ShiftByRegister, Multiply, LongMultiply, Load, Store, LoadMultiple, StoreMultiple, Branch, Swap, Coprocessor, Entry, Nothing}

-- What instructions cost, in the processor's own clocks (our choice).

abbrev pub costs : ℕ → ℕ → Arch → ℕ
costs nine seven V5 = nine
costs nine seven V4 = seven

-- the table of costs: ARM9's, and ARM7's
abbrev pub clocks : Class → Arch → ℕ
clocks Processing = costs 1 1
clocks ShiftByRegister = costs 2 2
clocks Multiply = costs 2 4
clocks LongMultiply = costs 3 5
clocks Load = costs 2 3
clocks Store = costs 1 2
clocks (LoadMultiple n) = costs (n + 1) (n + 2)
clocks (StoreMultiple n) = costs (max n 1) (n + 1)
clocks Branch = costs 3 3
clocks Swap = costs 4 4
-- on ARM7 there is none: it is undefined, and costs the entry
clocks Coprocessor = costs 2 3
clocks Entry = costs 3 3
clocks Nothing = costs 1 1

-- what a write of r15 adds that isn't a branch's or an exception's
abbrev pub jump_clocks : ℕ
jump_clocks = 2

-- a class of several registers has at most sixteen
abbrev pub HasClocks : Class → Type 0
HasClocks (LoadMultiple n) = n ≤ 16
HasClocks (StoreMultiple n) = n ≤ 16
HasClocks class = Unit {0}
