use Rattle.std.specs.Prelude.{ℕ}
use Rattle.ds_base.specs.declared.processors.Proc.{Proc}
use Rattle.ds_base.specs.declared.processors.Proc.TheVariants.{Nine, Seven}
use Rattle.ds_base.specs.declared.processors.Arch.{Arch}
use Rattle.ds_base.specs.declared.processors.Arch.TheVariants.{V4, V5}
use Rattle.ds_base.specs.declared.processors.Raised.{Raised}

-- a processor's architecture (GBATEK, "NDS Overview": an ARM946E-S and an ARM7TDMI)
abbrev pub architecture_of : Proc → Arch
architecture_of Nine = V5
architecture_of Seven = V4

-- one of a processor's clocks, in ticks (GBATEK, "NDS Overview": ARM9 runs at twice ARM7's clock)
abbrev pub ticks_per_clock : Proc → ℕ
ticks_per_clock Nine = 1
ticks_per_clock Seven = 2

-- bits raised at one processor alone
abbrev pub raised_at : Proc → ℕ → Raised
raised_at Nine bits = record { nine = bits; seven = 0 }
raised_at Seven bits = record { nine = 0; seven = bits }
