use Rattle.ds_ports.proofs.Words.{Geometry, GxState, IoState, Option, Tick, acting_io_due, ap, arith, first_acting_io_due, first_with, gx_kept}
use Rattle.ds_ports.proofs.Words.{gx_port, kept_port, ℕ, ◌*◌, ◌==◌, ◌^◌, ◌≡◌}
use Rattle.ds_ports.specs.Dues.{first_io_due}

-- The first of what is due behind the ports, and of what acts of it; and what is asked of GXSTAT.

-- of GXSTAT its selector alone is kept
no_bits : (selector kept : ℕ) → kept ≡ selector * 2 ^ 30 → (kept == 0) ≡ (selector == 0)
no_bits selector kept e = grind (arith, e)

pub unselected : (s : GxState) (kept : ℕ) → kept ≡ gx_kept s 0x600 → (kept == 0) ≡ (s.selector == 0)
unfolding gx_port kept_port
unselected s kept e = no_bits s.selector kept e

pub all_due : (u : IoState) (geometry : Option Tick) → geometry ≡ u.gx.due → first_with geometry u ≡ first_io_due u
unfolding first_with first_io_due
all_due u geometry e = ap (λ (d : Option Tick). first_with d u) e

pub all_acting : (u : IoState) (geometry : Option Tick) → geometry ≡ acting_io_due Geometry u → first_with geometry u ≡ first_acting_io_due u
unfolding first_with first_acting_io_due
all_acting u geometry e = ap (λ (d : Option Tick). first_with d u) e
