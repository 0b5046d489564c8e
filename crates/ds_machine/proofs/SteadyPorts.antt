use Rattle.ds_machine.proofs.Words.{and_parts, arith, false, inl, inr, is_steady_port, nat_le, nat_lt, not, not-true, or_cases, true, ℕ, ◌&&◌, ◌-◌}
use Rattle.ds_machine.proofs.Words.{◌<◌, ◌∙◌, ◌≡◌, ◌≤◌}
use Rattle.ds_machine.specs.SteadyPorts.{is_apart}
use Rattle.ds_map.proofs.ObservedPorts.{observed_above, unobserved_below}
use Rattle.ds_map.specs.ObservedPorts.{is_observed_port}
use Rattle.ds_ports.specs.RegisterMap.{fill_row}
use Rattle.gx_fifo.specs.GxPorts.{display_control_row, is_engine_port}

-- Where ports stand of which a read changes no unit, and shows nothing of geometry.

bounds : (at : ℕ) → (nat_le 0x04000000 at && nat_lt at 0x04100000) ≡ true → (0x04000000 ≤ at) × (at < 0x04100000)
bounds at h = grind arith

below : (at : ℕ) → nat_lt at display_control_row.first ≡ true → at < display_control_row.first
below at h = grind (arith, h)

above : (at : ℕ) → nat_le fill_row.offset at ≡ true → fill_row.offset ≤ at
above at h = grind (arith, h)

apart_unobserved : (at : ℕ) → is_apart at ≡ true → is_observed_port at ≡ false
apart_unobserved at h = elim (or_cases (nat_lt at display_control_row.first) (nat_le fill_row.offset at && not (is_engine_port at)) h) [
  | inl low ↦ unobserved_below at (below at low)
  | inr past ↦ (
      let two = and_parts (nat_le fill_row.offset at) (not (is_engine_port at)) past in
      observed_above at (above at two.0) ∙ not-true (is_engine_port at) two.1
      )
]

pub record IsSteadyAt (at : ℕ) : Type 0 where
  pub low : 0x04000000 ≤ at
  pub high : at < 0x04100000
  pub unobserved : is_observed_port (at - 0x04000000) ≡ false

pub steady_at : (at : ℕ) → is_steady_port at ≡ true → IsSteadyAt at
steady_at at h =
    let two = and_parts (nat_le 0x04000000 at && nat_lt at 0x04100000) (is_apart (at - 0x04000000)) h in
    let b = bounds at two.0 in
    record { low = b.0; high = b.1; unobserved = apart_unobserved (at - 0x04000000) two.1 }
