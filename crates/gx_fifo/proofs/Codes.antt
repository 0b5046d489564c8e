use Rattle.gx_fifo.proofs.Words.{GeometryCommand, List, MtxMode, Some, [], arith, command_among, command_of, command_row, geometry_commands, inl, inr}
use Rattle.gx_fifo.proofs.Words.{is_some, refl, sym, true, true≢false, unwrap_or, ℕ, ◌<◌, ◌∷◌, ◌≡◌}
use Rattle.ds_base.proofs.Choices.{same_or_not, is_equal, is_unequal}
use Rattle.gx_fifo.specs.Saved.{command_or_first, has_command}

-- Codes of commands.

pub code_again : (command : GeometryCommand) → command_of (command_row command).code ≡ Some command
unfolding command_of
code_again MtxMode = refl
code_again _ = refl

pub first_again : (command : GeometryCommand) → command_or_first (command_row command).code ≡ command
first_again command = rw (code_again command) refl

pub has_again : (command : GeometryCommand) (at : ℕ) → has_command at (command_row command).code ≡ true
has_again command at = rw (code_again command) refl

pub code_small : (command : GeometryCommand) → (command_row command).code < 256
code_small MtxMode = omega arith
code_small _ = omega arith

among_code : (commands : List GeometryCommand) (code : ℕ) → is_some (command_among commands code) ≡ true
    → (command_row (unwrap_or (command_among commands code) MtxMode)).code ≡ code
among_code [] code h = absurd (true≢false (sym h))
among_code (command ∷ commands) code h = elim (same_or_not code (command_row command).code) [
  | inl same ↦ rw (is_equal code (command_row command).code same) (sym same)
  | inr other ↦
      let e = is_unequal code (command_row command).code other in
      let some : is_some (command_among commands code) ≡ true = rw e at h in
      rw e (among_code commands code some)
]

-- a code that has a command is that command's
pub code_of : (at code : ℕ) → has_command at code ≡ true → (command_row (command_or_first code)).code ≡ code
unfolding command_of
code_of at code h = among_code geometry_commands code h
