use Rattle.std.specs.Prelude.{ℕ, ◌≡◌, ◌≢◌, ◌<◌, ◌≤◌, ◌^◌, length}
use Rattle.ds_base.specs.Texts.{HasNoFeed}
use Rattle.ds_base.specs.declared.processors.Arch.{Arch}
use Rattle.arm_words.specs.Spellings.{IsInRange}
use Rattle.asm_text.specs.declared.sets.Set.{Set}
use Rattle.asm_text.specs.Listed.{listed, spelling}
use Rattle.asm_text.specs.Starts.{raw_byte}

-- what holds of all statements
pub record StatementLaws : Type 0 where
  -- each word or half has a statement of its own at an address
  pub one : (arch : Arch) (set : Set) (at v w : ℕ) → at < 2 ^ 32 → IsInRange (spelling set v) → IsInRange (spelling set w) → listed arch set at v
      ≡ listed arch set at w → v ≡ w
  -- a byte's line is none
  pub apart : (arch : Arch) (set : Set) (at w b : ℕ) → at < 2 ^ 32 → IsInRange (spelling set w) → b < 256 → listed arch set at w ≢ raw_byte b
  -- each is one line
  pub plain : (arch : Arch) (set : Set) (at w : ℕ) → HasNoFeed (listed arch set at w)
  -- and with its line feed it is no shorter than its word
  pub long : (arch : Arch) (set : Set) (at w : ℕ) → 3 ≤ length (listed arch set at w)
