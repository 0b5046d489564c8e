use Rattle.std.specs.Prelude.{ℕ, ◌≡◌, ◌+◌, List, length}
use Rattle.ds_base.specs.Bits.{bit, flag}
use Rattle.ds_ipc.specs.Ipcs.{AreSides, IpcState}
use Rattle.ds_ipc.specs.Sides.{Side, control_kept}
use Rattle.ds_state.specs.Formats.{Format, number_code, flag_code, done, ◌>>=◌, one_field, its, each, any, at_most, keeps_mask, word_format}
use Rattle.ds_state.specs.FormatLaws.{OneSpelling, RoundTrips}

-- Both sides in bytes (our choice of form): a side stands with the words that wait for it, which the other side sent.

abbrev pub with_words : Side → List ℕ → Side
with_words side words = record side { words = words }

-- the bits of IPCFIFOCNT that a side keeps: the three enables and the error
abbrev pub saved_control : Side → ℕ
saved_control side = control_kept side + flag 14 side.error

unfoldable pub side_format : Format Side Side
side_format = do
  passed ← one_field (number_code 1) (λ s. s.passed) (at_most 15)
  sync_raises ← one_field flag_code (λ s. s.sync_raises) any
  control ← one_field (number_code 2) saved_control (keeps_mask 0xC404)
  last ← one_field (number_code 4) (λ s. s.last) any
  count ← one_field (number_code 1) (λ s. length s.words) (at_most 16)
  words ← each count word_format (λ s. s.words)
  done (record {
    passed = passed;
    sync_raises = sync_raises;
    words = words;
    last = last;
    error = bit 14 control;
    enabled = bit 15 control;
    empty_raises = bit 2 control;
    filled_raises = bit 10 control;
  })

unfoldable pub ipc_format : Format IpcState IpcState
ipc_format = do
  nine ← its side_format (λ s. with_words s.nine s.seven.words)
  seven ← its side_format (λ s. with_words s.seven s.nine.words)
  done (record { nine = with_words nine seven.words; seven = with_words seven nine.words })

-- their bytes are read as they were, and bytes that are read are theirs
pub record SidesAreSaved : Type 0 where
  pub back : (at : ℕ) (s : IpcState) → AreSides s → RoundTrips ipc_format at s
  pub spelling : (at : ℕ) → OneSpelling ipc_format at
