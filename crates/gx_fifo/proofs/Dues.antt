use Rattle.gx_fifo.proofs.Words.{Bool, FifoState, GeometryCommand, GxEntry, List, None, Option, Some, Tick, begun, complete_command, done_after}
use Rattle.gx_fifo.proofs.Words.{false, is_some, not, option_map, option_or, refl, sym, true, true≢false, ℕ, ◌&&◌, ◌++◌, ◌≡◌}
use Rattle.gx_fifo.proofs.Growing.{complete_grows, Grows}

-- A command is due exactly where the head command is complete and no swap waits.

begun_by : (now : Tick) (head : Option GeometryCommand) → is_some (option_map (done_after now) head) ≡ is_some head
begun_by now None = refl
begun_by now (Some command) = refl

pub begun_is : (now : Tick) (swap : Bool) (entries : List GxEntry) → is_some (begun now swap entries) ≡ (not swap && is_some (complete_command entries))
begun_is now true entries = refl
begun_is now false entries = begun_by now (complete_command entries)

due_by : (due : Option Tick) (now : Tick) (swap : Bool) (entries more : List GxEntry) → is_some due ≡ (not swap && is_some (complete_command entries)) →
    is_some (option_or due (begun now swap (entries ++ more))) ≡ (not swap && is_some (complete_command (entries ++ more)))
due_by None now swap entries more due = begun_is now swap (entries ++ more)
due_by (Some tick) now true entries more due = absurd (true≢false due)
due_by (Some tick) now false entries more due = sym (complete_grows entries more (sym due))

pub due_kept : (most : ℕ) (old new : FifoState) (due : Option Tick) (now : Tick) (swap : Bool) → Grows most old new →
    is_some due ≡ (not swap && is_some (complete_command old.entries)) →
    is_some (option_or due (begun now swap new.entries)) ≡ (not swap && is_some (complete_command new.entries))
due_kept most old new due now swap grows is = rw grows.entries (due_by due now swap old.entries grows.more is)
