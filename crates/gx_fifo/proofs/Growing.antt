use Rattle.gx_fifo.proofs.Words.{Bool, FifoState, GeometryCommand, GxEntry, List, None, Option, Some, [], added_by, ap, append-nil, append_assoc}
use Rattle.gx_fifo.proofs.Words.{arith, command_row, complete_command, entry_added, false, first_command, if◌then◌else◌, is_given, is_some, length}
use Rattle.gx_fifo.proofs.Words.{length-append, length-map, length-take, nat_le, packed_commands, parameter_taken, prefix_len, refl, sym, take}
use Rattle.gx_fifo.proofs.Words.{takes_none, true, unpacked, with_word, without_word, word_taken, ℕ, ◌++◌, ◌+◌, ◌/◌, ◌<◌, ◌^◌, ◌∙◌, ◌∷◌, ◌≡◌, ◌≤◌}
use Rattle.gx_fifo.proofs.Unpacks.{four_commands, left_given, three_commands, word_left}

-- What a word adds to the entries that wait, and what it leaves of a packed word's commands.

-- entries come at the end, so many at most; what is left of a packed word is a word, and its first command was given fewer parameters than it has
pub record Grows (most : ℕ) (old new : FifoState) : Type 0 where
  pub more : List GxEntry
  pub entries : new.entries ≡ old.entries ++ more
  pub within : length more ≤ most
  pub packed : new.packed < 2 ^ 32
  pub given : is_given new.packed new.given ≡ true

-- a packed word adds no more entries than it has commands
unpacked_grows : (word : ℕ) (old : FifoState) → Grows (length (packed_commands word)) old (unpacked old.entries word)
unfolding unpacked
unpacked_grows word old =
    let left = packed_commands word in
    let n = prefix_len takes_none left in
    record {
      more = added_by word;
      entries = refl;
      within = grind (arith, length-map (take n left) without_word, length-take n left);
      packed = word_left word;
      given = left_given word;
    }

widened : (least most : ℕ) (old new : FifoState) → least ≤ most → Grows least old new → Grows most old new
widened least most old new le grows =
    record { more = grows.more; entries = grows.entries; within = omega (arith, le, grows.within); packed = grows.packed; given = grows.given }

-- one more entry before them
one_before : (n : ℕ) (x : GxEntry) (old between new : FifoState) → between.entries ≡ old.entries ++ x ∷ [] → Grows n between new → Grows (n + 1) old new
one_before n x old between new first grows = record {
  more = x ∷ grows.more;
  entries = grows.entries ∙ ap (λ es. es ++ grows.more) first ∙ append_assoc old.entries (x ∷ []) grows.more;
  within = omega (arith, grows.within);
  packed = grows.packed;
  given = grows.given;
}

-- the command that waits is given a parameter
pub still_given : (command : GeometryCommand) (packed given : ℕ) → first_command packed ≡ Some command
    → nat_le (command_row command).parameters (given + 1) ≡ false
    → is_given packed (given + 1) ≡ true
still_given command packed given first more = rw first (grind (arith, more))

parameter_by : (b : Bool) (command : GeometryCommand) (word : ℕ) (s : FifoState) → nat_le (command_row command).parameters (s.given + 1) ≡ b
    → first_command s.packed ≡ Some command → s.packed < 2 ^ 32
    → Grows 4 s (if b then unpacked (s.entries ++ with_word command word ∷ []) (s.packed / 2 ^ 8)
    else record s { entries = s.entries ++ with_word command word ∷ []; given = s.given + 1 })
parameter_by true command word s last first small =
    let between : FifoState = record s { entries = s.entries ++ with_word command word ∷ [] } in
    let rest = s.packed / 2 ^ 8 in
    let few = three_commands s.packed small in
    widened (length (packed_commands rest) + 1) 4 s _ (omega (arith, few))
    (one_before (length (packed_commands rest)) (with_word command word) s between _ refl (unpacked_grows rest between))
parameter_by false command word s more first small = record {
  more = with_word command word ∷ [];
  entries = refl;
  within = omega arith;
  packed = small;
  given = still_given command s.packed s.given first more;
}

parameter_grows : (first : Option GeometryCommand) (word : ℕ) (s : FifoState) → first_command s.packed ≡ first → s.packed < 2 ^ 32
    → Grows 4 s (parameter_taken first word s)
parameter_grows None word s is small = widened _ 4 s _ (four_commands word) (unpacked_grows word s)
parameter_grows (Some command) word s is small =
    parameter_by (nat_le (command_row command).parameters (s.given + 1)) command word s refl is small

pub word_grows : (word : ℕ) (s : FifoState) → s.packed < 2 ^ 32 → Grows 4 s (word_taken word s)
word_grows word s small = parameter_grows (first_command s.packed) word s refl small

pub entry_grows : (command : Option GeometryCommand) (word : ℕ) (s : FifoState) → s.packed < 2 ^ 32 → is_given s.packed s.given ≡ true →
    Grows 4 s (entry_added command word s)
entry_grows None word s small given = record { more = []; entries = sym (append-nil s.entries); within = omega arith; packed = small; given = given }
entry_grows (Some command) word s small given =
    record { more = with_word command word ∷ []; entries = refl; within = omega arith; packed = small; given = given }

-- a head command that is complete stays so where entries come
pub complete_grows : (entries more : List GxEntry) → is_some (complete_command entries) ≡ true → is_some (complete_command (entries ++ more)) ≡ true
complete_grows [] more some = absurd (grind (arith, some))
complete_grows (e ∷ entries) more some = grind (arith, some, length-append entries more)

pub grows_by : (most : ℕ) (old new : FifoState) → Grows most old new → length new.entries ≤ length old.entries + most
grows_by most old new grows = rw grows.entries (omega (arith, length-append old.entries grows.more, grows.within))
