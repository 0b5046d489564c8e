use Rattle.gx_fifo.proofs.Words.{FifoState, Some, [], ap, arith, command_row, false, first_command, length, length-append, most_entries, nat_le}
use Rattle.gx_fifo.proofs.Words.{packed_commands, with_word, ◌++◌, ◌+◌, ◌/◌, ◌^◌, ◌∙◌, ◌∷◌, ◌≡◌, ◌≤◌}
use Rattle.gx_fifo.proofs.Growing.{still_given}
use Rattle.gx_fifo.proofs.Unpacks.{room_behind}
use Rattle.gx_fifo.proofs.packed.Fifo.take_parameter.Goals as goal

pub invariant_of-self : goal.invariant_of-self
invariant_of-self c =
    let room = ap (λ (s : FifoState). length s.entries) c.self.view_is in
    let long = length-append c.self.inside.entries (with_word c.args.command c.args.word ∷ []) in
    (c.self.invariant.0, c.self.invariant.1, c.self.invariant.2, rw c.add.ensures (omega (arith, room, long, c.requires.room)))

pub take_packed-requires : goal.take_packed-requires
take_packed-requires c =
    let room = ap (λ (s : FifoState). length s.entries) c.self.view_is in
    let long = length-append c.self.inside.entries (with_word c.args.command c.args.word ∷ []) in
    let few : length c.self.inside.entries + 4 ≤ most_entries = omega (arith, room, c.requires.room) in
    let behind = room_behind c.take_packed.inside.packed (length c.self.inside.entries) most_entries c.take_packed.invariant.0 few in
    let all : length (c.self.inside.entries ++ with_word c.args.command c.args.word ∷ [])
    + length (packed_commands (c.take_packed.inside.packed / 2 ^ 8)) ≤ most_entries =
    omega (arith, long, behind) in
    record { room = rw c.add.ensures all }

pub invariant_of-self-else-parameters-self : goal.invariant_of-self-else-parameters-self
invariant_of-self-else-parameters-self c =
    let room = ap (λ (s : FifoState). length s.entries) c.self.view_is in
    let long = length-append c.self.inside.entries (with_word c.args.command c.args.word ∷ []) in
    let first : first_command c.self.inside.packed ≡ Some c.args.command =
    ap (λ (s : FifoState). first_command s.packed) c.self.view_is ∙ c.requires.first in
    let more : nat_le (command_row c.args.command).parameters (c.self.inside.given + 1) ≡ false =
    grind (arith, c.if-parameters-self.false, c.parameters.ensures.value) in
    let given = still_given c.args.command c.self.inside.packed c.self.inside.given first more in (
      c.self.invariant.0,
      grind (arith, more, c.parameters.ensures.value, c.parameters.ensures.within),
      given,
      rw c.add.ensures (omega (arith, room, long, c.requires.room)),
    )
