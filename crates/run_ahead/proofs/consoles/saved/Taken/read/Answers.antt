use Rattle.run_ahead.proofs.Words.{Err, Left, Unpacked, ap, arith, slice_index, subst, sym, with_file, ℕ, ◌<◌, ◌≡◌}
use Rattle.run_ahead.specs.Saved.{FailsState, console_of, read_state}
use Rattle.run_ahead.specs.declared.consoles.saved.Taken.{Taken}
use Rattle.run_ahead.proofs.SavedStates.{bytes_behind_head, hands_on, left_over}
use Rattle.run_ahead.proofs.consoles.saved.Taken.read.Goals as goal

pub unpack-requires-2-clause-bytes : goal.unpack-requires-2-clause-bytes
unpack-requires-2-clause-bytes c =
    let are = subst (λ (l : Left). (i : ℕ) → slice_index l.bytes i < 256) (sym c.new-from.ensures) c.are_bytes.ensures in
    bytes_behind_head c.args.digest.now c.args.until.0 c.new-from.result c.unpack.new.from c.in_ok-head.head are c.in_ok-head.ensures.reads

pub returns-clause-goes : goal.returns-clause-goes
returns-clause-goes c =
    let fewer = c.in_ok-head.ensures.fewer in
    let counts = c.saved_laws.ensures.counts _ _ _ _ _ _ _ _ _ c.in_ok-machine.ensures.reads in
    let nine = counts.0 in
    let seven = counts.1 in
    let events = counts.2 in
    (c.in_ok-head.ensures.below, c.in_ok-machine.ensures.running, omega (arith, fewer, nine, seven, events))

pub returns-in_err-take_end-clause-state : goal.returns-in_err-take_end-clause-state
returns-in_err-take_end-clause-state c =
    let start = ap (λ (l : Left). l.place) c.new-from.ensures in
    let left = c.in_err-take_end.ensures.left in
    let read_machine = with_file c.args.file.now c.in_ok-machine.machine in
    let told = left_over c.args.digest.now c.args.until.0 c.args.file.now c.args.keys c.new-from.result c.unpack.new.from c.unpack-2.new.from
    c.in_ok-head.head read_machine start c.in_ok-head.ensures.reads c.in_ok-machine.ensures.reads left.1 in
    let read =
    subst (λ (l : Left). read_state c.args.digest.now c.args.until.0 c.args.file.now c.args.keys l.bytes ≡ Err c.unpack-2.new.from.place)
    c.new-from.ensures told in
    let now = read_state c.args.digest.now c.args.until.0 c.args.file.now c.args.keys c.args.bytes.now in
    let fails = subst (λ (e : Unpacked). FailsState e now) (sym left.0) read in
    hands_on (λ (taken : Taken). console_of taken.head (with_file c.args.file.now taken.machine)) c.from_residual-in_err-take_end.result
    c.in_err-take_end.field-0.0 now c.from_residual-in_err-take_end.ensures.1 fails
