use Rattle.ds_machine.proofs.Words.{List, MachineState, Nine, ap, arith, length, length-take-le, sym, take, ℕ, ◌+◌, ◌∙◌, ◌≡◌, ◌≤◌}
use Rattle.ds_machine.proofs.Booting.{copied_io}
use Rattle.ds_machine.proofs.parts.Parts.copy_header.Goals as goal

front : (xs : List ℕ) → 512 ≤ length xs → length (take 368 xs) ≡ 368
front xs long = length-take-le 368 xs (omega arith)

in_main : (n : ℕ) → n ≡ 368 → 41942528 + n ≤ 67108864
in_main n e = omega (arith, e)

pub slice_bounds-copy-end : goal.slice_bounds-copy-end
slice_bounds-copy-end c = sym (front c.bytes-file.result.now c.bytes-file.ensures.long)

pub copy-requires-clause-high : goal.copy-requires-clause-high
copy-requires-clause-high c = in_main (length (take 368 c.bytes-file.result.now)) (front c.bytes-file.result.now c.bytes-file.ensures.long)

pub returns-clause-units : goal.returns-clause-units
returns-clause-units c =
    ap (λ (s : MachineState). s.io) c.copy.ensures
    ∙ copied_io Nine c.args.self.now 41942528 (take 368 c.bytes-file.result.now) (omega arith)
    (in_main (length (take 368 c.bytes-file.result.now)) (front c.bytes-file.result.now c.bytes-file.ensures.long))
