use Rattle.std.proofs.Common.{◌≡◌, ◌%◌, ◌==◌, not, arith, sym, ◌∙◌, ap}
use Rattle.arm_words.proofs.Rotations.{least_by_room, not_least}
use Rattle.arm_words.proofs.canonicals.is_least.Goals as goal
use Rattle.arm_words.proofs.canonicals.is_least.Goals.{in-13, in-14, in-0-to-12, in_default}

pub returns-then-immed-ne0 : goal.returns-then-immed-ne0
returns-then-immed-ne0 c =
    elim c.match-rotate.branch [
      | in-13 w ↦ least_by_room c.args.rotate c.args.immed c.match-rotate.room (omega arith) (omega arith) (omega arith) (omega arith)
          (λ h. omega arith) (λ h. omega arith) (λ h. omega arith) (λ h. omega arith)
      | in-14 w ↦ least_by_room c.args.rotate c.args.immed c.match-rotate.room (omega arith) (omega arith) (omega arith) (omega arith)
          (λ h. omega arith) (λ h. omega arith) (λ h. omega arith) (λ h. omega arith)
      | in-0-to-12 w ↦ least_by_room c.args.rotate c.args.immed c.match-rotate.room (omega arith) (omega arith) (omega arith) (omega arith)
          (λ h. omega arith) (λ h. omega arith) (λ h. omega arith) (λ h. omega arith)
      | in_default w ↦ least_by_room c.args.rotate c.args.immed c.match-rotate.room (omega arith) (omega arith) (omega arith) (omega arith)
          (λ h. omega arith) (λ h. omega arith) (λ h. omega arith) (λ h. omega arith)
    ]

pub returns-else-immed-ne0 : goal.returns-else-immed-ne0
returns-else-immed-ne0 c =
    let low : c.args.immed % 4 ≡ 0 = omega arith in
    ap (λ n. not (n == 0)) low ∙ sym (not_least c.args.rotate c.args.immed (omega arith) (omega arith) (omega arith) low)
