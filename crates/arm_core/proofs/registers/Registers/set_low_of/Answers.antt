use Rattle.std.proofs.Common.{rules, ◌≢◌, sym, ◌∙◌, arith}
use Rattle.arm_core.specs.Registers.{place}
use Rattle.arm_core.proofs.Presents.{put_hidden}
use Rattle.arm_core.proofs.registers.Registers.set_low_of.Goals as goal

pub returns-else-place : goal.returns-else-place
returns-else-place c =
    let i = c.self.inside in
    let ne : place c.args.bank c.args.r ≢ place i.bank c.args.r = λ e. c.if-place.false (c.place-place.ensures.place ∙ e ∙ sym c.place.ensures.place) in
    let k = put_hidden c.args.bank i.bank 15 c.args.r c.args.value i.present i.store (omega arith) c.requires ne in
    search (rules, k)
