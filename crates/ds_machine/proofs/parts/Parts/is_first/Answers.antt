use Rattle.ds_machine.proofs.Words.{arith, ◌∙◌, ◌≡◌}
use Rattle.ds_machine.proofs.FenceFirsts.{least_where, rank_where}
use Rattle.ds_machine.proofs.parts.Parts.is_first.Goals as goal

pub returns : goal.returns
returns c =
    let s = c.args.self.now in
    let rank = c.rank_of.ensures in (
      λ h. least_where s c.args.proc c.acting.result c.args.tick c.acting.ensures c.requires
          ((let e : c.acting.result.rank ≡ c.rank_of.result = grind (arith, h) in e) ∙ rank),
      λ k. (let e = rank_where s c.args.proc c.acting.result c.args.tick c.acting.ensures k in grind (arith, e, rank)),
    )
