use Rattle.ds_machine.proofs.Words.{Bool, GoesFast, WentOn, subst, sym}
use Rattle.ds_machine.proofs.parts.Parts.go_fast.Goals as goal

pub go_masked-requires-clause-goes : goal.go_masked-requires-clause-goes
go_masked-requires-clause-goes c = subst (λ (b : Bool). GoesFast c.args.until.0 c.args.proc c.args.end c.args.limit b c.args.self.now) c.if-up.true c.requires.goes

pub returns-then-up-clause-went : goal.returns-then-up-clause-went
returns-then-up-clause-went c =
    subst (λ (b : Bool). WentOn c.args.until.0 c.args.proc c.args.end c.args.limit b c.args.self.now c.go_masked.new.self) (sym c.if-up.true) c.go_masked.ensures.went

pub go_both-requires-clause-goes : goal.go_both-requires-clause-goes
go_both-requires-clause-goes c = subst (λ (b : Bool). GoesFast c.args.until.0 c.args.proc c.args.end c.args.limit b c.args.self.now) c.if-up.false c.requires.goes

pub returns-clause-went : goal.returns-clause-went
returns-clause-went c =
    subst (λ (b : Bool). WentOn c.args.until.0 c.args.proc c.args.end c.args.limit b c.args.self.now c.go_both.new.self) (sym c.if-up.false) c.go_both.ensures.went
