use Rattle.gx_geometry.proofs.Words.{ap, subst, sym, ◌∙◌}
use Rattle.gx_geometry.specs.States.{GeometryState, IsOverflowSince}
use Rattle.gx_geometry.specs.declared.results.Results.{Results}
use Rattle.gx_geometry.proofs.Growing.{open_lists}
use Rattle.gx_geometry.proofs.Overflows.{open_overflow}
use Rattle.gx_geometry.proofs.engine.Geometry.results.Goals as goal

pub returns-clause-lists : goal.returns-clause-lists
returns-clause-lists c = open_lists c.args.self.now

pub returns-clause-overflow : goal.returns-clause-overflow
returns-clause-overflow c =
    let flag = ap (λ (r : Results). r.overflow) c.results.ensures.value ∙ ap (λ (g : GeometryState). g.outcome.overflow) c.self.view_is in
    subst (IsOverflowSince c.args.self.now) (sym flag) (open_overflow c.args.self.now)
