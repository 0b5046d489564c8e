use Rattle.gx_geometry.proofs.Words.{ap, ◌≡◌}
use Rattle.gx_geometry.specs.States.{GeometryState}
use Rattle.gx_geometry.proofs.Growing.{open_lists}
use Rattle.gx_geometry.proofs.engine.Geometry.swap.Goals as goal

pub returns-clause-lists : goal.returns-clause-lists
returns-clause-lists c =
    let vertices : c.self.inside.outcome.vertices ≡ c.args.self.now.outcome.vertices = ap (λ (g : GeometryState). g.outcome.vertices) c.self.view_is in
    let polygons : c.self.inside.outcome.polygons ≡ c.args.self.now.outcome.polygons = ap (λ (g : GeometryState). g.outcome.polygons) c.self.view_is in
    rw (c.swap.ensures.taken, vertices, polygons) (open_lists c.args.self.now)
