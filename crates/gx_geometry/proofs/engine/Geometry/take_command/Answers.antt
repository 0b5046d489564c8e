use Rattle.gx_geometry.proofs.Words.{sym}
use Rattle.gx_geometry.proofs.Parameters.{runs_on}
use Rattle.gx_geometry.proofs.Recent.{told_given, told_kept}
use Rattle.gx_geometry.proofs.engine.Geometry.take_command.Goals as goal

pub arrive-requires-clause-run : goal.arrive-requires-clause-run
arrive-requires-clause-run c = runs_on c.args.command c.args.params.now _ _ (sym c.if-gives_vertex.ensures) c.renew.ensures.value

pub invariant_of-self : goal.invariant_of-self
invariant_of-self c = (
  c.renew.ensures.small c.self.invariant.0,
  c.self.invariant.1,
  told_given c.args.command c.args.params.now _ _ _ _ _ (sym c.if-gives_vertex.ensures) c.renew.ensures.value c.test.ensures c.arrive.ensures c.self.invariant.2,
)

pub invariant_of-self-else-gives_vertex : goal.invariant_of-self-else-gives_vertex
invariant_of-self-else-gives_vertex c = (
  c.renew.ensures.small c.self.invariant.0,
  c.self.invariant.1,
  told_kept c.args.command c.args.params.now _ _ _ _ (sym c.if-gives_vertex.ensures) c.renew.ensures.value c.test.ensures c.self.invariant.2,
)
