use Rattle.gx_geometry.proofs.Words.{bytes_written, geometry_parts, rules, sym, ◌∙◌, ◌≡◌}
use Rattle.gx_geometry.proofs.SavedParts.{geometry_writes}
use Rattle.gx_geometry.proofs.engine.Geometry.pack.Goals as goal

pub returns : goal.returns
unfolding geometry_parts
returns c =
    let parts : c.pack-2.new.into ≡ bytes_written geometry_parts c.args.into.now c.args.self.now = search rules in
    parts ∙ sym (geometry_writes c.args.into.now c.args.self.now)
