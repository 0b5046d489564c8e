use Rattle.gx_geometry.proofs.Words.{FitsSigned, arith, ints, negsuc, pos, to_z-of_z, w128, ◌*ℤ◌, ◌^◌, ◌≤ℤ◌}
use Rattle.gx_geometry.proofs.Sides.{product_low, product_high, product_fits}
use Rattle.gx_geometry.proofs.polygons.wide_product.Goals as goal

pub returns-clause-low : goal.returns-clause-low
returns-clause-low c =
    let al : negsuc (2 ^ 31) ≤ℤ c.args.a = omega (arith, ints) in
    let ah : c.args.a ≤ℤ pos (2 ^ 31) = omega (arith, ints) in
    let f : FitsSigned w128 (c.args.a *ℤ c.args.minor) = product_fits c.args.a c.args.minor al ah c.requires.low c.requires.high in
    let low : negsuc (2 ^ 97) ≤ℤ (c.args.a *ℤ c.args.minor) = product_low c.args.a c.args.minor al ah c.requires.low c.requires.high in
    grind (arith, to_z-of_z)

pub returns-clause-high : goal.returns-clause-high
returns-clause-high c =
    let al : negsuc (2 ^ 31) ≤ℤ c.args.a = omega (arith, ints) in
    let ah : c.args.a ≤ℤ pos (2 ^ 31) = omega (arith, ints) in
    let f : FitsSigned w128 (c.args.a *ℤ c.args.minor) = product_fits c.args.a c.args.minor al ah c.requires.low c.requires.high in
    let high : (c.args.a *ℤ c.args.minor) ≤ℤ pos (2 ^ 97) = product_high c.args.a c.args.minor al ah c.requires.low c.requires.high in
    grind (arith, to_z-of_z)
