use Rattle.gx_geometry.proofs.Words.{HavePalettes, HaveShapes, length, polygon_format, read_format, read_list, with_front, ◌-◌, ◌≡◌}
use Rattle.gx_geometry.proofs.lists.saved.take_polygons.Given as goal

abbrev pub invariant-loop : goal.invariant-loop
invariant-loop l =
    let reader = read_format polygon_format l.fn.at in
    record {
      reads : with_front l.polygons (read_list reader (l.fn.count - l.counter) l.from) ≡ read_list reader l.fn.count l.fn.from;
      long : length l.polygons ≡ l.counter;
      have : HavePalettes l.polygons;
      shapes : HaveShapes l.polygons;
    }
