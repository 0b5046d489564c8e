use Rattle.gx_geometry.proofs.Words.{HaveColours, length, read_format, read_list, vertex_format, with_front, ◌-◌, ◌≡◌}
use Rattle.gx_geometry.proofs.lists.saved.take_vertices.Given as goal

abbrev pub invariant-loop : goal.invariant-loop
invariant-loop l =
    let reader = read_format vertex_format l.fn.at in
    record {
      reads : with_front l.vertices (read_list reader (l.fn.count - l.counter) l.from) ≡ read_list reader l.fn.count l.fn.from;
      long : length l.vertices ≡ l.counter;
      have : HaveColours l.vertices;
    }
