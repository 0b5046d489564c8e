use Rattle.video2d.proofs.Words.{length, pixel_format, read_format, read_list, ◌-◌, ◌≡◌}
use Rattle.ds_state.specs.Loops.{with_front}
use Rattle.video2d.proofs.screens.saved.take_pixels.Given as goal

abbrev pub invariant-loop : goal.invariant-loop
invariant-loop l =
    let reader = read_format pixel_format l.fn.at.0 in
    record {
      reads : with_front l.pixels.items (read_list reader (l.fn.count - l.counter) l.from) ≡ read_list reader l.fn.count l.fn.from;
      long : length l.pixels.items ≡ l.counter;
    }
