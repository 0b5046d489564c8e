use Rattle.video2d.proofs.Words.{ports_format, read_format, ◌*◌, ◌-◌, ◌≡◌, ◌≤◌}
use Rattle.video2d.proofs.SavedWalks.{registers_from}
use Rattle.video2d.proofs.engines.saved.take_registers.Given as goal

abbrev pub invariant-loop : goal.invariant-loop
invariant-loop l =
    record {
      reads : read_format (registers_from l.fn.which (56 - l.counter) l.place l.ports) l.fn.at.0 l.from
          ≡ read_format (ports_format l.fn.which) l.fn.at.0 l.fn.from;
      small : l.place ≤ 4 * l.counter;
    }
