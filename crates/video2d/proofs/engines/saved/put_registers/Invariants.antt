use Rattle.video2d.proofs.Words.{bytes_written, engine_bytes, ports_format, zeroes, ◌*◌, ◌-◌, ◌≡◌, ◌≤◌}
use Rattle.video2d.proofs.SavedWalks.{registers_from}
use Rattle.video2d.proofs.engines.saved.put_registers.Given as goal

abbrev pub invariant-loop : goal.invariant-loop
invariant-loop l =
    record {
      bytes : bytes_written (registers_from l.fn.which (56 - l.counter) l.at (zeroes engine_bytes)) l.into l.ports
          ≡ bytes_written (ports_format l.fn.which) l.fn.into l.fn.ports;
      small : l.at ≤ 4 * l.counter;
    }
