use Rattle.std.proofs.Common.{◌≡◌, drop}
use Rattle.ds_io.specs.Shelves.{file_of}
use Rattle.ds_io.proofs.files.Files.position.Given as goal

abbrev pub invariant-loop-i : goal.invariant-loop-i
invariant-loop-i l = file_of (drop l.i l.self) l.name ≡ file_of l.self l.name
