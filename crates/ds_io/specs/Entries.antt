use Rattle.std.specs.Prelude.{[]}
use Rattle.std.specs.String.{string_bytes}
use Rattle.ds_io.specs.Shelves.{Named}
use Rattle.ds_io.specs.declared.files.Entry.{Entry}

-- the file of an entry
abbrev pub entry_file : Entry → Named
entry_file e = record { name = string_bytes e.name; bytes = e.bytes.items }

-- no file
abbrev pub no_file : Named
no_file = record { name = []; bytes = [] }
