-- A shelf and a sink in memory whose calls fail by number.
use Rattle.std.specs.Prelude.{ℕ, List, [], true, if◌then◌else◌}
use Rattle.ds_io.specs.Kept.{KeptBytes}
use Rattle.ds_io.specs.Numbered.{Numbered, called, fails_now}
use Rattle.ds_io.specs.Shelves.{Told}

pub record FailingShelf : Type 0 where
  pub told : Told
  pub calls : Numbered

-- the sink takes so many bytes a call at most
pub record FailingSink : Type 0 where
  pub kept : KeptBytes
  pub calls : Numbered
  pub most : ℕ

-- one that has taken nothing yet
abbrev pub empty_sink : (fails : List ℕ) → (room most : ℕ) → FailingSink
empty_sink fails room most =
    record { kept = record { bytes = []; room = room; told = true }; calls = record { fails = fails; made = 0 }; most = most }

-- a call of a shelf, and what is told after it where it doesn't fail; a call that fails leaves what is told
abbrev pub shelf_called : FailingShelf → Told → FailingShelf
shelf_called s done = record { told = (if fails_now (called s.calls) then s.told else done); calls = called s.calls }

-- a call of a sink, likewise
abbrev pub sink_called : FailingSink → KeptBytes → FailingSink
sink_called s done = record { kept = (if fails_now (called s.calls) then s.kept else done); calls = called s.calls; most = s.most }
