use Rattle.std.specs.Prelude.{ℕ, ◌==◌, if◌then◌else◌, List, replicate}

-- how many numbers of so many bits a cache keeps (our choice). No public call speaks of it
abbrev pub places_of : ℕ → ℕ
places_of bits = if bits == 16 then 32768 else 16384

-- those that it keeps at first, by their places
unfoldable pub kept_at_start : ℕ → List ℕ
kept_at_start bits = replicate (places_of bits) 0
