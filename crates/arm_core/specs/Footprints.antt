use Rattle.std.specs.Prelude.{ℕ, zero, suc, ◌+◌, ◌%◌, ◌^◌, List, [], ◌∷◌}
use Rattle.ds_base.specs.Accesses.{Access, Fetch, Read, Write}
use Rattle.ds_base.specs.Numbers.{aligned_down, width_bytes}

-- Which bytes of memory an instruction's accesses reach.

-- so many addresses from one on, modulo 2^32
abbrev pub span : ℕ → ℕ → List ℕ
span first zero = []
span first (suc length) = first % 2 ^ 32 ∷ span (first + 1) length

-- the addresses of an access's bytes: it is aligned
abbrev pub access_bytes : Access → List ℕ
access_bytes (Fetch at width) = span (aligned_down width at) (width_bytes width)
access_bytes (Read at width) = span (aligned_down width at) (width_bytes width)
access_bytes (Write at width value) = span (aligned_down width at) (width_bytes width)
