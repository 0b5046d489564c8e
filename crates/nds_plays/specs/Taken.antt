use Rattle.std.specs.Prelude.{ℕ, ◌≡◌, ◌%◌, ◌^◌, List, length}
use Rattle.sha2.specs.Hashers.{Holds256}
use Rattle.nds_plays.specs.declared.hashes.HashSink.{HashSink}

-- a sink that counts and hashes stands for each list whose length is its count, modulo 2^64, and which its hasher holds (our choice)
pub record HasTaken (s : HashSink) (bytes : List ℕ) : Type 0 where
  pub count : s.count ≡ length bytes % 2 ^ 64
  pub hash : Holds256 s.hasher bytes
