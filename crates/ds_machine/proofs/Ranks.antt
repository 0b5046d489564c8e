use Rattle.ds_machine.proofs.Words.{Geometry, Nine, Proc, Processor, Seven, actor_of, actors_differ, arith, geometry_rank, inl, inr, rank_of}
use Rattle.ds_machine.proofs.Words.{same_or_not, ℕ, ◌<◌, ◌≡◌}

-- An actor has one rank.

only_rank : (rank other : ℕ) → rank < 24 → other < 24 → actor_of other ≡ actor_of rank → other ≡ rank
only_rank rank other have has same = elim (same_or_not other rank) [ inl is ↦ is | inr ne ↦ absurd (actors_differ rank other have has ne same) ]

pub geometry_ranked : (rank : ℕ) → rank < 24 → actor_of rank ≡ Geometry → rank ≡ geometry_rank
geometry_ranked rank lt is = only_rank geometry_rank rank (omega arith) lt is

pub processor_ranked : (proc : Proc) (rank : ℕ) → rank < 24 → actor_of rank ≡ Processor proc → rank ≡ rank_of proc
processor_ranked Nine rank lt is = only_rank (rank_of Nine) rank (omega arith) lt is
processor_ranked Seven rank lt is = only_rank (rank_of Seven) rank (omega arith) lt is
