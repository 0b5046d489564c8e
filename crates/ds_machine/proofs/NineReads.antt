use Rattle.ds_machine.proofs.Words.{Nine, NineReach, Tcm, Width, map_fetched, map_value, tcm_number, ℕ}

-- What ARM9 reads and fetches at an address, by the tightly coupled memory that answers there.

abbrev pub tcm_value : Tcm → NineReach → ℕ → Width → ℕ
tcm_value tcm r at width = tcm_number tcm r width (map_value Nine r.now r.map at width)

abbrev pub tcm_fetched : Tcm → NineReach → ℕ → Width → ℕ
tcm_fetched tcm r at width = tcm_number tcm r width (map_fetched Nine r.map at width)
