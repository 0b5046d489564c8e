use Rattle.ds_map.proofs.Words.{DmaState, DmaUnit, IoState, IsSome, MapState, Nine, None, Option, Place, Proc, Seven, Some, Stop, Tick, Width}
use Rattle.ds_map.proofs.Words.{aligned_down, ap, before_move, channel_moved, channel_put_back, dma_due, io_of, map_after_unit, map_read, map_refusal}
use Rattle.ds_map.proofs.Words.{map_value, map_written, place_of, port_refusal, port_written, refl, refusal_at, subst, sym, true≢false, unit_read}
use Rattle.ds_map.proofs.Words.{unit_refusal, unit_taken, unit_waits, unless_stopped, written_at, ℕ, ◌∙◌, ◌≡◌}
use Rattle.ds_places.specs.declared.kinds.Place.TheVariants as place
use Rattle.ds_map.proofs.Later.{map_read_leaves}

-- A channel's unit: it is still due after its read, and where its write is refused all is as it was after the read.

pub still_due : (proc : Proc) (now : Tick) (m : MapState) (at : ℕ) (width : Width) → IsSome (dma_due (io_of m.io proc).dma)
    → IsSome (dma_due (io_of (map_read proc now m at width).io proc).dma)
still_due proc now m at width h = subst (λ (d : DmaState). IsSome (dma_due d)) (sym ((map_read_leaves proc now m at width).processor_io proc).dma) h

-- a write that is refused leaves all
stop_leaves : (refused : Option Stop) (u written : IoState) → IsSome refused → unless_stopped refused u written ≡ u
stop_leaves None u written h = absurd (true≢false (sym h))
stop_leaves (Some stop) u written h = refl

place_refuses : (proc : Proc) (now : Tick) (where_ : Place) (m : MapState) (width : Width) (value : ℕ) → IsSome (refusal_at proc where_ m width value)
    → written_at proc now where_ m width value ≡ m
place_refuses proc now (place.Cell memory at) m width value h = absurd (true≢false (sym h))
place_refuses proc now (place.Banks space at) m width value h = absurd (true≢false (sym h))
place_refuses proc now (place.Port at) m width value h =
    let down = aligned_down width at in
    ap (λ (u : IoState). (let left : MapState = record m { io = u } in left))
    (stop_leaves (port_refusal proc m.io down width value) m.io (port_written proc now m.io down width value) h)
place_refuses proc now (place.Rom at) m width value h = absurd (true≢false (sym h))
place_refuses proc now place.Nothing m width value h = absurd (true≢false (sym h))

refused_leaves : (proc : Proc) (now : Tick) (m : MapState) (at : ℕ) (width : Width) (value : ℕ) → IsSome (map_refusal proc m at width value) → map_written proc now m at width value ≡ m
unfolding map_refusal map_written
refused_leaves proc now m at width value h = place_refuses proc now (place_of proc m.io.wramcnt at) m width value h

-- where a move is taken back, the units are again as they were
taken_back : (proc : Proc) (now : Tick) (waits : ℕ) (u : IoState) → channel_put_back proc (before_move (io_of u proc)) (channel_moved proc now waits u) ≡ u
taken_back Nine now waits u = refl
taken_back Seven now waits u = refl

left_by_stop : (refused : Option Stop) (proc : Proc) (now : Tick) (unit : DmaUnit) (m : MapState) → IsSome refused → map_after_unit refused proc now unit m ≡ unit_read proc now unit m
left_by_stop None proc now unit m h = absurd (true≢false (sym h))
left_by_stop (Some stop) proc now unit m h = refl

pub put_back_is : (proc : Proc) (now : Tick) (unit : DmaUnit) (m written : MapState) → IsSome (unit_refusal proc now unit m)
    → written ≡ map_written proc now (unit_taken proc now unit m) unit.to unit.width (map_value proc now m unit.from unit.width)
    → (let back : MapState = record written { io = channel_put_back proc (before_move (io_of (unit_read proc now unit m).io proc)) written.io } in back)
    ≡ map_after_unit (unit_refusal proc now unit m) proc now unit m
put_back_is proc now unit m written h w =
    let read = unit_read proc now unit m in
    let stays = w ∙ refused_leaves proc now (unit_taken proc now unit m) unit.to unit.width (map_value proc now m unit.from unit.width) h in
    ap (λ (x : MapState). (let back : MapState = record x { io = channel_put_back proc (before_move (io_of read.io proc)) x.io } in back)) stays
    ∙ ap (λ (u : IoState). (let back : MapState = record read { io = u } in back)) (taken_back proc now (unit_waits proc now unit m) read.io)
    ∙ sym (left_by_stop (unit_refusal proc now unit m) proc now unit m h)
