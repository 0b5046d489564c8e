use Rattle.ds_map.proofs.Words.{IoState, MapState, None, Option, Place, Proc, Some, Stop, Tick, Vram, Width, after_read_at, aligned_down, either}
use Rattle.ds_map.proofs.Words.{io_of, is_byte_of_nine, map_read, map_written, place_of, port_refusal, port_written, refl, takes_no_bytes}
use Rattle.ds_map.proofs.Words.{unless_stopped, vram_written, written_at, ℕ, ◌&&◌}
use Rattle.ds_places.specs.declared.kinds.Place.TheVariants as place
use Rattle.ds_ports.specs.HappeningLaws.{Goes, IsProcessorIo, HasOnlyLaterEvents}
use Rattle.ds_ports.proofs.Later.{ReadLeaves, all_left, goes_nowhere, leaves_all, port_leaves, read_goes, write_goes}
use Rattle.vram_banks.specs.Cells.{Banks}

-- What accesses past the tightly coupled memories at a tick make of the units behind the ports.

-- ---- reads

place_leaves : (proc : Proc) (now : Tick) (where_ : Place) (m : MapState) (width : Width) → ReadLeaves proc now m.io (after_read_at proc now where_ m width).io
place_leaves proc now (place.Cell memory at) m width = all_left proc now m.io
place_leaves proc now (place.Banks space at) m width = all_left proc now m.io
place_leaves proc now (place.Port at) m width = port_leaves proc now m.io (aligned_down width at) width
place_leaves proc now (place.Rom at) m width = all_left proc now m.io
place_leaves proc now place.Nothing m width = all_left proc now m.io

-- what a read of the map leaves
pub map_read_leaves : (proc : Proc) (now : Tick) (m : MapState) (at : ℕ) (width : Width) → ReadLeaves proc now m.io (map_read proc now m at width).io
unfolding map_read
map_read_leaves proc now m at width = place_leaves proc now (place_of proc m.io.wramcnt at) m width

-- ---- writes

module _ (proc : Proc) (now : Tick) where
  -- other bytes in video memory
  banks_go : (u : IoState) (vram : Banks) → Goes proc now u u → Goes proc now u (record u { vram = vram })
  banks_go u vram g = record { is = g.is; quiet = g.quiet; each = g.each; other = g.other; told = g.told; scan = g.scan; whole = g.whole; geometry = leaves_all proc u (record u { vram = vram }) refl refl; card = g.card }

  module _ (m : MapState) (is : IsProcessorIo (io_of m.io proc)) (quiet : HasOnlyLaterEvents now (io_of m.io proc)) where
    stays : Goes proc now m.io m.io
    stays = goes_nowhere proc now m.io is quiet

    put_goes : (refusal : Option Stop) (written : IoState) → Goes proc now m.io written → Goes proc now m.io (unless_stopped refusal m.io written)
    put_goes None written g = g
    put_goes (Some stop) written g = stays

    place_goes : (where_ : Place) (width : Width) (value : ℕ) → Goes proc now m.io (written_at proc now where_ m width value).io
    place_goes (place.Cell memory at) width value = stays
    place_goes (place.Banks space at) width value =
        let vram = vram_written m.io.vram space at width value in
        either (λ (x : MapState). Goes proc now m.io x.io) (is_byte_of_nine proc width && takes_no_bytes Vram) m (record m { io = record m.io { vram = vram } }) stays (banks_go m.io vram stays)
    place_goes (place.Port at) width value =
        let down = aligned_down width at in
        put_goes (port_refusal proc m.io down width value) (port_written proc now m.io down width value) (write_goes proc now m.io down width value is quiet)
    place_goes (place.Rom at) width value = stays
    place_goes place.Nothing width value = stays

    pub map_write_goes : (at : ℕ) (width : Width) (value : ℕ) → Goes proc now m.io (map_written proc now m at width value).io
    unfolding map_written
    map_write_goes at width value = place_goes (place_of proc m.io.wramcnt at) width value

    pub map_read_goes : (at : ℕ) (width : Width) → Goes proc now m.io (map_read proc now m at width).io
    map_read_goes at width = read_goes proc now m.io (map_read proc now m at width).io is quiet (map_read_leaves proc now m at width)
