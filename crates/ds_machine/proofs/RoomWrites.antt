use Rattle.ds_machine.proofs.Words.{AreWaiting, Byte, Dmacnt, GxState, Half, Haltcnt, IoState, IsSlot, MapState, Nine, None, Option, Place, Proc}
use Rattle.ds_machine.proofs.Words.{ProcessorIoState, Register, Seven, Some, Stop, Tick, Vram, Width, Word, after_write, aligned_down, are_all, arith}
use Rattle.ds_machine.proofs.Words.{either, gx_set, is_byte_of_nine, map_written, most_entries, place_of, refl, some_slot, subst, sym, takes_no_bytes}
use Rattle.ds_machine.proofs.Words.{vram_written, waiting_entries, width_bytes, with_io_of, write_leaves, written_at, written_waiting, ℕ, ◌%◌, ◌&&◌}
use Rattle.ds_machine.proofs.Words.{◌+◌, ◌∙◌, ◌≡◌, ◌≤◌}
use Rattle.ds_ports.specs.Ports.{port_refusal, port_written, unless_stopped}
use Rattle.ds_places.specs.declared.kinds.Place.TheVariants as place
use Rattle.ds_ports.specs.declared.registers.Register.TheVariants.{GxWord, GxCommand, Dmasad, Dmadad, TmcntL, TmcntH, Keycnt, Ime, Ie, If}
use Rattle.ds_ports.proofs.Grows.{write_grows}
use Rattle.ds_ports.proofs.GxPorts.{written_longer}

-- What a write makes of geometry.

own_leaves : (proc : Proc) (u : IoState) (processor_io : ProcessorIoState) → (with_io_of proc u processor_io).gx ≡ u.gx
own_leaves Nine u processor_io = refl
own_leaves Seven u processor_io = refl

-- ---- what each write of one of its registers makes of it, a write of any port makes

module _ (proc : Proc) (now : Tick) (R : GxState → GxState → Type 0) (same : (g : GxState) → R g g) (joins : (a b c : GxState) → R a b → R b c → R a c)
    (set : (u : IoState) (number value : ℕ) → R u.gx (gx_set proc now u number value).gx) where
  own : (u : IoState) (processor_io : ProcessorIoState) → R u.gx (with_io_of proc u processor_io).gx
  own u processor_io = subst (R u.gx) (sym (own_leaves proc u processor_io)) (same u.gx)

  register_makes : (u : IoState) (register : Register) (number value : ℕ) → R u.gx (after_write proc now u register number value).gx
  register_makes u GxWord number value = set u number value
  register_makes u GxCommand number value = set u number value
  register_makes u Dmasad number value = own u _
  register_makes u Dmadad number value = own u _
  register_makes u Dmacnt number value = own u _
  register_makes u TmcntL number value = own u _
  register_makes u TmcntH number value = own u _
  register_makes u Keycnt number value = own u _
  register_makes u Ime number value = own u _
  register_makes u Ie number value = own u _
  register_makes u If number value = own u _
  register_makes u Haltcnt number value = own u _
  register_makes u _ number value = same u.gx

  port_makes : (u : IoState) (at : ℕ) (width : Width) (value : ℕ) → R u.gx (port_written proc now u at width value).gx
  port_makes u at width value =
      write_leaves IsSlot proc now (λ x y. R x.gx y.gx) (λ x. same x.gx) (λ x y z. joins x.gx y.gx z.gx)
      (λ x slot word own. register_makes x slot.register slot.number word) u at width value (are_all IsSlot proc (some_slot proc) at width)

-- ---- and so does a write of the map

aligned_even : (width : Width) (at : ℕ) → aligned_down width at % width_bytes width ≡ 0
aligned_even Byte at = omega arith
aligned_even Half at = omega arith
aligned_even Word at = omega arith

module _ (proc : Proc) (now : Tick) (R : GxState → GxState → Type 0) (same : (g : GxState) → R g g)
    (port : (u : IoState) (at : ℕ) (width : Width) (value : ℕ) → at % width_bytes width ≡ 0 → R u.gx (port_written proc now u at width value).gx) where
  unless_makes : (u v : IoState) (refusal : Option Stop) → R u.gx v.gx → R u.gx (unless_stopped refusal u v).gx
  unless_makes u v None h = h
  unless_makes u v (Some stop) h = same u.gx

  place_makes : (m : MapState) (where_ : Place) (width : Width) (value : ℕ) → R m.io.gx (written_at proc now where_ m width value).io.gx
  place_makes m (place.Cell memory at) width value = same m.io.gx
  place_makes m (place.Banks space at) width value =
      let banks : MapState = record m { io = record m.io { vram = vram_written m.io.vram space at width value } } in
      either (λ (x : MapState). R m.io.gx x.io.gx) (is_byte_of_nine proc width && takes_no_bytes Vram) m banks (same m.io.gx) (same m.io.gx)
  place_makes m (place.Port at) width value =
      let down = aligned_down width at in
      unless_makes m.io (port_written proc now m.io down width value) (port_refusal proc m.io down width value)
      (port m.io down width value (aligned_even width at))
  place_makes m (place.Rom at) width value = same m.io.gx
  place_makes m place.Nothing width value = same m.io.gx

  map_makes : (m : MapState) (at : ℕ) (width : Width) (value : ℕ) → R m.io.gx (map_written proc now m at width value).io.gx
  unfolding map_written
  map_makes m at width value = place_makes m (place_of proc m.io.wramcnt at) width value

-- ---- ARM9's: no entry leaves, what waits is still as it can be where there is room for it, and four more wait at most

abbrev Waits : GxState → GxState → Type 0
Waits old new = (waiting_entries old ≤ waiting_entries new) × (waiting_entries new ≤ most_entries → AreWaiting old → AreWaiting new)

waits_still : (g : GxState) → Waits g g
waits_still g = (omega arith, λ room w. w)

waits_on : (a b c : GxState) → Waits a b → Waits b c → Waits a c
waits_on a b c h k =
    let more = h.0 in let most = k.0 in (omega (arith, more, most), λ room w. k.1 room (h.1 (omega (arith, room, most)) w))

set_waits : (now : Tick) (u : IoState) (number value : ℕ) → Waits u.gx (gx_set Nine now u number value).gx
set_waits now u number value = (written_longer u.gx number value now, written_waiting u.gx number value now)

pub record GrowsByFour (old new : GxState) : Type 0 where
  pub waiting : waiting_entries new ≤ most_entries → AreWaiting old → AreWaiting new
  pub entries : AreWaiting old → waiting_entries new ≤ waiting_entries old + 4

pub no_growth : (g : GxState) → GrowsByFour g g
no_growth g = record { waiting = λ room w. w; entries = λ w. omega arith }

port_grows : (now : Tick) (u : IoState) (at : ℕ) (width : Width) (value : ℕ) → at % width_bytes width ≡ 0
    → GrowsByFour u.gx (port_written Nine now u at width value).gx
port_grows now u at width value even = record {
  waiting = (port_makes Nine now Waits waits_still waits_on (set_waits now) u at width value).1;
  entries = write_grows Nine now u at width value even;
}

pub nine_grows : (now : Tick) (m : MapState) (at : ℕ) (width : Width) (value : ℕ) → GrowsByFour m.io.gx (map_written Nine now m at width value).io.gx
nine_grows now m at width value = map_makes Nine now GrowsByFour no_growth (port_grows now) m at width value

-- ---- ARM7's leave geometry as it is

abbrev Stays : GxState → GxState → Type 0
Stays old new = new ≡ old

port_stays : (now : Tick) (u : IoState) (at : ℕ) (width : Width) (value : ℕ) → at % width_bytes width ≡ 0
    → Stays u.gx (port_written Seven now u at width value).gx
port_stays now u at width value even = port_makes Seven now Stays (λ g. refl) (λ a b c h k. k ∙ h) (λ v n w. refl) u at width value

pub seven_stays : (now : Tick) (m : MapState) (at : ℕ) (width : Width) (value : ℕ) → (map_written Seven now m at width value).io.gx ≡ m.io.gx
seven_stays now m at width value = map_makes Seven now Stays (λ g. refl) (port_stays now) m at width value
