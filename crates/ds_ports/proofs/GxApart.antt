use Rattle.ds_ports.proofs.Words.{Bool, Dma, Geometry, GxCommand, GxState, GxWord, HBlank, IfSome, IoState, List, Nine, None, Option, Proc, Register}
use Rattle.ds_ports.proofs.Words.{Seven, Shown, Slot, Some, Stop, Tick, Timer, UnitPart, VBlank, Width, ap, both_raised, card_done_at, card_due}
use Rattle.ds_ports.proofs.Words.{card_starter, channel_due, channel_moved, channels_triggered, false, held_due, if◌then◌else◌, io_at_boot, io_due}
use Rattle.ds_ports.proofs.Words.{io_event, is_part, is_stalled, refl, scan_due_tick, shown_to_others, slot_of, touches_none, true, true≢false}
use Rattle.ds_ports.proofs.Words.{unless_stop, video_done, video_shown, video_stop, width_bytes, with_gx, ℕ, ◌+◌, ◌<◌, ◌∙◌, ◌≡◌, ◌≢◌}
use Rattle.ds_runs.specs.declared.actors.Actor.TheVariants.{Card}
use Rattle.video2d.specs.Videos.{video_after_event}
use Rattle.ds_runs.specs.declared.actors.Actor as actor
use Rattle.ds_ports.specs.Touches as touches
use Rattle.ds_ports.proofs.Covered.{Covers, chosen, covers, covers_all}

-- What neither sees geometry nor changes it: the registers of all ports but its own, and the units' events but its own.

-- ---- geometry's registers (GBATEK, "DS I/O Maps")

abbrev pub is_geometry : Register → Bool
is_geometry GxWord = true
is_geometry GxCommand = true
is_geometry _ = false

-- an access reaches none of them: ARM7's never does
abbrev pub IsApartFromGeometry : Proc → ℕ → Width → Type 0
IsApartFromGeometry Nine at width = (k : ℕ) → k < width_bytes width → IfSome (slot_of Nine (at + k)) (λ s. is_geometry s.register ≡ false)
IsApartFromGeometry Seven at width = Unit

-- another geometry engine is another part of the units
abbrev pub of_geometry : UnitPart → Bool
of_geometry = is_part touches.Geometry

abbrev pub no_geometry : Proc → Register → Bool
no_geometry proc = touches_none of_geometry proc

register_apart : (register : Register) → is_geometry register ≡ false → no_geometry Nine register ≡ true
register_apart GxWord h = absurd (true≢false h)
register_apart GxCommand h = absurd (true≢false h)
register_apart _ h = refl

slot_apart : (slot : Option Slot) → IfSome slot (λ s. is_geometry s.register ≡ false) → IfSome slot (λ s. no_geometry Nine s.register ≡ true)
slot_apart None h = tt
slot_apart (Some slot) h = register_apart slot.register h

pub covers_apart : (proc : Proc) (at : ℕ) (width : Width) → IsApartFromGeometry proc at width → Covers (no_geometry proc) proc at width
covers_apart Nine at width apart = covers (no_geometry Nine) Nine at width (λ k l. slot_apart (slot_of Nine (at + k)) (apart k l))
covers_apart Seven at width apart = covers_all (no_geometry Seven) Seven at width refl

abbrev pub with_it : GxState → IoState
with_it g = record io_at_boot { gx = g }

-- ---- the units

passes_stop : (change : IoState → IoState) (stop : Option Stop) (made left : IoState) → unless_stop stop (change made) (change left) ≡ change (unless_stop stop made left)
passes_stop change None made left = refl
passes_stop change (Some stop) made left = refl

module _ (g : GxState) where
  card_apart : (due : Option Tick) (file : List ℕ) (starter : Option Proc) (u : IoState) → card_starter u.card ≡ starter
      → card_done_at due file (with_gx g u) ≡ with_gx g (card_done_at due file u)
  card_apart None file starter u h = refl
  card_apart (Some now) file None u h = rw h refl
  card_apart (Some now) file (Some Nine) u h = rw h refl
  card_apart (Some now) file (Some Seven) u h = rw h refl

  pub event_apart : (file : List ℕ) (a : actor.Actor) (u : IoState) → a ≢ Geometry → io_event file a (with_gx g u) ≡ with_gx g (io_event file a u)
  event_apart file Geometry u other = absurd (other refl)
  event_apart file (Timer Nine number) u other = refl
  event_apart file (Timer Seven number) u other = refl
  event_apart file Card u other = card_apart (card_due u.card) file (card_starter u.card) u refl
  event_apart file _ u other = refl

  shown_apart : (shown : Shown) (now : Tick) (u : IoState) → shown_to_others shown now (with_gx g u) ≡ with_gx g (shown_to_others shown now u)
  shown_apart shown now u =
      let put : IoState → IoState = λ x. with_gx g x in
      let raised = both_raised u shown.raised in
      ap (λ (x : IoState). if shown.vblank then channels_triggered VBlank now (put raised) else x) (chosen put shown.hblank (channels_triggered HBlank now raised) raised)
      ∙ chosen put shown.vblank (channels_triggered VBlank now raised) (if shown.hblank then channels_triggered HBlank now raised else raised)

  -- the display's event looks at the banks and at palettes and OAM; the swap of geometry's lists at line 192 stands apart from it
  pub video_apart : (palette oam : List ℕ) (u : IoState) → video_done palette oam (with_gx g u) ≡ with_gx g (video_done palette oam u)
  video_apart palette oam u =
      let put : IoState → IoState = λ x. with_gx g x in
      let happened : IoState = record u { video = video_after_event u.vram palette oam u.video } in
      let now = scan_due_tick u.video.scan in
      let stop = video_stop oam u.video in
      ap (λ (x : IoState). unless_stop stop x (put u)) (shown_apart (video_shown u.video) now happened)
      ∙ passes_stop put stop (shown_to_others (video_shown u.video) now happened) u

  pub moved_apart : (proc : Proc) (now : Tick) (waits : ℕ) (u : IoState)
      → channel_moved proc now waits (with_gx g u) ≡ with_gx g (channel_moved proc now waits u)
  moved_apart Nine now waits u = refl
  moved_apart Seven now waits u = refl

  -- ARM9's channels are due by whether a stall holds them
  pub channel_due_apart : (channel : ℕ) (u : IoState) → is_stalled g ≡ is_stalled u.gx → io_due (Dma Nine channel) (with_gx g u) ≡ io_due (Dma Nine channel) u
  channel_due_apart channel u same = ap (λ (stalled : Bool). held_due stalled u.released (channel_due u.nine.dma channel)) same
