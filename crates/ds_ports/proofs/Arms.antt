use Rattle.ds_ports.proofs.Words.{Bool, Cause, Channel, DmaNine, DmaState, Dmacnt, Dmadad, Dmasad, IfSome, IoState, List, Nine, None, Proc, Register}
use Rattle.ds_ports.proofs.Words.{Seven, Some, Tick, Width, [], after_write, ap, arith, channel_at, dma_finished, dma_triggered, due_channel, false}
use Rattle.ds_ports.proofs.Words.{if◌then◌else◌, is_armed, least_running, length, length-map, length-set, map, not, port_read, port_written, refl}
use Rattle.ds_ports.proofs.Words.{rules, slice_set, slot_of, subst, suc, sym, true, true≢false, width_bytes, zero, ℕ, ◌&&◌, ◌+◌, ◌<◌, ◌∙◌, ◌∷◌, ◌≡◌}
use Rattle.ds_dma.specs.Channels.{after_unit, is_last_of_burst, is_last_unit, is_triggered, triggered, armed_again, emptied, rest_of}
use Rattle.ds_dma.specs.Controls.{is_armed_again, is_enabled, waits_for, disabled, burst_of, kept_address}
use Rattle.ds_dma.specs.declared.controls.Cause.TheVariants.{Geometry}
use Rattle.ds_ports.proofs.Covered.{Of, covers, covers_all, write_leaves}
use Rattle.ds_ports.proofs.Passed.{keeps_part, read_left, row_leaves, write_left}

-- Which of ARM9's channels are enabled with the start of the geometry FIFO is told by their controls, and of ports those are changed by writes of DMAxCNT alone.

-- ---- a channel is enabled with that start, by its control word

abbrev pub armed : DmaState → ℕ → Bool
armed dma which = is_armed (channel_at dma.channels which).cnt

-- there are as many channels, and their controls are as they were; or no more of them are so enabled
pub record KeepsControls (old new : DmaState) : Type 0 where
  pub proc : new.proc ≡ old.proc
  pub long : length new.channels ≡ length old.channels
  pub cnt : (which : ℕ) → (channel_at new.channels which).cnt ≡ (channel_at old.channels which).cnt

pub record ArmsNoMore (old new : DmaState) : Type 0 where
  pub long : length new.channels ≡ length old.channels
  pub none : (which : ℕ) → armed old which ≡ false → armed new which ≡ false

pub keeps_same : (dma : DmaState) → KeepsControls dma dma
keeps_same dma = record { proc = refl; long = refl; cnt = λ which. refl }

pub keeps_by : (old new : DmaState) → new ≡ old → KeepsControls old new
keeps_by old new e = subst (KeepsControls old) (sym e) (keeps_same old)

pub keeps_then : (a b c : DmaState) → KeepsControls a b → KeepsControls b c → KeepsControls a c
keeps_then a b c k l = record { proc = l.proc ∙ k.proc; long = l.long ∙ k.long; cnt = λ which. l.cnt which ∙ k.cnt which }

pub arms_same : (dma : DmaState) → ArmsNoMore dma dma
arms_same dma = record { long = refl; none = λ which h. h }

pub arms_by : (old new : DmaState) → new ≡ old → ArmsNoMore old new
arms_by old new e = subst (ArmsNoMore old) (sym e) (arms_same old)

pub arms_then : (a b c : DmaState) → ArmsNoMore a b → ArmsNoMore b c → ArmsNoMore a c
arms_then a b c k l = record { long = l.long ∙ k.long; none = λ which h. l.none which (k.none which h) }

pub arms_kept : (old new : DmaState) → KeepsControls old new → ArmsNoMore old new
arms_kept old new k = record {
  long = k.long;
  none = λ which h. ap is_armed (k.cnt which) ∙ h;
}

-- ---- lists of channels of which one is another, or each

module _ (Q : Channel → Channel → Type 0) (same : (c : Channel) → Q c c) where
  set_each : (xs : List Channel) (n : ℕ) (c : Channel) → Q (channel_at xs n) c → (which : ℕ) → Q (channel_at xs which) (channel_at (slice_set xs n c) which)
  set_each [] n c q which = same _
  set_each (x ∷ xs) zero c q zero = q
  set_each (x ∷ xs) zero c q (suc which) = same _
  set_each (x ∷ xs) (suc n) c q zero = same _
  set_each (x ∷ xs) (suc n) c q (suc which) = set_each xs n c q which

  map_each : (f : Channel → Channel) → ((c : Channel) → Q c (f c)) → (xs : List Channel) (which : ℕ) → Q (channel_at xs which) (channel_at (map f xs) which)
  map_each f q [] which = same _
  map_each f q (x ∷ xs) zero = q x
  map_each f q (x ∷ xs) (suc which) = map_each f q xs which

abbrev SameControl : Channel → Channel → Type 0
SameControl old new = new.cnt ≡ old.cnt

keeps_set : (dma : DmaState) (n : ℕ) (c : Channel) → c.cnt ≡ (channel_at dma.channels n).cnt → KeepsControls dma (record dma { channels = slice_set dma.channels n c })
keeps_set dma n c e = record { proc = refl; long = length-set dma.channels n c; cnt = set_each SameControl (λ x. refl) dma.channels n c e }

-- an event triggers channels, and leaves their controls
cnt_of : (b : Bool) (x c : Channel) → x.cnt ≡ c.cnt → (if b then x else c).cnt ≡ c.cnt
cnt_of true x c e = e
cnt_of false x c e = refl

triggered_cnt : (proc : Proc) (cause : Cause) (now : Tick) (c : Channel) → (triggered proc cause now c).cnt ≡ c.cnt
triggered_cnt proc cause now c = cnt_of (is_triggered proc cause c) (record c { trigger = Some now; burst = burst_of cause c.remaining }) c refl

pub triggered_keeps : (dma : DmaState) (cause : Cause) (now : Tick) → KeepsControls dma (dma_triggered dma cause now)
triggered_keeps dma cause now =
    let f = triggered dma.proc cause now in
    record { proc = refl; long = length-map dma.channels f; cnt = map_each SameControl (λ x. refl) f (triggered_cnt dma.proc cause now) dma.channels }

-- a channel that took a unit is disabled at its end, or its control is as it was
off : (control : ℕ) → is_enabled (disabled control) ≡ false
off control = grind (arith, rules)

unit_arms : (proc : Proc) (which : ℕ) (c : Channel) → is_armed c.cnt ≡ false → is_armed (after_unit proc which c).cnt ≡ false
unit_arms proc which c h = by_kind (is_last_unit c) (is_last_of_burst c) (is_armed_again proc c.cnt) where
  by_kind : (last burst again : Bool)
      → is_armed (if not last then (if burst then record (rest_of c) { trigger = None } else rest_of c) else (if again then armed_again proc which c else emptied c (disabled c.cnt))).cnt
      ≡ false
  by_kind false true again = h
  by_kind false false again = h
  by_kind true burst true = h
  by_kind true burst false = ap (λ (b : Bool). b && waits_for Nine Geometry (disabled c.cnt)) (off c.cnt)

pub finished_arms : (dma : DmaState) (now : Tick) (waits : ℕ) → ArmsNoMore dma (dma_finished dma now waits)
finished_arms dma now waits =
    let which = least_running dma.channels in
    let c = after_unit dma.proc which (due_channel dma) in
    let Q : Channel → Channel → Type 0 = λ x y. is_armed x.cnt ≡ false → is_armed y.cnt ≡ false in
    record {
      long = length-set dma.channels which c;
      none = set_each Q (λ x h. h) dma.channels which c (unit_arms dma.proc which (due_channel dma));
    }

-- ---- each register but DMA0CNT to DMA3CNT

abbrev pub is_no_control : Register → Bool
is_no_control Dmacnt = false
is_no_control _ = true

nine_keeps : (now : Tick) (u : IoState) (register : Register) (n word : ℕ) → is_no_control register ≡ true
    → KeepsControls u.nine.dma (after_write Nine now u register n word).nine.dma
nine_keeps now u Dmacnt n word h = absurd (true≢false (sym h))
nine_keeps now u Dmasad n word h = keeps_set u.nine.dma n (record (channel_at u.nine.dma.channels n) { sad = kept_address word }) refl
nine_keeps now u Dmadad n word h = keeps_set u.nine.dma n (record (channel_at u.nine.dma.channels n) { dad = kept_address word }) refl
nine_keeps now u register n word h = keeps_by u.nine.dma _ (row_leaves DmaNine Nine now u register n word refl)

-- ---- accesses: a write of ARM9's of none of those registers keeps the controls; and ARM7's keep all of ARM9's channels, and so do reads

pub write_keeps : (now : Tick) (u : IoState) (at : ℕ) (width : Width) (value : ℕ)
    → ((k : ℕ) → k < width_bytes width → IfSome (slot_of Nine (at + k)) (λ s. is_no_control s.register ≡ true))
    → KeepsControls u.nine.dma (port_written Nine now u at width value).nine.dma
write_keeps now u at width value apart =
    write_leaves (Of is_no_control) Nine now (λ x y. KeepsControls x.nine.dma y.nine.dma) (λ x. keeps_same x.nine.dma) (λ x y z. keeps_then x.nine.dma y.nine.dma z.nine.dma)
    (λ x slot word h. nine_keeps now x slot.register slot.number word h) u at width value (covers is_no_control Nine at width apart)

pub seven_write_dma : (now : Tick) (u : IoState) (at : ℕ) (width : Width) (value : ℕ) → (port_written Seven now u at width value).nine.dma ≡ u.nine.dma
seven_write_dma now u at width value = write_left DmaNine Seven now u at width value (covers_all (keeps_part DmaNine Seven) Seven at width refl)

pub read_dma : (proc : Proc) (now : Tick) (u : IoState) (at : ℕ) (width : Width) → (port_read proc now u at width).nine.dma ≡ u.nine.dma
read_dma proc now u at width = read_left DmaNine proc now u at width refl
