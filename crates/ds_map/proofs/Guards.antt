use Rattle.ds_map.proofs.Words.{DmaUnit, GxState, IoState, MapState, Nine, NineReach, None, Place, Proc, Seven, Tcm, Tick, Width, ap, channel_moved}
use Rattle.ds_map.proofs.Words.{false, if_false, map_refusal, map_written, most_entries, nat_lt, nine_memory, place_of, refl, tcm_of, tcm_refusal}
use Rattle.ds_map.proofs.Words.{tcm_written, true, unit_read, unit_taken, unit_waits, waiting_entries, ℕ, ◌-◌, ◌∙◌, ◌≡◌}
use Rattle.ds_map.specs.Guards.{is_guarded, guarded_memory, map_guarded, map_guarded_refusal, meets_guard, tcm_guarded, tcm_guarded_refusal}
use Rattle.cp15_tcm.specs.declared.answers.Tcm.TheVariants.{Itcm, Dtcm, Past}
use Rattle.ds_places.specs.declared.kinds.Place.TheVariants as place
use Rattle.ds_ports.specs.Guards.{is_overfull}
use Rattle.ds_map.proofs.Later.{map_read_leaves}

-- Where writes meet no guard.

-- ---- where there is room

meets_none : (proc : Proc) (where_ : Place) (u : IoState) → is_overfull proc u ≡ false → meets_guard proc where_ u ≡ false
meets_none proc (place.Port at) u h = h
meets_none proc _ u h = refl

-- so no write of ARM7's does
seven_meets_none : (m : MapState) (at : ℕ) → is_guarded Seven m at ≡ false
seven_meets_none m at = meets_none Seven (place_of Seven m.io.wramcnt at) m.io refl

pub seven_refusal : (m : MapState) (at : ℕ) (width : Width) (value : ℕ) → map_guarded_refusal Seven m at width value ≡ map_refusal Seven m at width value
seven_refusal m at width value = if_false (is_guarded Seven m at) None (map_refusal Seven m at width value) (seven_meets_none m at)

pub seven_written : (now : Tick) (m : MapState) (at : ℕ) (width : Width) (value : ℕ) → map_guarded Seven now m at width value ≡ map_written Seven now m at width value
seven_written now m at width value = if_false (is_guarded Seven m at) m (map_written Seven now m at width value) (seven_meets_none m at)

-- nor one of ARM9's
module _ (r : NineReach) (at : ℕ) (width : Width) (value : ℕ) where
  same_refusal : (t : Tcm) → is_guarded Nine r.map at ≡ false → tcm_guarded_refusal t r at width value ≡ tcm_refusal t r at width value
  same_refusal (Itcm place) h = refl
  same_refusal (Dtcm place) h = refl
  same_refusal Past h = if_false (is_guarded Nine r.map at) None (map_refusal Nine r.map at width value) h

  same_written : (t : Tcm) → is_guarded Nine r.map at ≡ false → tcm_guarded t r at width value ≡ tcm_written t r at width value
  same_written (Itcm place) h = refl
  same_written (Dtcm place) h = refl
  same_written Past h =
      ap (λ (m : MapState). (let left : NineReach = record r { map = m } in left))
      (if_false (is_guarded Nine r.map at) r.map (map_written Nine r.now r.map at width value) h)

  pub nine_refusal : is_guarded Nine r.map at ≡ false → guarded_memory.refusal r at width value ≡ nine_memory.refusal r at width value
  nine_refusal h = same_refusal (tcm_of r.cp15 at true false) h

  pub nine_written : is_guarded Nine r.map at ≡ false → guarded_memory.write_next r at width value ≡ nine_memory.write_next r at width value
  nine_written h = same_written (tcm_of r.cp15 at true false) h

pub room_meets_none : (proc : Proc) (m : MapState) (at : ℕ) → is_overfull proc m.io ≡ false → is_guarded proc m at ≡ false
room_meets_none proc m at h = meets_none proc (place_of proc m.io.wramcnt at) m.io h

-- ---- a channel's unit has room at its write where it has some at its read

same_overfull : (proc : Proc) (u v : IoState) → v.gx ≡ u.gx → is_overfull proc v ≡ is_overfull proc u
same_overfull Nine u v e = ap (λ (g : GxState). nat_lt (most_entries - 4) (waiting_entries g)) e
same_overfull Seven u v e = refl

pub read_leaves : (proc : Proc) (now : Tick) (unit : DmaUnit) (m : MapState) → (unit_read proc now unit m).io.gx ≡ m.io.gx
read_leaves proc now unit m = (map_read_leaves proc now m unit.from unit.width).gx

moved_leaves : (proc : Proc) (now : Tick) (waits : ℕ) (u : IoState) → (channel_moved proc now waits u).gx ≡ u.gx
moved_leaves Nine now waits u = refl
moved_leaves Seven now waits u = refl

pub taken_leaves : (proc : Proc) (now : Tick) (unit : DmaUnit) (m : MapState) → (unit_taken proc now unit m).io.gx ≡ m.io.gx
taken_leaves proc now unit m = moved_leaves proc now (unit_waits proc now unit m) (unit_read proc now unit m).io ∙ read_leaves proc now unit m

pub unit_has_room : (proc : Proc) (now : Tick) (unit : DmaUnit) (m : MapState) (at : ℕ) → is_overfull proc m.io ≡ false
    → is_guarded proc (unit_taken proc now unit m) at ≡ false
unit_has_room proc now unit m at h =
    let taken = unit_taken proc now unit m in
    room_meets_none proc taken at (same_overfull proc m.io taken.io (taken_leaves proc now unit m) ∙ h)
