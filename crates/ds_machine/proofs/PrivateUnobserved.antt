use Rattle.ds_machine.proofs.Words.{Access, AllReachPrivate, Banks, Bool, Cell, Contains, Dtcm, Fetch, IsPrivate, Itcm, List, MachineState, MapState}
use Rattle.ds_machine.proofs.Words.{Nine, NineReach, Nothing, Past, Place, Port, Proc, Processor, ReachesPrivate, Read, Rom, Seven, Tcm, Width, Write}
use Rattle.ds_machine.proofs.Words.{[], access_observes, actor_of, aligned_down, and_right, any_observes, ap, data_accesses, enters, false, fetched}
use Rattle.ds_machine.proofs.Words.{inl, inr, is_observed_past, is_observed_place, is_private_place, is_private_tcm, line_of, low_or_high}
use Rattle.ds_machine.proofs.Words.{nine_memory, nine_reach, nine_side, not, observes_by, or_from, place_of, rank_of, refl, span, sym, tcm_of}
use Rattle.ds_machine.proofs.Words.{tick_of, true, true≢false, width_bytes, ℕ, ◌^◌, ◌∷◌, ◌≡◌, ◌≤◌}
use Rattle.ds_map.proofs.NineShares.{no_place}
use Rattle.ds_machine.proofs.PrivatePlaces.{private_itself}

-- A private step doesn't observe geometry: private places are no ports.

-- ---- a place, and an address

place_unseen : (controls : List ℕ) (place : Place) → is_private_place controls place ≡ true → is_observed_place place ≡ false
place_unseen controls (Port at) h = absurd (true≢false (sym h))
place_unseen controls (Cell memory at) h = refl
place_unseen controls (Banks space at) h = refl
place_unseen controls (Rom at) h = refl
place_unseen controls Nothing h = refl

tcm_unseen : (t : Tcm) (m : MapState) (at : ℕ) → is_private_tcm t m at ≡ true → is_observed_past t m.io.wramcnt at ≡ false
tcm_unseen (Itcm place) m at h = refl
tcm_unseen (Dtcm place) m at h = refl
tcm_unseen Past m at h = place_unseen m.io.vram.controls (place_of Nine m.io.wramcnt at) h

-- past the last address there is nothing
none_unseen : (t : Tcm) (wramcnt at : ℕ) → 2 ^ 32 ≤ at → is_observed_past t wramcnt at ≡ false
none_unseen (Itcm place) wramcnt at le = refl
none_unseen (Dtcm place) wramcnt at le = refl
none_unseen Past wramcnt at le = ap is_observed_place (no_place wramcnt at le)

-- ---- accesses

module _ (r : NineReach) where
  at_unseen : (writing : Bool) (width : Width) (at : ℕ)
      → ((byte : ℕ) → Contains (span (aligned_down width at) (width_bytes width)) byte → nine_side.is_private r writing false byte ≡ true)
      → is_observed_past (tcm_of r.cp15 at writing false) r.map.io.wramcnt at ≡ false
  at_unseen writing width at h = elim (low_or_high at (2 ^ 32)) [
    | inl lt ↦ tcm_unseen (tcm_of r.cp15 at writing false) r.map at (private_itself (nine_side.is_private r writing false) width at lt h)
    | inr le ↦ none_unseen (tcm_of r.cp15 at writing false) r.map.io.wramcnt at le
  ]

  access_unseen : (access : Access) → ReachesPrivate nine_side r access → access_observes r access ≡ false
  access_unseen (Fetch at width) h = refl
  access_unseen (Read at width) h = at_unseen false width at h
  access_unseen (Write at width value) h = at_unseen true width at h

  all_unseen : (accesses : List Access) → AllReachPrivate nine_side r accesses → any_observes r accesses ≡ false
  all_unseen [] h = refl
  all_unseen (access ∷ rest) h = or_from (access_observes r access) (any_observes r rest) (access_unseen access h.0) (all_unseen rest h.1)

-- ---- the step

-- a step in private places doesn't observe geometry
pub private_unobserved : (s : MachineState) (proc : Proc) → IsPrivate s proc → observes_by (Processor proc) s ≡ false
private_unobserved s Nine is =
    let r = nine_reach (tick_of s.nine.processor) s in
    let registers = s.nine.processor.registers in
    let accesses = data_accesses nine_side.step.arch (nine_side.step.base r) registers (fetched nine_memory nine_side.step.arch registers r).instr in
    and_right (not (enters (line_of s Nine) registers)) (any_observes r accesses) (all_unseen r accesses is.own.accesses)
private_unobserved s Seven is = refl

-- by its rank
pub rank_unobserved : (s : MachineState) (proc : Proc) → IsPrivate s proc → observes_by (actor_of (rank_of proc)) s ≡ false
rank_unobserved s Nine private = private_unobserved s Nine private
rank_unobserved s Seven private = private_unobserved s Seven private
