use Rattle.ds_machine.proofs.Words.{Access, AllReachPrivate, Bool, Contains, Coprocessor, Cost, Cp15State, Dtcm, Fetch, Instr, IoState, IsSharedSo}
use Rattle.ds_machine.proofs.Words.{Itcm, List, MapState, MoveOutcome, Moved, Nine, NineReach, None, Option, Outcome, Past, ReachesPrivate, Read}
use Rattle.ds_machine.proofs.Words.{RegisterState, SevenReach, Some, Tcm, V5, Width, Write, [], aligned_down, ap, arith, arm7, arm9, cost_of}
use Rattle.ds_machine.proofs.Words.{data_accesses, false, has_coprocessor, holds, if◌then◌else◌, inl, inr, is_private_place, is_private_tcm}
use Rattle.ds_machine.proofs.Words.{is_private_to_seven, is_undefined, low_or_high, move_clocks, move_of, moved_if, nine_executed, nine_memory}
use Rattle.ds_machine.proofs.Words.{nine_side, nine_wait, none-some, not, place_of, read_by, refl, register_moved, same_Some, seven_memory}
use Rattle.ds_machine.proofs.Words.{seven_side, seven_wait, skipped, some_cost, span, stays_behind, sym, tcm_of, tcm_read, tcm_refusal, tcm_written}
use Rattle.ds_machine.proofs.Words.{true, true≢false, width_bytes, with_number, ℕ, ◌<◌, ◌^◌, ◌∙◌, ◌≡◌, ◌≤◌}
use Rattle.ds_machine.proofs.NineReads.{tcm_fetched, tcm_value}
use Rattle.arm_core.specs.declared.outcomes.Stepped.{Stepped}
use Rattle.ds_map.proofs.NineShares.{IsOwnAddress, IsSharedAlike, NineBytes, nine_fetched_alike, nine_none_refused, nine_put, nine_read_leaves, nine_value_alike, nine_write_leaves, nine_wrote_alike, nine_wrote_at, no_address, private_address, so_shared, stays_alike}
use Rattle.ds_machine.proofs.PrivateAccesses.{AsPrivate, IsApart, StepsAlike}
use Rattle.ds_machine.proofs.PrivatePlaces.{IsLow, fixed_wait, low_fixed, low_place, map_fetched_alike, map_none_refused, map_read_leaves, map_value_alike, map_write_leaves, private_itself, wram_written, with_wram}
use Rattle.ds_machine.proofs.PrivateSteps.{ExecutesAlike, both_down, word_alike}

-- What either processor reaches in private places stands apart from the rest.

-- ---- ARM9's: CP15, the tightly coupled memories, and its bytes of the map

pub record NineReachOwn : Type 0 where
  pub cp15 : Cp15State
  pub itcm : List ℕ
  pub dtcm : List ℕ
  pub bytes : NineBytes

abbrev pub put_nine : NineReachOwn → NineReach → NineReach
put_nine own r = record r { map = nine_put own.bytes r.map; cp15 = own.cp15; itcm = own.itcm; dtcm = own.dtcm }

abbrev tcm_put : Tcm → NineReachOwn → ℕ → Width → ℕ → NineReachOwn
tcm_put (Itcm place) own at width value = record own { itcm = with_number width own.itcm (aligned_down width place) value }
tcm_put (Dtcm place) own at width value = record own { dtcm = with_number width own.dtcm (aligned_down width place) value }
tcm_put Past own at width value = record own { bytes = nine_wrote_at own.bytes at width value }

abbrev pub nine_wrote : NineReachOwn → ℕ → Width → ℕ → NineReachOwn
nine_wrote own at width value = tcm_put (tcm_of own.cp15 at true false) own at width value

-- where a tightly coupled memory answers; past both at an address that ARM9 alone reaches
abbrev IsOwnThere : Tcm → ℕ → ℕ → Type 0
IsOwnThere (Itcm place) wramcnt at = Unit {0}
IsOwnThere (Dtcm place) wramcnt at = Unit {0}
IsOwnThere Past wramcnt at = IsOwnAddress wramcnt at

private_there : (t : Tcm) (m : MapState) (at : ℕ) → is_private_tcm t m at ≡ true → IsOwnThere t m.io.wramcnt at
private_there (Itcm place) m at h = tt
private_there (Dtcm place) m at h = tt
private_there Past m at h = private_address m.io.vram.controls m.io.wramcnt at h

none_there : (t : Tcm) (wramcnt at : ℕ) → 2 ^ 32 ≤ at → IsOwnThere t wramcnt at
none_there (Itcm place) wramcnt at le = tt
none_there (Dtcm place) wramcnt at le = tt
none_there Past wramcnt at le = no_address wramcnt at le

at_nine : (cp : Cp15State) (m : MapState) (writing fetching : Bool) (width : Width) (at : ℕ)
    → ((byte : ℕ) → Contains (span (aligned_down width at) (width_bytes width)) byte → is_private_tcm (tcm_of cp byte writing fetching) m byte ≡ true)
    → IsOwnThere (tcm_of cp at writing fetching) m.io.wramcnt at
at_nine cp m writing fetching width at h = elim (low_or_high at (2 ^ 32)) [
  | inl lt ↦ private_there (tcm_of cp at writing fetching) m at (private_itself (λ x. is_private_tcm (tcm_of cp x writing fetching) m x) width at lt h)
  | inr le ↦ none_there (tcm_of cp at writing fetching) m.io.wramcnt at le
]

fetched_by : (t : Tcm) (own : NineReachOwn) (at : ℕ) (width : Width) (r u : NineReach) → IsOwnThere t own.bytes.share.wramcnt at
    → tcm_fetched t (put_nine own r) at width ≡ tcm_fetched t (put_nine own u) at width
fetched_by (Itcm place) own at width r u is = refl
fetched_by (Dtcm place) own at width r u is = refl
fetched_by Past own at width r u is = nine_fetched_alike own.bytes at is width r.map u.map

value_by : (t : Tcm) (own : NineReachOwn) (at : ℕ) (width : Width) (r u : NineReach) → IsOwnThere t own.bytes.share.wramcnt at
    → tcm_value t (put_nine own r) at width ≡ tcm_value t (put_nine own u) at width
value_by (Itcm place) own at width r u is = refl
value_by (Dtcm place) own at width r u is = refl
value_by Past own at width r u is = nine_value_alike own.bytes at is width r.now u.now r.map u.map

read_by_tcm : (t : Tcm) (own : NineReachOwn) (at : ℕ) (width : Width) (r : NineReach) → IsOwnThere t own.bytes.share.wramcnt at
    → tcm_read t (put_nine own r) at width ≡ put_nine own r
read_by_tcm (Itcm place) own at width r is = refl
read_by_tcm (Dtcm place) own at width r is = refl
read_by_tcm Past own at width r is =
    ap (λ (m : MapState). (let left : NineReach = record (put_nine own r) { map = m } in left)) (nine_read_leaves own.bytes at is width r.now r.map)

refused_by : (t : Tcm) (own : NineReachOwn) (at : ℕ) (width : Width) (value : ℕ) (r : NineReach) → IsOwnThere t own.bytes.share.wramcnt at
    → tcm_refusal t (put_nine own r) at width value ≡ None
refused_by (Itcm place) own at width value r is = refl
refused_by (Dtcm place) own at width value r is = refl
refused_by Past own at width value r is = nine_none_refused own.bytes at is width r.map value

written_by_tcm : (t : Tcm) (own : NineReachOwn) (at : ℕ) (width : Width) (value : ℕ) (r : NineReach) → IsOwnThere t own.bytes.share.wramcnt at
    → tcm_written t (put_nine own r) at width value ≡ put_nine (tcm_put t own at width value) r
written_by_tcm (Itcm place) own at width value r is = refl
written_by_tcm (Dtcm place) own at width value r is = refl
written_by_tcm Past own at width value r is =
    ap (λ (m : MapState). (let left : NineReach = record (put_nine own r) { map = m } in left)) (nine_write_leaves own.bytes at is width r.now r.map value)

same_cp15 : (t : Tcm) (own : NineReachOwn) (at : ℕ) (width : Width) (value : ℕ) → (tcm_put t own at width value).cp15 ≡ own.cp15
same_cp15 (Itcm place) own at width value = refl
same_cp15 (Dtcm place) own at width value = refl
same_cp15 Past own at width value = refl

pub tcm_alike : (t : Tcm) (own : NineReachOwn) (at : ℕ) (width : Width) (value : ℕ) → IsSharedAlike own.bytes.share (tcm_put t own at width value).bytes.share
tcm_alike (Itcm place) own at width value = stays_alike own.bytes.share
tcm_alike (Dtcm place) own at width value = stays_alike own.bytes.share
tcm_alike Past own at width value = nine_wrote_alike own.bytes at width value

-- what is private is told by CP15 and by how the memories are shared out
same_private : (t : Tcm) (m n : MapState) (at : ℕ) → m.io.vram.controls ≡ n.io.vram.controls → m.io.wramcnt ≡ n.io.wramcnt → is_private_tcm t m at ≡ is_private_tcm t n at
same_private (Itcm place) m n at controls wramcnt = refl
same_private (Dtcm place) m n at controls wramcnt = refl
same_private Past m n at controls wramcnt =
    ap (λ (c : List ℕ). is_private_place c (place_of Nine m.io.wramcnt at)) controls ∙ ap (λ (w : ℕ). is_private_place n.io.vram.controls (place_of Nine w at)) wramcnt

keeps_private : (own : NineReachOwn) (at : ℕ) (width : Width) (value : ℕ) (r : NineReach) → AsPrivate nine_side (put_nine own r) (put_nine (nine_wrote own at width value) r)
keeps_private own at width value r writing fetching byte =
    let new = nine_wrote own at width value in
    let t = tcm_of own.cp15 at true false in
    let alike = tcm_alike t own at width value in
    ap (λ (cp : Cp15State). is_private_tcm (tcm_of cp byte writing fetching) (put_nine own r).map byte) (sym (same_cp15 t own at width value))
    ∙ same_private (tcm_of new.cp15 byte writing fetching) (put_nine own r).map (put_nine new r).map byte (sym alike.controls) (sym alike.wramcnt)

-- ---- the same of what is shared out as some memories are, and has as many bytes: no private write changes that

pub record NineShared (shared : List ℕ) (u : IoState) : Type 0 where
  pub own : NineReachOwn
  pub so : IsSharedSo own.bytes.share shared u

module _ (shared : List ℕ) (u : IoState) where
  abbrev pub put_shared : NineShared shared u → NineReach → NineReach
  put_shared k r = put_nine k.own r

  abbrev pub shared_wrote : NineShared shared u → ℕ → Width → ℕ → NineShared shared u
  shared_wrote k at width value = record {
    own = nine_wrote k.own at width value;
    so = so_shared k.own.bytes.share (nine_wrote k.own at width value).bytes.share shared u (tcm_alike (tcm_of k.own.cp15 at true false) k.own at width value) k.so;
  }

  waits_there : (k : NineShared shared u) (access : Access) (r t : NineReach) → nine_wait (put_shared k r) access ≡ nine_wait (put_shared k t) access
  waits_there k (Fetch at width) r t = refl
  waits_there k (Read at width) r t = refl
  waits_there k (Write at width value) r t = refl

  pub nine_apart : IsApart nine_memory nine_side put_shared shared_wrote
  nine_apart = record {
    waits = λ k access r t h. waits_there k access r t;
    base = λ k r t. refl;
    moves = λ k r t writing fetching byte. same_private (tcm_of k.own.cp15 byte writing fetching) (put_nine k.own r).map (put_nine k.own t).map byte refl refl;
    keeps = λ k at width value r. keeps_private k.own at width value r;
    fetched = λ k at width r t h. fetched_by (tcm_of k.own.cp15 at false true) k.own at width r t (at_nine k.own.cp15 (put_nine k.own r).map false true width at h);
    read = λ k at width r t h. value_by (tcm_of k.own.cp15 at false false) k.own at width r t (at_nine k.own.cp15 (put_nine k.own r).map false false width at h);
    fetches = λ k at width r h. refl;
    reads = λ k at width r h. read_by_tcm (tcm_of k.own.cp15 at false false) k.own at width r (at_nine k.own.cp15 (put_nine k.own r).map false false width at h);
    refuses = λ k at width value r h. refused_by (tcm_of k.own.cp15 at true false) k.own at width value r (at_nine k.own.cp15 (put_nine k.own r).map true false width at h);
    writes = λ k at width value r h. written_by_tcm (tcm_of k.own.cp15 at true false) k.own at width value r (at_nine k.own.cp15 (put_nine k.own r).map true false width at h);
  }

-- a move that may go ahead reads CP15
reads_of : (instr : Instr) → stays_behind instr ≡ false → (m : Moved) → move_of (Some instr) ≡ Some m → m.load ≡ true
reads_of (Coprocessor cond load op1 crn rd cp op2 crm) h m e = by_tests load (has_coprocessor V5 cp) h e where
  by_tests : (l has : Bool) → not l ≡ false
      → (let there : Option Moved = if has then Some (record { cond = cond; load = l; op1 = op1; crn = crn; rd = rd; op2 = op2; crm = crm }) else None in there) ≡ Some m → m.load ≡ true
  by_tests true true h e = sym (ap (λ (x : Moved). x.load) (same_Some (record { cond = cond; load = true; op1 = op1; crn = crn; rd = rd; op2 = op2; crm = crm }) m e))
  by_tests true false h e = absurd (none-some m e)
  by_tests false has h e = absurd (true≢false h)
reads_of instr h m e = absurd (none-some m e)

-- it leaves CP15, and costs
record LeavesCp15 (cp : Cp15State) (o : MoveOutcome) : Type 0 where
  clocks : ℕ
  some : 0 < clocks
  cost : o.stepped ≡ Cost clocks
  stays : o.cp ≡ cp

move_leaves : (s : RegisterState) (cp : Cp15State) (m : Moved) → m.load ≡ true → LeavesCp15 cp (moved_if s cp m)
move_leaves s cp m load = rw load (by_condition (holds m.cond s.cpsr)) where
  by_condition : (b : Bool) → LeavesCp15 cp (if b then read_by s cp m.rd (register_moved m)
      else record { registers = (skipped s).after []; cp = cp; stepped = Cost (cost_of V5 (skipped s)) })
  by_condition true = record { clocks = move_clocks; some = omega arith; cost = refl; stays = refl }
  by_condition false = record { clocks = cost_of V5 (skipped s); some = some_cost V5 (skipped s); cost = refl; stays = refl }

left_by : (own : NineReachOwn) (o : MoveOutcome) (r : NineReach) (k : LeavesCp15 own.cp15 o)
    → (let out : Outcome NineReach = record { registers = o.registers; state = record (put_nine own r) { cp15 = o.cp }; stepped = o.stepped } in out)
    ≡ record { registers = o.registers; state = put_nine own r; stepped = Cost k.clocks }
left_by own o r k =
    ap (λ (c : Cp15State). (let out : Outcome NineReach = record { registers = o.registers; state = record (put_nine own r) { cp15 = c }; stepped = o.stepped } in out)) k.stays
    ∙ ap (λ (x : Stepped). (let out : Outcome NineReach = record { registers = o.registers; state = put_nine own r; stepped = x } in out)) k.cost

module _ (shared : List ℕ) (u : IoState) where
  moved_alike : (s : RegisterState) (k : NineShared shared u) (r t : NineReach) (number : ℕ) (instr : Option Instr) (m : Moved) → m.load ≡ true
      → StepsAlike (put_shared shared u) r t (nine_executed s (put_nine k.own r) number instr (Some m)) (nine_executed s (put_nine k.own t) number instr (Some m))
  moved_alike s k r t number instr m load =
      let o = moved_if s k.own.cp15 m in
      let leaves = move_leaves s k.own.cp15 m load in
      record { own = k; registers = o.registers; clocks = leaves.clocks; some = leaves.some; here = left_by k.own o r leaves; there = left_by k.own o t leaves }

  nine_alike : (s : RegisterState) (k : NineShared shared u) (r t : NineReach) (number : ℕ) (instr : Instr) (move : Option Moved) → move_of (Some instr) ≡ move → stays_behind instr ≡ false
      → AllReachPrivate nine_side (put_nine k.own r) (data_accesses nine_side.step.arch (nine_side.step.base (put_nine k.own r)) s (Some instr))
      → StepsAlike (put_shared shared u) r t (nine_executed s (put_nine k.own r) number (Some instr) move) (nine_executed s (put_nine k.own t) number (Some instr) move)
  nine_alike s k r t number instr None e ahead h =
      word_alike nine_memory nine_side (put_shared shared u) (shared_wrote shared u) (nine_apart shared u) (arm9 k.own.cp15) s number instr k r t ahead h
  nine_alike s k r t number instr (Some m) e ahead h = moved_alike s k r t number (Some instr) m (reads_of instr ahead m e)

  pub nine_executes : ExecutesAlike nine_side (put_shared shared u)
  nine_executes s k r t number instr ahead h =
      nine_alike s k r t number instr (move_of (Some instr)) refl (both_down (is_undefined nine_side.step.arch (Some instr)) (stays_behind instr) ahead).1 h

-- ---- ARM7's: its work RAM

abbrev pub put_seven : List ℕ → SevenReach → SevenReach
put_seven own r = record r { map = with_wram own r.map }

abbrev pub seven_wrote : List ℕ → ℕ → Width → ℕ → List ℕ
seven_wrote own at width value = wram_written (low_place at) own width value

at_seven : (width : Width) (at : ℕ) → ((byte : ℕ) → Contains (span (aligned_down width at) (width_bytes width)) byte → is_private_to_seven byte ≡ true) → IsLow at
at_seven width at h = elim (low_or_high at (2 ^ 32)) [
  | inl lt ↦ inl (private_itself is_private_to_seven width at lt h)
  | inr le ↦ inr le
]

seven_waits : (own : List ℕ) (access : Access) (r t : SevenReach) → ReachesPrivate seven_side (put_seven own r) access
    → seven_wait (put_seven own r) access ≡ seven_wait (put_seven own t) access
seven_waits own (Fetch at width) r t h = fixed_wait at (low_place at) (low_fixed at (at_seven width at h)) r.map.io.wramcnt t.map.io.wramcnt width
seven_waits own (Read at width) r t h = fixed_wait at (low_place at) (low_fixed at (at_seven width at h)) r.map.io.wramcnt t.map.io.wramcnt width
seven_waits own (Write at width value) r t h = fixed_wait at (low_place at) (low_fixed at (at_seven width at h)) r.map.io.wramcnt t.map.io.wramcnt width

pub seven_apart : IsApart seven_memory seven_side put_seven seven_wrote
seven_apart = record {
  waits = seven_waits;
  base = λ own r t. refl;
  moves = λ own r t writing fetching byte. refl;
  keeps = λ own at width value r writing fetching byte. refl;
  fetched = λ own at width r t h. map_fetched_alike at (low_place at) (low_fixed at (at_seven width at h)) width own r.map t.map;
  read = λ own at width r t h. map_value_alike at (low_place at) (low_fixed at (at_seven width at h)) width r.now t.now own r.map t.map;
  fetches = λ own at width r h. refl;
  reads = λ own at width r h.
      ap (λ (m : MapState). (let left : SevenReach = record r { map = m } in left)) (map_read_leaves at (low_place at) (low_fixed at (at_seven width at h)) width r.now (with_wram own r.map));
  refuses = λ own at width value r h. map_none_refused at (low_place at) (low_fixed at (at_seven width at h)) width (with_wram own r.map) value;
  writes = λ own at width value r h.
      ap (λ (m : MapState). (let left : SevenReach = record r { map = m } in left)) (map_write_leaves at (low_place at) (low_fixed at (at_seven width at h)) width r.now own r.map value);
}

pub seven_executes : ExecutesAlike seven_side put_seven
seven_executes s own r t number instr ahead h =
    word_alike seven_memory seven_side put_seven seven_wrote seven_apart arm7 s number instr own r t (both_down (is_undefined seven_side.step.arch (Some instr)) (stays_behind instr) ahead).1 h
