use Rattle.ds_machine.proofs.Words.{Bool, IoState, MachineState, Nine, Proc, ProcessorIoState, Seven, SevenState, Tick, ap, ended, false, goes_on}
use Rattle.ds_machine.proofs.Words.{if◌then◌else◌, io_of, is_halted, machine_settled, refl, settled, sym, true, wakes, with_seven_part, woken_one}
use Rattle.ds_machine.proofs.Words.{◌∙◌, ◌≡◌}
use Rattle.ds_machine.proofs.Wakes.{settle_leaves}

-- A step of an actor that doesn't reach a processor's own part comes to the same with another own part, also with what follows it, where the processor isn't halted.

-- ---- what follows a step: a processor that isn't halted doesn't wake

pub settled_halted : (tick : Tick) (u : IoState) (proc : Proc) → (io_of (settled tick u) proc).halted ≡ (io_of u proc).halted
settled_halted tick u Nine = (settle_leaves tick u).halted
settled_halted tick u Seven = ap (λ (o : ProcessorIoState). o.halted) (settle_leaves tick u).seven

pub not_woken : (proc : Proc) (tick : Tick) (s : MachineState) → is_halted s proc ≡ false → woken_one proc tick s ≡ s
not_woken proc tick s h = rw h refl

seven_wakes_nine : (tick : Tick) (own : SevenState) (m : MachineState) → woken_one Nine tick (with_seven_part own m) ≡ with_seven_part own (woken_one Nine tick m)
seven_wakes_nine tick own m = by_wake (wakes m Nine) where
  by_wake : (b : Bool) → (if b then goes_on Nine tick (with_seven_part own m) else with_seven_part own m) ≡ with_seven_part own (if b then goes_on Nine tick m else m)
  by_wake true = refl
  by_wake false = refl

pub woken_halted : (tick : Tick) (m : MachineState) → is_halted m Seven ≡ false → is_halted (woken_one Nine tick m) Seven ≡ false
woken_halted tick m h = by_wake (wakes m Nine) where
  by_wake : (b : Bool) → is_halted (if b then goes_on Nine tick m else m) Seven ≡ false
  by_wake true = h
  by_wake false = h

pub seven_ended : (tick : Tick) (own : SevenState) (s : MachineState) → is_halted s Seven ≡ false → ended tick (with_seven_part own s) ≡ with_seven_part own (ended tick s)
unfolding ended
seven_ended tick own s h =
    let m = machine_settled tick s in
    let free : is_halted m Seven ≡ false = settled_halted tick s.io Seven ∙ h in
    let woke = woken_one Nine tick m in
    let still : is_halted woke Seven ≡ false = woken_halted tick m free in
    let still_put : is_halted (with_seven_part own woke) Seven ≡ false = still in
    ap (woken_one Seven tick) (seven_wakes_nine tick own m)
    ∙ not_woken Seven tick (with_seven_part own woke) still_put
    ∙ ap (with_seven_part own) (sym (not_woken Seven tick woke still))
