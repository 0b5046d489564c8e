use Rattle.std.proofs.Common.{ℕ, zero, suc, ◌≡◌, ◌≤◌, ◌+◌, ◌*◌, ◌%◌, ◌^◌, ◌==◌, Bool, true, false, true≢false, List, [], ◌∷◌, length, map, Option, Some, None, refl, sym, ◌∙◌, ap, subst, arith}
use Rattle.std.specs.Prelude.{◌||◌, ◌&&◌, not, if◌then◌else◌}
use Rattle.std.proofs.lemmas.List.{length-map}
use Rattle.std.proofs.lemmas.Option.{none-some}
use Rattle.ds_base.specs.Accesses.{MemoryMachine, Performed, perform}
use Rattle.ds_base.specs.Bits.{bit}
use Rattle.ds_base.specs.declared.left_out.Stop.{Stop}
use Rattle.ds_base.specs.declared.memories.Width.TheVariants.{Word}
use Rattle.ds_base.specs.declared.processors.Arch.{Arch}
use Rattle.arm_core.specs.Addressing.{list_bytes, listed_from, listed_registers, lowest, moved_base}
use Rattle.arm_core.specs.Effects.{Meaning, carried_out, concluded}
use Rattle.arm_core.specs.Multiples.{multiple_meaning, reached_bank, reads, stored_value, stores_new_base, transferred, writes}
use Rattle.arm_core.specs.Registers.{RegisterState, register}
use Rattle.arm_core.specs.declared.outcomes.Stepped.{Stepped}
use Rattle.arm_exec.proofs.Costs.{some_cost}
use Rattle.arm_exec.proofs.Lists.{goes_on, reads_go}
use Rattle.arm_ops.specs.Inside.{IsPaid}
use Rattle.arm_ops.specs.Meanings.{AreNear, RefusesNoneInRam, is_ram, op_meaning}
use Rattle.arm_ops.specs.declared.operations.Op.TheVariants.{Multiple}
use Rattle.arm_ops.specs.declared.operations.RegisterList.{RegisterList}

-- LDM and STM whose words all are of RAM.

-- ---- there are sixteen of them at most

at_most : (b : Bool) (r count : ℕ) (rest : List ℕ) → length rest ≤ count → length (if b then r ∷ rest else rest) ≤ suc count
at_most true r count rest h = omega (arith, h)
at_most false r count rest h = omega (arith, h)

pub listed_within : (count r list : ℕ) → length (listed_from count r list) ≤ count
unfolding listed_from
listed_within zero r list = omega arith
listed_within (suc count) r list = at_most (bit r list) r count (listed_from count (r + 1) list) (listed_within count (r + 1) list)

-- ---- where so many words from an address up are of RAM, each is

ram_at : (at count : ℕ) → 0x2000000 ≤ at → at + 4 * suc count ≤ 0x4000000 → is_ram at ≡ true
ram_at at count low high = grind (arith, low, high)

next_at : (at count : ℕ) → at + 4 * suc count ≤ 0x4000000 → (at + 4) % 2 ^ 32 ≡ at + 4
next_at at count high = omega (arith, high)

either : (b c : Bool) → b ≡ true → (b || c) ≡ true
either true c h = refl
either false c h = absurd (true≢false (sym h))

reads_near : (near : ℕ → Bool) (at : ℕ) (rs : List ℕ) → 0x2000000 ≤ at → at + 4 * length rs ≤ 0x4000000 → AreNear near (reads at rs)
reads_near near at [] low high = tt
reads_near near at (r ∷ rs) low high =
    let e = next_at at (length rs) high in (
      either (is_ram at) (near at) (ram_at at (length rs) low high),
      subst (λ (n : ℕ). AreNear near (reads n rs)) (sym e) (reads_near near (at + 4) rs (omega (arith, low)) (omega (arith, high))),
    )

writes_near : (near : ℕ → Bool) (at : ℕ) (values : List ℕ) → 0x2000000 ≤ at → at + 4 * length values ≤ 0x4000000 → AreNear near (writes at values)
writes_near near at [] low high = tt
writes_near near at (value ∷ rest) low high =
    let e = next_at at (length rest) high in (
      ram_at at (length rest) low high,
      subst (λ (n : ℕ). AreNear near (writes n rest)) (sym e) (writes_near near (at + 4) rest (omega (arith, low)) (omega (arith, high))),
    )

writes_go : {S : Type 0} (m : MemoryMachine S) → RefusesNoneInRam m → (s : S) (at : ℕ) (values : List ℕ) → 0x2000000 ≤ at → at + 4 * length values ≤ 0x4000000
    → (perform m s (writes at values)).stop ≡ None
writes_go m none s at [] low high = refl
writes_go {S} m none s at (value ∷ rest) low high =
    let e = next_at at (length rest) high in
    let next : S = m.write_next s at Word value in
    ap (λ (p : Performed S). p.stop) (goes_on m s at value (writes ((at + 4) % 2 ^ 32) rest) (none s at Word value (ram_at at (length rest) low high)))
    ∙ ap (λ (n : ℕ). (perform m next (writes n rest)).stop) e
    ∙ writes_go m none next (at + 4) rest (omega (arith, low)) (omega (arith, high))

-- ---- so it is of a transfer whose first word is so far from the end of RAM

module _ (arch : Arch) (s : RegisterState) (it : RegisterList) where
  abbrev first : ℕ
  first = lowest it.pre it.up (register s it.rn) (list_bytes it.list)

  abbrev listed : List ℕ
  listed = listed_registers (transferred arch it.list)

  abbrev stored : ℕ → ℕ
  stored = stored_value s (reached_bank s false) it.rn (it.write_back && not (it.rn == 15) && stores_new_base arch it.rn it.list)
      (moved_base it.up (register s it.rn) (list_bytes it.list))

  few : length listed ≤ 16
  few = listed_within 16 0 (transferred arch it.list)

  few_stored : length (map stored listed) ≤ 16
  few_stored = (let e = length-map listed stored in let k = few in omega (arith, e, k))

  within : (n : ℕ) → n ≤ 16 → first ≤ 0x3FFFFC0 → first + 4 * n ≤ 0x4000000
  within n k high = omega (arith, k, high)

  near_by : (near : ℕ → Bool) (load : Bool) → 0x2000000 ≤ first → first ≤ 0x3FFFFC0
      → AreNear near (multiple_meaning arch s it.pre it.up false it.write_back load it.rn it.list).accesses
  near_by near true low high = reads_near near first listed low (within (length listed) few high)
  near_by near false low high = writes_near near first (map stored listed) low (within (length (map stored listed)) few_stored high)

  pub list_near : (near : ℕ → Bool) → 0x2000000 ≤ first → first ≤ 0x3FFFFC0 → AreNear near (op_meaning arch s (Multiple it)).accesses
  list_near near low high = near_by near it.load low high

  module _ {S : Type 0} (memory : MemoryMachine S) (state : S) (ram : RefusesNoneInRam memory) where
    none_by : (load : Bool) → 0x2000000 ≤ first → first ≤ 0x3FFFFC0
        → (perform memory state (multiple_meaning arch s it.pre it.up false it.write_back load it.rn it.list).accesses).stop ≡ None
    none_by true low high = reads_go memory state first listed
    none_by false low high = writes_go memory ram state first (map stored listed) low (within (length (map stored listed)) few_stored high)

    paid_by : (m : Meaning) (done : Performed S) (stop : Option Stop) → stop ≡ None → IsPaid (concluded arch s m done stop).stepped
    paid_by m done None e = some_cost arch m
    paid_by m done (Some stop) e = absurd (none-some stop (sym e))

    pub list_paid : (stepped : Stepped) → stepped ≡ (carried_out memory arch s state (op_meaning arch s (Multiple it))).stepped → 0x2000000 ≤ first → first ≤ 0x3FFFFC0
        → IsPaid stepped
    list_paid stepped e low high =
        let m = multiple_meaning arch s it.pre it.up false it.write_back it.load it.rn it.list in
        let done = perform memory state m.accesses in
        subst IsPaid (sym e) (paid_by m done done.stop (none_by it.load low high))
