use Rattle.run_ahead.proofs.Words.{BelongsToTurn, Bool, Due, IsLeast, List, MachineState, Nine, None, Option, Proc, Seven, Some, Tick, []}
use Rattle.run_ahead.proofs.Words.{acting_dues, ap, arith, false, geometry_rank, if◌then◌else◌, inl, inr, is_blocked, list_all, low_or_high, nat_le}
use Rattle.run_ahead.proofs.Words.{none-some, rank_of, refl, same_Some, same_or_not, sym, tick_of, true, true_or_false, true≢false, ℕ, ◌<◌, ◌∙◌, ◌∷◌}
use Rattle.run_ahead.proofs.Words.{◌≡◌, ◌⊎◌}
use Rattle.std.proofs.lemmas.List.Elements.{All-contains}
use Rattle.std.proofs.lemmas.List.Sums.{AllPass-from_list_all}
use Rattle.ds_base.specs.Accesses.{Access, Fetch, MemoryMachine, Read, Write}
use Rattle.ds_card.specs.Cards.{card_due_for}
use Rattle.arm_core.specs.Footprints.{access_bytes}
use Rattle.arm_core.specs.Registers.{RegisterState}
use Rattle.arm_core.specs.Steps.{fetched}
use Rattle.ds_map.specs.Views.{nine_memory, seven_memory}
use Rattle.ds_runs.specs.OrderLaws.{due_with_rank, earlier, first_from}
use Rattle.ds_ports.specs.Acting.{acting_io_due}
use Rattle.ds_runs.specs.declared.actors.Actor.TheVariants.{Geometry}
use Rattle.ds_runs.proofs.Lists.{has_least}
use Rattle.video2d.specs.Scans.{scan_due_tick}
use Rattle.ds_machine.specs.FenceTicks.{channel_dues, timer_dues}
use Rattle.ds_machine.specs.Private.{AllReachPrivate, IsAhead, IsPrivate, ProcessorStaysPrivate, ReachesPrivate, StaysPrivate, is_deaf, may_go_ahead}
use Rattle.ds_machine.specs.PrivateLaws.{IsFence}
use Rattle.ds_machine.specs.Sides.{data_accesses, next_fetch}
use Rattle.ds_machine.specs.Reference.{keys_due, processor_due}
use Rattle.ds_machine.specs.PrivateSides.{SideOf, nine_side, seven_side}
use Rattle.ds_machine.specs.Steps.{line_of, nine_reach, seven_reach}
use Rattle.ds_machine.proofs.ActingDues.{somebody_acts}
use Rattle.ds_machine.proofs.FenceFirsts.{ahead_where, below_is, below_then, below_where, fence_is, least_where, nine_by_parts, rank_where, seven_by_parts}
use Rattle.ds_machine.proofs.PrivateTests.{Passes, all_of}
use Rattle.ds_runs.proofs.AllActors.{actor_rank}
use Rattle.ds_runs.specs.declared.actors.Actor.TheVariants as who

-- Whether a processor's step belongs to its turn: it does, or it doesn't.

abbrev pub IsDecided : Type 0 → Type 0
IsDecided P = P ⊎ (P → ⊥)

both : (P Q : Type 0) → IsDecided P → IsDecided Q → IsDecided (P × Q)
both P Q p q = elim p [
  | inl so ↦ elim q [ inl too ↦ inl (so, too) | inr never ↦ inr (λ h. never h.1) ]
  | inr never ↦ inr (λ h. never h.0)
]

is_bit : (a b : Bool) → IsDecided (a ≡ b)
is_bit true true = inl refl
is_bit true false = inr (λ e. true≢false e)
is_bit false true = inr (λ e. true≢false (sym e))
is_bit false false = inl refl

-- ---- private places

passes : (p : ℕ → Bool) (xs : List ℕ) → IsDecided (Passes p xs)
passes p xs = elim (true_or_false (list_all p xs)) [
  | inl all ↦ inl (λ x c. All-contains (λ y. p y ≡ true) xs x (AllPass-from_list_all p xs all) c)
  | inr some ↦ inr (λ h. absurd (true≢false (sym (all_of p xs h) ∙ some)))
]

module _ {S : Type 0} (side : SideOf S) (state : S) where
  reaches : (access : Access) → IsDecided (ReachesPrivate side state access)
  reaches (Fetch at width) = passes (side.is_private state false true) (access_bytes (Fetch at width))
  reaches (Read at width) = passes (side.is_private state false false) (access_bytes (Read at width))
  reaches (Write at width value) = passes (side.is_private state true false) (access_bytes (Write at width value))

  all_reach : (accesses : List Access) → IsDecided (AllReachPrivate side state accesses)
  all_reach [] = inl tt
  all_reach (access ∷ rest) = both (ReachesPrivate side state access) (AllReachPrivate side state rest) (reaches access) (all_reach rest)

  stays : (memory : MemoryMachine S) (s : RegisterState) → IsDecided (StaysPrivate memory side s state)
  stays memory s =
      let accesses = data_accesses side.step.arch (side.step.base state) s (fetched memory side.step.arch s state).instr in
      let kind = may_go_ahead side.step.arch (fetched memory side.step.arch s state).instr in
      elim (reaches (next_fetch s)) [
        | inr never ↦ inr (λ h. never h.fetch)
        | inl fetch ↦ elim (both (kind ≡ true) (AllReachPrivate side state accesses) (is_bit kind true) (all_reach accesses)) [
          | inr never ↦ inr (λ h. never (h.kind, h.accesses))
          | inl k ↦ inl (record { fetch = fetch; kind = k.0; accesses = k.1 })
        ]
      ]

own_stays : (s : MachineState) (proc : Proc) → IsDecided (ProcessorStaysPrivate s proc)
own_stays s Nine = stays nine_side (nine_reach (tick_of s.nine.processor) s) nine_memory s.nine.processor.registers
own_stays s Seven = stays seven_side (seven_reach (tick_of s.seven.processor) s) seven_memory s.seven.processor.registers

private_or_not : (s : MachineState) (proc : Proc) → IsDecided (IsPrivate s proc)
private_or_not s proc =
    let Free : Type 0 = is_blocked s proc ≡ false in
    let Down : Type 0 = line_of s proc ≡ false in
    let Deaf : Type 0 = is_deaf s proc ≡ true in
    elim (both Free (Down × Deaf) (is_bit (is_blocked s proc) false) (both Down Deaf (is_bit (line_of s proc) false) (is_bit (is_deaf s proc) true))) [
      | inr never ↦ inr (λ h. never (h.free, (h.down, h.deaf)))
      | inl k ↦ elim (own_stays s proc) [
        | inr never ↦ inr (λ h. never h.own)
        | inl own ↦ inl (record { free = k.0; down = k.1.0; deaf = k.1.1; own = own })
      ]
    ]

-- ---- the fence is there: the display always acts

pair_first : (one : Due) (rest : Option Due) → (first : Due) × (Some first ≡ earlier (Some one) rest)
pair_first one None = (one, refl)
pair_first one (Some other) = choose (nat_le one.tick.0 other.tick.0) where
  choose : (b : Bool) → (first : Due) × (Some first ≡ (if b then Some one else Some other))
  choose true = (one, refl)
  choose false = (other, refl)

then_first : (a : Option Due) (one : Due) → (first : Due) × (Some first ≡ earlier a (Some one))
then_first None one = (one, refl)
then_first (Some d) one = pair_first d (Some one)

some_first : (a : Option Due) (one : Due) (rest : Option Due) → (first : Due) × (Some first ≡ earlier a (earlier (Some one) rest))
some_first a one rest = let k = pair_first one rest in let g = then_first a k.0 in (g.0, g.1 ∙ ap (earlier a) k.1)

pub fence_there : (s : MachineState) (proc : Proc) → (fence : Tick) × IsFence s proc fence
fence_there s Nine =
    let rest = earlier (first_from (actor_rank (who.Timer Nine 0)) (timer_dues s.io Nine)) (earlier (due_with_rank geometry_rank (acting_io_due Geometry s.io))
    (earlier (due_with_rank (actor_rank who.Card) (card_due_for Nine s.io.card)) (first_from (actor_rank (who.Dma Nine 0)) (channel_dues s.io Nine)))) in
    let k = some_first (due_with_rank (actor_rank who.KeyScript) (keys_due s.keys)) (record { tick = scan_due_tick s.io.video.scan; rank = actor_rank who.Video }) rest in
    (k.0.tick, fence_is s Nine k.0 (k.1 ∙ sym (nine_by_parts s)))
fence_there s Seven =
    let rest = earlier (first_from (actor_rank (who.Timer Seven 0)) (timer_dues s.io Seven)) (earlier (due_with_rank (actor_rank who.Card) (card_due_for Seven s.io.card)) (first_from (actor_rank (who.Dma Seven 0)) (channel_dues s.io Seven))) in
    let k = some_first (due_with_rank (actor_rank who.KeyScript) (keys_due s.keys)) (record { tick = scan_due_tick s.io.video.scan; rank = actor_rank who.Video }) rest in
    (k.0.tick, fence_is s Seven k.0 (k.1 ∙ sym (seven_by_parts s)))

ahead_or_not : (s : MachineState) (proc : Proc) (tick : Tick) → processor_due s proc ≡ Some tick → IsDecided (IsAhead s proc)
ahead_or_not s proc tick due =
    let fence = fence_there s proc in
    elim (private_or_not s proc) [
      | inr never ↦ inr (λ a. never a.private)
      | inl private ↦ elim (low_or_high tick.0 fence.0.0) [
        | inl lt ↦ inl (ahead_where s proc tick (below_is s proc fence.0 tick fence.1 lt) due private)
        | inr le ↦ inr (λ a. (let lt = below_then s proc fence.0 tick fence.1 (below_where s proc tick due a) in absurd (omega (arith, lt, le))))
      ]
    ]

-- ---- so it is decided

-- the least acting actor
pub least_acts : (s : MachineState) → (first : Due) × IsLeast (acting_dues s) first.tick first.rank
least_acts s = let l = has_least (acting_dues s) 1 (scan_due_tick s.io.video.scan) (somebody_acts s) in (record { tick = l.0; rank = l.1 }, l.2)

module _ (until : ℕ) (s : MachineState) (proc : Proc) where
  due_below : (tick : Tick) → processor_due s proc ≡ Some tick → tick.0 < until → IsDecided (BelongsToTurn until s proc)
  due_below tick due lt =
      let first = least_acts s in
      elim (same_or_not first.0.rank (rank_of proc)) [
        | inl same ↦ inl (record { tick = tick; due = due; below = lt; goes = inl (least_where s proc first.0 tick first.1 due same) })
        | inr other ↦ elim (ahead_or_not s proc tick due) [
          | inl ahead ↦ inl (record { tick = tick; due = due; below = lt; goes = inr ahead })
          | inr never ↦ inr (λ b. elim b.goes [ inl least ↦ other (rank_where s proc first.0 b.tick first.1 least) | inr ahead ↦ never ahead ])
        ]
      ]

  due_or_not : (due : Option Tick) → processor_due s proc ≡ due → IsDecided (BelongsToTurn until s proc)
  due_or_not None e = inr (λ b. none-some b.tick (sym e ∙ b.due))
  due_or_not (Some tick) e = elim (low_or_high tick.0 until) [
    | inl lt ↦ due_below tick e lt
    | inr le ↦ inr (λ b. (let same = ap (λ (t : Tick). t.0) (same_Some tick b.tick (sym e ∙ b.due)) in let lt = b.below in absurd (omega (arith, same, lt, le))))
  ]

  pub belongs_or_not : IsDecided (BelongsToTurn until s proc)
  belongs_or_not = due_or_not (processor_due s proc) refl
