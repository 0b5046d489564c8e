use Rattle.nds_top.proofs.Words.{Bool, ConsoleState, IsReady, KeyLine, List, MachineState, None, Option, Proc, SavedBy, Shown, Some, Told, TracedBy}
use Rattle.nds_top.proofs.Words.{WritesAfter, WroteAfter, arith, around, machine_booted, played_status, refl, saved_after, subst, switched_on, ℕ, ◌≡◌}
use Rattle.nds_answers.specs.declared.statuses.Status.TheVariants as statuses
use Rattle.nds_plays.specs.declared.plays.Played.{Played}
use Rattle.nds_plays.specs.declared.plays.Played.TheVariants.{Done, LeftOut, WriteFault}
use Rattle.nds_plays.specs.States.{SavesWhole}
use Rattle.nds_plays.specs.Watches.{Traces}
use Rattle.nds_top.proofs.Outcomes.{other_number}
use Rattle.nds_top.proofs.Running.{at_ticks}

-- What the commands did that watch a run.

module _ {F S : Type 0} (told : F → Option Told) (shelf_faults : F → ℕ) (tells : S → Bool) (taken : S → List ℕ → Type 0) (faults : S → ℕ) (shelf_old shelf_new : F) (old new : S) where
  -- what a trace did, in the call
  pub traced_in : (ticks : ℕ) (proc : Proc) (count : ℕ) (boot : MachineState) (console : ConsoleState) (answer : Played) → console ≡ switched_on boot
      → Traces tells taken faults ticks proc count console.machine old answer new
      → TracedBy (around told shelf_faults tells taken faults shelf_old shelf_new old new None) ticks proc count (played_status answer) boot
  traced_in ticks proc count boot console Done is traced = (let P : ConsoleState → Type 0 = λ k. Traces tells taken faults ticks proc count k.machine old Done new in (refl, subst P is traced))
  traced_in ticks proc count boot console (LeftOut left) is traced =
      (let P : ConsoleState → Type 0 = λ k. Traces tells taken faults ticks proc count k.machine old (LeftOut left) new in (refl, subst P is traced))
  traced_in ticks proc count boot console WriteFault is traced =
      (let P : ConsoleState → Type 0 = λ k. Traces tells taken faults ticks proc count k.machine old WriteFault new in let t = subst P is traced in (refl, t.0, t.1))

  -- what was written after a run, in the call
  pub wrote_in : (ticks : ℕ) (bytes : ConsoleState → List Shown → List ℕ) (file : List ℕ) (lines : List KeyLine) (start console : ConsoleState) (answer : Played)
      → start ≡ switched_on (machine_booted file lines) → WritesAfter tells taken faults ticks bytes start old answer console new
      → WroteAfter (around told shelf_faults tells taken faults shelf_old shelf_new old new (Some console)) ticks bytes (played_status answer) (machine_booted file lines)
  wrote_in ticks bytes file lines start console Done is wrote =
      let P : ConsoleState → Type 0 = λ k. WritesAfter tells taken faults ticks bytes k old Done console new in
      let w = subst P is wrote in
      (w.1.3, ((w.0, w.1.0, w.2), at_ticks _ _ w.1.2, w.1.1, w.1.4))
  wrote_in ticks bytes file lines start console (LeftOut left) is wrote =
      let P : ConsoleState → Type 0 = λ k. WritesAfter tells taken faults ticks bytes k old (LeftOut left) console new in
      let w = subst P is wrote in
      (w.2, (w.1.2, ((w.0, w.1.0), w.1.1)))
  wrote_in ticks bytes file lines start console WriteFault is wrote =
      let P : ConsoleState → Type 0 = λ k. WritesAfter tells taken faults ticks bytes k old WriteFault console new in
      let w = subst P is wrote in
      (w.1.1.3, ((w.1.0, w.1.1.0, (w.0, w.1.2)), at_ticks _ _ w.1.1.2, w.1.1.1, w.1.1.4))

  -- and where that was a saved console
  pub saved_in : (ticks : ℕ) (file : List ℕ) (lines : List KeyLine) (start console : ConsoleState) (answer : Played) → start ≡ switched_on (machine_booted file lines) → IsReady start
      → WritesAfter tells taken faults ticks saved_after start old answer console new → SavesWhole start answer console
      → SavedBy (around told shelf_faults tells taken faults shelf_old shelf_new old new (Some console)) ticks (played_status answer) (machine_booted file lines)
  saved_in ticks file lines start console Done is ready wrote back = (wrote_in ticks saved_after file lines start console Done is wrote, λ e. back ready)
  saved_in ticks file lines start console (LeftOut left) is ready wrote back =
      (wrote_in ticks saved_after file lines start console (LeftOut left) is wrote, λ e. absurd (other_number (statuses.LeftOut left) statuses.Done (λ n. omega (arith, n)) e))
  saved_in ticks file lines start console WriteFault is ready wrote back =
      (wrote_in ticks saved_after file lines start console WriteFault is wrote, λ e. absurd (other_number statuses.WriteFault statuses.Done (λ n. omega (arith, n)) e))
