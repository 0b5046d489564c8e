use Rattle.ds_machine.proofs.Words.{AllReachPrivate, Arch, Bool, FetchOutcome, Half, Instr, MemoryMachine, None, Option, RegisterState, Setting}
use Rattle.ds_machine.proofs.Words.{SideOf, Some, StaysPrivate, Stop, Swi, ThumbSwi, Width, Word, ap, condition, data_accesses, data_waits, enters}
use Rattle.ds_machine.proofs.Words.{executed_unless, executed_word, false, fetched, fetched_half, fetched_word, holds, if_false, if◌then◌else◌}
use Rattle.ds_machine.proofs.Words.{is_thumb, may_go_ahead, meaning, next_fetch, not, refl, side_taken, side_waits, stays_behind, stop_of, subst}
use Rattle.ds_machine.proofs.Words.{swi_stop, sym, true, true≢false, waits_of, waits_of_step, ℕ, ◌&&◌, ◌+◌, ◌∙◌, ◌≡◌}
use Rattle.ds_machine.proofs.PrivateAccesses.{IsApart, StepsAlike, access_moves, all_move, carried_alike, waits_alike}
use Rattle.ds_machine.proofs.Taken.{taken_executed}

-- A step that reaches private places changes the own part alone, and depends on it alone.

-- ---- what may go ahead

-- it needs no stop, since it is no SWI
no_swi : (instr : Instr) → stays_behind instr ≡ false → swi_stop instr ≡ None
no_swi (Swi cond immed) h = absurd (true≢false h)
no_swi (ThumbSwi immed) h = absurd (true≢false h)
no_swi instr h = refl

none_if : (b : Bool) (stop : Option Stop) → stop ≡ None → (if b then stop else None) ≡ None
none_if true stop h = h
none_if false stop h = refl

no_stop : (setting : Setting) (s : RegisterState) (instr : Instr) → stays_behind instr ≡ false → stop_of setting s instr ≡ None
no_stop setting s instr h = none_if (setting.in_rom && holds (condition instr) s.cpsr) (swi_stop instr) (no_swi instr h)

-- it has an instruction, of which both tests are down
pub both_down : (a b : Bool) → (not a && not b) ≡ true → (a ≡ false) × (b ≡ false)
both_down true b h = absurd (true≢false (sym h))
both_down false true h = absurd (true≢false (sym h))
both_down false false h = (refl, refl)

-- ---- the fetch

-- what was fetched is the same where the word or half is
record SameFetch {S : Type 0} (a b : FetchOutcome S) : Type 0 where
  number : a.number ≡ b.number
  instr : a.instr ≡ b.instr

same_fetch : {S : Type 0} (memory : MemoryMachine S) (arch : Arch) (s : RegisterState) (x y : S) (thumb : Bool)
    → memory.fetch_value x s.pc (if thumb then Half else Word) ≡ memory.fetch_value y s.pc (if thumb then Half else Word)
    → SameFetch (if thumb then fetched_half memory arch s x else fetched_word memory arch s x) (if thumb then fetched_half memory arch s y else fetched_word memory arch s y)
same_fetch {S} memory arch s x y true e = rw e (record { number = refl; instr = refl })
same_fetch {S} memory arch s x y false e = rw e (record { number = refl; instr = refl })

-- ---- the step

-- what an instruction comes to that may go ahead
abbrev pub ExecutesAlike : {S O : Type 0} → SideOf S → (O → S → S) → Type 0
ExecutesAlike {S} {O} side put = (s : RegisterState) (own : O) (r t : S) (number : ℕ) (instr : Instr) → may_go_ahead side.step.arch (Some instr) ≡ true
    → AllReachPrivate side (put own r) (data_accesses side.step.arch (side.step.base (put own r)) s (Some instr))
    → StepsAlike put r t (side.step.executed s (put own r) number (Some instr)) (side.step.executed s (put own t) number (Some instr))

module _ {S O : Type 0} (memory : MemoryMachine S) (side : SideOf S) (put : O → S → S) (wrote : O → ℕ → Width → ℕ → O) (apart : IsApart memory side put wrote) where
  unless_alike : (setting : Setting) (s : RegisterState) (instr : Instr) (stop : Option Stop) (own : O) (r t : S) → stop ≡ None
      → AllReachPrivate side (put own r) (meaning setting.arch setting.base s instr).accesses
      → StepsAlike put r t (executed_unless memory setting s (put own r) instr stop) (executed_unless memory setting s (put own t) instr stop)
  unless_alike setting s instr stop own r t e h =
      rw e (carried_alike memory side put wrote apart setting.arch s (meaning setting.arch setting.base s instr) own r t h)

  pub word_alike : (setting : Setting) (s : RegisterState) (number : ℕ) (instr : Instr) (own : O) (r t : S) → stays_behind instr ≡ false
      → AllReachPrivate side (put own r) (meaning setting.arch setting.base s instr).accesses
      → StepsAlike put r t (executed_word memory setting s (put own r) number (Some instr)) (executed_word memory setting s (put own t) number (Some instr))
  word_alike setting s number instr own r t ahead h = unless_alike setting s instr (stop_of setting s instr) own r t (no_stop setting s instr ahead) h

  fetch_alike : (s : RegisterState) (own : O) (r t : S) → StaysPrivate memory side s (put own r)
      → SameFetch (fetched memory side.step.arch s (put own r)) (fetched memory side.step.arch s (put own t))
  fetch_alike s own r t stays =
      same_fetch memory side.step.arch s (put own r) (put own t) (is_thumb s) (apart.fetched own s.pc (if is_thumb s then Half else Word) r t stays.fetch)

  -- what stays private beside a rest stays so beside each other one
  pub private_alike : (s : RegisterState) (own : O) (r t : S) → StaysPrivate memory side s (put own r) → StaysPrivate memory side s (put own t)
  private_alike s own r t stays =
      let same = fetch_alike s own r t stays in
      let alike = apart.moves own r t in
      record {
        fetch = access_moves side (put own r) (put own t) alike (next_fetch s) stays.fetch;
        kind = subst (λ (instr : Option Instr). may_go_ahead side.step.arch instr ≡ true) same.instr stays.kind;
        accesses = all_move side (put own r) (put own t) alike (data_accesses side.step.arch (side.step.base (put own t)) s (fetched memory side.step.arch s (put own t)).instr)
            (subst (λ (instr : Option Instr). AllReachPrivate side (put own r) (data_accesses side.step.arch (side.step.base (put own t)) s instr)) same.instr
            (subst (λ (base : ℕ). AllReachPrivate side (put own r) (data_accesses side.step.arch base s (fetched memory side.step.arch s (put own r)).instr)) (apart.base own r t) stays.accesses));
      }

  executed_alike : ExecutesAlike side put → (s : RegisterState) (own : O) (r t : S) (number : ℕ) (instr : Option Instr) → may_go_ahead side.step.arch instr ≡ true
      → AllReachPrivate side (put own r) (data_accesses side.step.arch (side.step.base (put own r)) s instr)
      → StepsAlike put r t (side.step.executed s (put own r) number instr) (side.step.executed s (put own t) number instr)
  executed_alike executes s own r t number None ahead h = absurd (true≢false (sym ahead))
  executed_alike executes s own r t number (Some instr) ahead h = executes s own r t number instr ahead h

  -- a step comes to the same, whatever the rest is, and the interrupt line, which isn't entered
  pub taken_alike : ExecutesAlike side put → (s : RegisterState) (own : O) (r t : S) (line other : Bool) → enters line s ≡ false → enters other s ≡ false
      → StaysPrivate memory side s (put own r) → StepsAlike put r t (side_taken memory side line s (put own r)) (side_taken memory side other s (put own t))
  taken_alike executes s own r t line other quiet also stays =
      let f = fetched memory side.step.arch s (put own r) in
      let same = fetch_alike s own r t stays in
      let o = executed_alike executes s own r t f.number f.instr stays.kind stays.accesses in
      record {
        own = o.own;
        registers = o.registers;
        clocks = o.clocks;
        some = o.some;
        here = taken_executed memory side line s (put own r) f.number f.instr quiet refl refl ∙ o.here;
        there = taken_executed memory side other s (put own t) f.number f.instr also same.number same.instr ∙ o.there;
      }

  -- and it waits as long
  pub step_waits_alike : (s : RegisterState) (own : O) (r t : S) (line other : Bool) → enters line s ≡ false → enters other s ≡ false
      → StaysPrivate memory side s (put own r) → side_waits memory side line s (put own r) ≡ side_waits memory side other s (put own t)
  unfolding waits_of_step
  step_waits_alike s own r t line other quiet also stays =
      let instr = (fetched memory side.step.arch s (put own r)).instr in
      let first = side.step.wait (put own t) (next_fetch s) in
      let waited : ℕ → Option Instr → ℕ = λ base i. first + waits_of memory side.step.wait (put own t) (data_accesses side.step.arch base s i) in
      if_false (enters line s) 0 (side.step.wait (put own r) (next_fetch s) + data_waits memory side.step s (put own r)) quiet
      ∙ ap (λ (n : ℕ). n + data_waits memory side.step s (put own r)) (apart.waits own (next_fetch s) r t stays.fetch)
      ∙ ap (λ (n : ℕ). first + n) (waits_alike memory side put wrote apart own r t (data_accesses side.step.arch (side.step.base (put own r)) s instr) stays.accesses)
      ∙ ap (λ (base : ℕ). waited base instr) (apart.base own r t)
      ∙ ap (waited (side.step.base (put own t))) (fetch_alike s own r t stays).instr
      ∙ sym (if_false (enters other s) 0 (side.step.wait (put own t) (next_fetch s) + data_waits memory side.step s (put own t)) also)
