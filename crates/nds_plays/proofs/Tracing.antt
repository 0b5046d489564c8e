use Rattle.nds_plays.proofs.Words.{Appended, AppendedFront, At, Bool, ConsoleState, Ending, HasRuns, IsOver, LeftOut, List, MachineState, None}
use Rattle.nds_plays.proofs.Words.{Option, Proc, Runs, Shown, Some, Stopped, Traces, [], ap, append-nil, append_twice, arith, concat, dues_of}
use Rattle.nds_plays.proofs.Words.{front_after, front_of_more, inl, inr, length, length-append, max, one_more_turn, option_to_list, over, reference}
use Rattle.nds_plays.proofs.Words.{refl, run_lines, run_to, subst, suc, sym, take, trace_of, zero, ℕ, ◌*◌, ◌++◌, ◌+◌, ◌-◌, ◌<◌, ◌∙◌, ◌≡◌, ◌≤◌}
use Rattle.std.proofs.Math.Seq.{take-append-add}
use Rattle.std.proofs.Math.Nat.{le-max_left}
use Rattle.std.proofs.lemmas.List.Folds.{concat-append}
use Rattle.ds_io.specs.Faults.{Rose}
use Rattle.nds_plays.proofs.Leads.{GoesOnFrom, Leads, StopsFrom, leads_none, leads_twice}
use Rattle.nds_plays.specs.declared.plays.Played.TheVariants as answers

-- Lines of turns, one after another.

one_at_most : (line : Option (List ℕ)) → length (option_to_list line) ≤ 1
one_at_most None = omega arith
one_at_most (Some line) = omega arith

-- so many turns are left to count
greatest : (old limit until : ℕ) → limit ≤ until → max (max old limit) until ≡ max old until
greatest old limit until le = grind (arith, le)

pub counts_down : (until limit : ℕ) (old new : ConsoleState) → limit ≤ until → old.turns ≤ 24 * old.limit → new ≡ one_more_turn (run_to old limit new.machine)
    → 24 * max new.limit until + 1 - new.turns < 24 * max old.limit until + 1 - old.turns
counts_down until limit old new le few is =
    let most = le-max_left old.limit until in
    let one : new.turns ≡ old.turns + 1 = ap (λ (x : ConsoleState). x.turns) is in
    let same : max new.limit until ≡ max old.limit until = ap (λ (x : ConsoleState). max x.limit until) is ∙ greatest old.limit limit until le in
    omega (arith, most, few, one, same)

module _ {S : Type 0} (tells : S → Bool) (taken : S → List ℕ → Type 0) (faults : S → ℕ) (until : ℕ) (proc : Proc) (count : ℕ) (start : MachineState) (before : S) where
  -- between turns the lines so far are written, and so many are left
  pub record Tracing (now : MachineState) (after : S) (left : ℕ) : Type 0 where
    pub told : List (List ℕ)
    pub on : Leads until proc start told now
    pub counted : length told + left ≡ count
    pub written : Appended tells taken before after (concat told)
    pub later : faults before ≤ faults after

  pub tracing_first : Appended tells taken before before [] → Tracing start before count
  tracing_first none_yet = record {
    told = [];
    on = leads_none until proc start;
    counted = omega arith;
    written = none_yet;
    later = omega arith;
  }

  -- a turn that was taken, and its line
  on_by : (now : MachineState) (after : S) (left : ℕ) (w : Tracing now after left) (next : MachineState) (line : Option (List ℕ)) → Leads until proc now (option_to_list line) next
      → Leads until proc start (w.told ++ option_to_list line) next
  on_by now after left w next line leads = leads_twice until proc start now next w.told (option_to_list line) w.on leads

  counted_by : (told : List (List ℕ)) (left fewer : ℕ) (line : Option (List ℕ)) → length told + left ≡ count → fewer + length (option_to_list line) ≡ left → length (told ++ option_to_list line) + fewer ≡ count
  counted_by told left fewer line e f = let long = length-append told (option_to_list line) in omega (arith, e, f, long)

  pub tracing_on : (now : MachineState) (after : S) (left : ℕ) (w : Tracing now after left) (next : MachineState) (line : Option (List ℕ)) → Leads until proc now (option_to_list line) next
      → (latest : S) (fewer : ℕ) → Appended tells taken after latest (concat (option_to_list line)) → faults after ≤ faults latest → fewer + length (option_to_list line) ≡ left → Tracing next latest fewer
  tracing_on now after left w next line leads latest fewer put later count_down =
      let P : List ℕ → Type 0 = λ x. Appended tells taken before latest x in
      let first : faults before ≤ faults after = w.later in
      record {
        told = w.told ++ option_to_list line;
        on = on_by now after left w next line leads;
        counted = counted_by w.told left fewer line w.counted count_down;
        written = subst P (sym (concat-append w.told (option_to_list line))) (append_twice tells taken before after latest (concat w.told) (concat (option_to_list line)) w.written put);
        later = omega (arith, first, later);
      }

  -- the trace of a run that goes on
  trace_split : (told : List (List ℕ)) (left : ℕ) (end : Ending MachineState LeftOut) (now : MachineState) (outs : List Shown) (run : Runs reference until end now outs) (on : GoesOnFrom until proc start told end now outs run)
      → length told + left ≡ count → trace_of proc count on.whole ≡ concat told ++ concat (take left (run_lines proc run))
  trace_split told left end now outs run on counted =
      ap (λ (n : ℕ). concat (take n (run_lines proc on.whole))) (sym counted)
      ∙ ap (λ (x : List (List ℕ)). concat (take (length told + left) x)) on.lines
      ∙ ap concat (take-append-add told (run_lines proc run) left)
      ∙ concat-append told (take left (run_lines proc run))

  -- all lines are written
  pub tracing_full : (now : MachineState) (after : S) (left : ℕ) (w : Tracing now after left) → left ≡ 0 → HasRuns now → Traces tells taken faults until proc count start before answers.Done after
  tracing_full now after left w none_left has =
      let rest = has until in
      let on = w.on rest.0 rest.1 rest.2 in
      let P : List ℕ → Type 0 = λ x. Appended tells taken before after x in
      let all : trace_of proc count on.whole ≡ concat w.told =
      trace_split w.told left rest.0 now rest.1 rest.2 on w.counted ∙ ap (λ (n : ℕ). concat w.told ++ concat (take n (run_lines proc rest.2))) none_left ∙ append-nil (concat w.told) in
      let long : length (run_lines proc on.whole) ≡ length w.told + length (run_lines proc rest.2) = ap length on.lines ∙ length-append w.told (run_lines proc rest.2) in
      let counted = w.counted in
      (rest.0, on.all, on.whole, inl (omega (arith, long, counted, none_left)), subst P (sym all) w.written)

  -- the run has no more
  take_none : (n : ℕ) → concat (take n []) ≡ []
  take_none zero = refl
  take_none (suc n) = refl

  ended : (now : MachineState) (after : S) (left : ℕ) (w : Tracing now after left) (end : Ending MachineState LeftOut) (outs : List Shown) (run : Runs reference until end now outs) (on : GoesOnFrom until proc start w.told end now outs run)
      → run_lines proc run ≡ [] → Appended tells taken before after (trace_of proc count on.whole)
  ended now after left w end outs run on none_told =
      let P : List ℕ → Type 0 = λ x. Appended tells taken before after x in
      let all : trace_of proc count on.whole ≡ concat w.told =
      trace_split w.told left end now outs run on w.counted ∙ ap (λ (x : List (List ℕ)). concat w.told ++ concat (take left x)) none_told
      ∙ ap (λ (x : List ℕ). concat w.told ++ x) (take_none left) ∙ append-nil (concat w.told) in
      subst P (sym all) w.written

  pub tracing_over : (now : MachineState) (after : S) (left : ℕ) (w : Tracing now after left) → IsOver (dues_of now) until → Traces tells taken faults until proc count start before answers.Done after
  tracing_over now after left w none_due =
      let run : Runs reference until (At now) now [] = over now none_due in
      let on = w.on (At now) [] run in
      (At now, on.all, on.whole, inr (now, refl), ended now after left w (At now) [] run on refl)

  pub tracing_stopped : (now : MachineState) (after : S) (left : ℕ) (w : Tracing now after left) (stop : LeftOut) → StopsFrom until proc now stop → 0 < left
      → Traces tells taken faults until proc count start before (answers.LeftOut stop) after
  tracing_stopped now after left w stop k some =
      let on = w.on (Stopped stop) k.all k.whole in
      let long : length (run_lines proc on.whole) ≡ length w.told + 0 =
      ap length on.lines ∙ length-append w.told (run_lines proc k.whole) ∙ ap (λ (x : List (List ℕ)). length w.told + length x) k.lines in
      let counted = w.counted in
      (Stopped stop, on.all, on.whole, (refl, omega (arith, long, counted, some)), ended now after left w (Stopped stop) k.all k.whole on k.lines)

  -- a call of the sink failed
  pub tracing_failed : (now : MachineState) (after : S) (left : ℕ) (w : Tracing now after left) (next : MachineState) (line : Option (List ℕ)) → Leads until proc now (option_to_list line) next
      → (latest : S) → AppendedFront tells taken after latest (concat (option_to_list line)) → Rose (faults after) (faults latest) → 0 < left → HasRuns next
      → Traces tells taken faults until proc count start before answers.WriteFault latest
  tracing_failed now after left w next line leads latest put rose some has =
      let fewer : ℕ = left - length (option_to_list line) in
      let one = one_at_most line in
      let count_down : fewer + length (option_to_list line) ≡ left = omega (arith, one, some) in
      let rest = has until in
      let on = on_by now after left w next line leads rest.0 rest.1 rest.2 in
      let told = w.told ++ option_to_list line in
      let more_lines = concat (take fewer (run_lines proc rest.2)) in
      let P : List ℕ → Type 0 = λ x. AppendedFront tells taken before latest x in
      let first : faults before ≤ faults after = w.later in
      let all : trace_of proc count on.whole ≡ (concat w.told ++ concat (option_to_list line)) ++ more_lines =
      trace_split told fewer rest.0 next rest.1 rest.2 on (counted_by w.told left fewer line w.counted count_down) ∙ ap (λ (x : List ℕ). x ++ more_lines) (concat-append w.told (option_to_list line)) in
      let front = front_of_more tells taken before latest (concat w.told ++ concat (option_to_list line)) more_lines
      (front_after tells taken before after latest (concat w.told) (concat (option_to_list line)) w.written put) in
      (omega (arith, first, rose), (rest.0, on.all, on.whole, tt, subst P (sym all) front))
