use Rattle.run_ahead.proofs.Words.{ConsoleState, EachRan, FollowFrames, FollowLists, GoesOn, HasTurned, LeftOut, MachineState, None, Option, RanOn}
use Rattle.run_ahead.proofs.Words.{RunsOn, Some, Turns, TurnsUpTo, [], ap, arith, counted_of, inl, inr, is_some, last_frame, last_lists, max, no_turn}
use Rattle.run_ahead.proofs.Words.{one_more_turn, one_turn, refl, run_to, shown_in, subst, sym, true≢false, turns_in, ℕ, ◌+◌, ◌∙◌, ◌≡◌, ◌⊎◌}
use Rattle.run_ahead.specs.Inside.{raised, raised_by}
use Rattle.run_ahead.specs.declared.turns.Turned as turned
use Rattle.run_ahead.specs.declared.turns.Turned.TheVariants as answers
use Rattle.run_ahead.proofs.TurnLaws.{turns_add_up}

-- Turns one after another.

-- turns and then more turns
pub turned_twice : (until : ℕ) (a b c : ConsoleState) → HasTurned until a b → HasTurned until b c → HasTurned until a c
turned_twice until a b c first (no_turn start) = first
turned_twice until a b c first (one_turn start before now answer earlier last) = one_turn a before now answer (turned_twice until a start before first earlier) last

max_twice : (a b c : ℕ) → max a c ≡ max b c → max (max a c) c ≡ max b c
max_twice a b c h = omega (arith, h)

-- once more is the limit raised to the same
pub raised_again : (until : ℕ) (start before now : ConsoleState) → max before.limit until ≡ max start.limit until → now ≡ one_more_turn (run_to before until now.machine)
    → max now.limit until ≡ max start.limit until
raised_again until start before now raised is =
    let P : ℕ → Type 0 = λ x. max x until ≡ max start.limit until in
    subst P (sym (ap (λ (x : ConsoleState). x.limit) is)) (max_twice before.limit start.limit until raised)

-- before the first the console ran on
pub ran_first : (until : ℕ) (start : ConsoleState) → RanOn until start start
ran_first until start = record {
  turned = no_turn start;
  each_ran = tt;
  stopped = refl;
  limit = refl;
  goes_on = λ limit le end outs run. run;
  frame = refl;
  lists = refl;
}

-- and so after one more that ran
pub ran_more : (until : ℕ) (start before now : ConsoleState) → RanOn until start before → Turns until before answers.Ran now → GoesOn until before.machine now.machine []
    → last_frame now.machine ≡ last_frame before.machine → last_lists now.machine ≡ last_lists before.machine → RanOn until start now
ran_more until start before now ran last on frame lists = record {
  turned = one_turn start before now answers.Ran ran.turned last;
  each_ran = (ran.each_ran, refl);
  stopped = ap (λ (x : ConsoleState). x.stopped) last.2 ∙ ran.stopped;
  limit = raised_again until start before now ran.limit last.2;
  goes_on = λ limit le end outs run. ran.goes_on limit le end outs (on limit le end outs run);
  frame = frame ∙ ran.frame;
  lists = lists ∙ ran.lists;
}

-- what these and a last one add to the counts
pub up_to_counts : (until : ℕ) (start before now : ConsoleState) (answer : turned.Turned) (ran : RanOn until start before) → Turns until before answer now
    → now.turns ≡ counted_of answer + turns_in ran.turned + start.turns
up_to_counts until start before now answer ran last = turns_add_up until start now (one_turn start before now answer ran.turned last)

-- ---- a turn whose limit was raised before

raised_machine : (s : Option LeftOut) (until : ℕ) (c : ConsoleState) → (raised_by s until c).machine ≡ c.machine
raised_machine None until c = refl
raised_machine (Some left) until c = refl

-- raising the limit leaves the machine
pub raised_leaves : (until : ℕ) (c : ConsoleState) → (raised until c).machine ≡ c.machine
raised_leaves until c = raised_machine c.stopped until c

module _ (until : ℕ) (old : ConsoleState) (still : old.stopped ≡ None) where
  abbrev from : ConsoleState
  from = run_to old until old.machine

  same_run : (next : MachineState) → run_to from until next ≡ run_to old until next
  same_run next = ap (λ (l : ℕ). (let c : ConsoleState = record old { machine = next; limit = l } in c)) (max_same old.limit until) where
    max_same : (a b : ℕ) → max (max a b) b ≡ max a b
    max_same a b = omega arith

  -- the first turn does the same
  raised_turn : (new : ConsoleState) (answer : turned.Turned) → Turns until from answer new → Turns until old answer new
  raised_turn new answers.Ran t = (t.0, t.1, t.2 ∙ ap one_more_turn (same_run new.machine))
  raised_turn new (answers.Frame swapped) t = (t.0, t.1, t.2 ∙ ap one_more_turn (same_run new.machine))
  raised_turn new answers.AtEnd t = (t.0, t.1, t.2 ∙ same_run old.machine)
  raised_turn new (answers.Stopped left) t = (
    λ none. (let k = t.0 none in (k.0, k.1 ∙ ap (λ (c : ConsoleState). record c { stopped = Some left }) (same_run new.machine))),
    λ some. absurd (true≢false (sym some ∙ ap is_some still)),
  )

  -- turns from there are none, or turns from before it
  raised_turned : (now : ConsoleState) (t : HasTurned until from now) → EachRan t
      → ((now ≡ from) × (turns_in t ≡ 0)) ⊎ ((u : HasTurned until old now) × EachRan u × (turns_in u ≡ turns_in t))
  raised_turned now (no_turn start) each = inl (refl, refl)
  raised_turned now (one_turn start before next answer earlier last) each = elim (raised_turned before earlier each.0) [
    | inl is ↦ inr (
      one_turn old old next answer (no_turn old) (raised_turn next answer (subst (λ (c : ConsoleState). Turns until c answer next) is.0 last)),
      (tt, each.1),
      ap (λ (n : ℕ). counted_of answer + n) (sym is.1),
    )
    | inr k ↦ inr (one_turn old before next answer k.0 last, (k.1, each.1), ap (λ (n : ℕ). counted_of answer + n) k.2)
  ]

-- so turns up to one that answers otherwise are those from before the limit was raised
pub up_to_raised : (until : ℕ) (old : ConsoleState) (answer : turned.Turned) (new : ConsoleState) → TurnsUpTo until (raised until old) answer new → TurnsUpTo until old answer new
unfolding ran_first
up_to_raised until old answer new = by_stop old.stopped refl where
  by_stop : (s : Option LeftOut) → old.stopped ≡ s → TurnsUpTo until (raised_by s until old) answer new → TurnsUpTo until old answer new
  by_stop (Some left) e t = t
  by_stop None e t = elim (raised_turned until old e t.before t.ran.turned t.ran.each_ran) [
    | inl is ↦ (let machine = ap (λ (c : ConsoleState). c.machine) is.0 in record {
      before = old;
      ran = ran_first until old;
      last = raised_turn until old e new answer (subst (λ (c : ConsoleState). Turns until c answer new) is.0 t.last);
      runs = λ none. subst (λ (m : MachineState). RunsOn until m answer new.machine) machine (t.runs (ap (λ (c : ConsoleState). c.stopped) is.0 ∙ none));
      frames = subst (λ (m : MachineState). FollowFrames m new.machine (shown_in answer m new.machine)) machine t.frames;
      lists = subst (λ (m : MachineState). FollowLists m new.machine (shown_in answer m new.machine)) machine t.lists;
      counted = t.counted ∙ ap (λ (n : ℕ). counted_of answer + n + old.turns) is.1;
    })
    | inr k ↦ record {
      before = t.before;
      ran = record {
        turned = k.0;
        each_ran = k.1;
        stopped = t.ran.stopped;
        limit = (let l = t.ran.limit in omega (arith, l));
        goes_on = t.ran.goes_on;
        frame = t.ran.frame;
        lists = t.ran.lists;
      };
      last = t.last;
      runs = t.runs;
      frames = t.frames;
      lists = t.lists;
      counted = t.counted ∙ ap (λ (n : ℕ). counted_of answer + n + old.turns) (sym k.2);
    }
  ]
