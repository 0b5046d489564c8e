use Rattle.nds_plays.proofs.Words.{All, Appended, AppendedFront, At, Bool, ConsoleState, Ending, Err, GoesOn, HasSoundParts, HasTurned, IsSound, Keep}
use Rattle.nds_plays.proofs.Words.{Last, LeftOut, List, MachineState, None, Nothing, Ok, Option, Puts, RanOn, Result, Runs, RunsTo, Shown, Some}
use Rattle.nds_plays.proofs.Words.{Swapped, TurnsUpTo, WholeFrame, [], ap, append-nil, append_assoc, append_twice, arith, ending, false, flat_map}
use Rattle.nds_plays.proofs.Words.{flat_map-append, frame_records, frame_shown, frames_shown, front_after, front_of_more, if◌then◌else◌, is_err}
use Rattle.nds_plays.proofs.Words.{last_frame, last_lists, last_or, last_records, latest_of, length, length-append, lists_records, lists_shown, max}
use Rattle.nds_plays.proofs.Words.{most_after, most_shown, next_shown, no_turn, one_turn, option_to_list, reference, refl, shown_after, shown_now}
use Rattle.nds_plays.proofs.Words.{subst, swapped_lists, sym, true, true≢false, ℕ, ◌*◌, ◌++◌, ◌<◌, ◌^◌, ◌∙◌, ◌∷◌, ◌≡◌, ◌≤◌}
use Rattle.ds_machine.specs.FrameLaws.{FollowFrames, FollowLists, FramesAreFew}
use Rattle.nds_plays.specs.Plays.{Wrote, WroteFront}
use Rattle.nds_plays.specs.Records.{Latest, kept_records, latest_after, output_of, shown_while, shown_records}
use Rattle.std.specs.Result.{OnOk}
use Rattle.run_ahead.specs.ToEnd.{TurnsToEnd, at_end, counts, meets_stop}
use Rattle.run_ahead.specs.declared.turns.Turned.{Turned}
use Rattle.run_ahead.specs.declared.turns.Turned.TheVariants as answers
use Rattle.run_ahead.proofs.RunningOn.{raised_again, turned_twice}
use Rattle.run_ahead.proofs.TurnExists.{turns_end}
use Rattle.run_ahead.proofs.TurnRuns.{ran_to_end, turns_end_as_runs}
use Rattle.nds_plays.proofs.Lengths.{all_short}

-- ---- frames and lists, one after another

pub shown_join : (xs ys : List Shown) → flat_map shown_records (xs ++ ys) ≡ flat_map shown_records xs ++ flat_map shown_records ys
shown_join xs ys = flat_map-append shown_records xs ys

-- the last one of those that a run put out, where it put out one
last_put : (before : Option WholeFrame) (xs : List Shown) (x : Shown) → last_or before (frames_shown (xs ++ x ∷ [])) ≡ Some (frame_shown x)
last_put before [] x = refl
last_put before (y ∷ ys) x = last_put (Some (frame_shown y)) ys x

-- the last lists of two stretches are those of the second, by those of the first
AreThen : List Shown → List Shown → Option Swapped → Type 0
AreThen xs ys before = last_or before (lists_shown (xs ++ ys)) ≡ last_or (last_or before (lists_shown xs)) (lists_shown ys)

one_first : (swapped : Bool) (lists : Swapped) (xs ys : List Shown) → ((before : Option Swapped) → AreThen xs ys before) → (before : Option Swapped)
    → last_or before (if swapped then lists ∷ lists_shown (xs ++ ys) else lists_shown (xs ++ ys))
    ≡ last_or (last_or before (if swapped then lists ∷ lists_shown xs else lists_shown xs)) (lists_shown ys)
unfolding AreThen
one_first true lists xs ys rest before = rest (Some lists)
one_first false lists xs ys rest before = rest before

lists_then : (xs ys : List Shown) (before : Option Swapped) → AreThen xs ys before
unfolding AreThen
lists_then [] ys before = refl
lists_then (x ∷ xs) ys before = one_first x.swapped x.lists xs ys (lists_then xs ys) before

-- the last frame and the last lists together
pub latest_follows : (old new : MachineState) (outs : List Shown) → FollowFrames old new outs → FollowLists old new outs → latest_of new ≡ latest_after (latest_of old) outs
latest_follows old new outs frames lists =
    (let by_frame : Option WholeFrame → Latest = λ f. record { frame = f; lists = last_lists new } in ap by_frame frames)
    ∙ (let by_lists : Option Swapped → Latest = λ l. record { frame = last_or (last_frame old) (frames_shown outs); lists = l } in ap by_lists lists)

-- what is written of what a run put out while it runs, and after it
split : (keep : Keep) (before : Latest) (outs : List Shown) → kept_records keep before outs ≡ shown_while keep outs ++ shown_after keep (latest_after before outs)
split All before outs = sym (append-nil (flat_map shown_records outs))
split Last before outs = refl
split Nothing before outs = refl

-- what is written while it runs is the front of what is written of the run that goes on
rest_of : Keep → Latest → List Shown → List Shown → List ℕ
rest_of All before outs more = flat_map shown_records more
rest_of Last before outs more = kept_records Last before (outs ++ more)
rest_of Nothing before outs more = []

goes_further : (keep : Keep) (before : Latest) (outs more : List Shown) → kept_records keep before (outs ++ more) ≡ shown_while keep outs ++ rest_of keep before outs more
unfolding rest_of
goes_further All before outs more = shown_join outs more
goes_further Last before outs more = refl
goes_further Nothing before outs more = refl

-- a machine just put this out
pub record HasShown (swapped : Bool) (s : MachineState) (shown : Shown) : Type 0 where
  pub frame : last_frame s ≡ Some (frame_shown shown)
  pub was_swapped : swapped ≡ shown.swapped
  pub lists : s.io.gx.geometry.last ≡ shown.lists

now_written : (keep : Keep) (outs : List Shown) (shown : Shown) (swapped : Bool) (s : MachineState) → HasShown swapped s shown
    → shown_while keep outs ++ shown_now keep swapped s ≡ shown_while keep (outs ++ shown ∷ [])
now_written All outs shown swapped s has =
    let front : List ℕ = flat_map shown_records outs in
    ap (λ (o : Option WholeFrame). front ++ (frame_records (option_to_list o) ++ lists_records (swapped_lists swapped s.io.gx.geometry.last))) has.frame
    ∙ ap (λ (b : Bool). front ++ (frame_records (frame_shown shown ∷ []) ++ lists_records (swapped_lists b s.io.gx.geometry.last))) has.was_swapped
    ∙ ap (λ (l : Swapped). front ++ (frame_records (frame_shown shown ∷ []) ++ lists_records (swapped_lists shown.swapped l))) has.lists
    ∙ ap (λ (x : List ℕ). front ++ x) (sym (append-nil (shown_records shown)))
    ∙ sym (shown_join outs (shown ∷ []))
now_written Last outs shown swapped s has = refl
now_written Nothing outs shown swapped s has = refl

-- ---- stretches of a run

-- one stretch and then another
pub goes_twice : (until : ℕ) (a b c : MachineState) (xs ys : List Shown) → GoesOn until a b xs → GoesOn until b c ys → GoesOn until a c (xs ++ ys)
goes_twice until a b c xs ys first second = λ limit le end outs run.
    (let P : List Shown → Type 0 = λ x. Runs reference limit end a x in
    subst P (sym (append_assoc xs ys outs)) (first limit le end (ys ++ outs) (second limit le end outs run)))

-- what holds of a console between turns, which put this out
pub record Going (until : ℕ) (start : ConsoleState) (outs : List Shown) (now : ConsoleState) : Type 0 where
  pub still_open : now.stopped ≡ None
  pub on : GoesOn until start.machine now.machine outs
  pub frames : FollowFrames start.machine now.machine outs
  pub lists : FollowLists start.machine now.machine outs
  pub turned : HasTurned until start now
  pub limit : max now.limit until ≡ max start.limit until
  -- turns that go on from here go on from the start
  pub ends : (end : Ending MachineState LeftOut) (last : ConsoleState) → TurnsToEnd until now end last → TurnsToEnd until start end last

going_first : (until : ℕ) (start : ConsoleState) → start.stopped ≡ None → Going until start [] start
going_first until start open_ = record {
  still_open = open_;
  on = λ limit le end outs run. run;
  frames = refl;
  lists = refl;
  turned = no_turn start;
  limit = refl;
  ends = λ end last rest. rest;
}

-- turns that ran
going_ran : (until : ℕ) (start old now : ConsoleState) (outs : List Shown) → Going until start outs old → RanOn until old now → Going until start outs now
going_ran until start old now outs going ran = record {
  still_open = ran.stopped ∙ going.still_open;
  on = λ limit le end more run. going.on limit le end more (ran.goes_on limit le end more run);
  frames = ran.frame ∙ going.frames;
  lists = ran.lists ∙ going.lists;
  turned = turned_twice until start old now going.turned ran.turned;
  limit = ran.limit ∙ going.limit;
  ends = λ end last rest. going.ends end last (ran_to_end until old now last end ran.turned ran.each_ran rest);
}

pub then_lists : (xs ys : List Shown) (before : Option Swapped) → last_or before (lists_shown (xs ++ ys)) ≡ last_or (last_or before (lists_shown xs)) (lists_shown ys)
unfolding AreThen
then_lists xs ys before = lists_then xs ys before

-- what turns up to one that made a frame whole put out
abbrev shown_by : {until : ℕ} {old : ConsoleState} {swapped : Bool} {now : ConsoleState} → TurnsUpTo until old (answers.Frame swapped) now → Shown
shown_by {until} {old} {swapped} {now} up = next_shown up.before.machine now.machine swapped

going_shown : (until : ℕ) (start old now : ConsoleState) (outs : List Shown) (swapped : Bool) (up : TurnsUpTo until old (answers.Frame swapped) now) → Going until start outs old
    → Going until start (outs ++ shown_by up ∷ []) now
going_shown until start old now outs swapped up so_far =
    let before = up.before in
    let shown = shown_by up in
    let going = going_ran until start old before outs so_far up.ran in
    let is = up.last.2 in
    record {
      still_open = ap (λ (x : ConsoleState). x.stopped) is ∙ going.still_open;
      on = goes_twice until start.machine before.machine now.machine outs (shown ∷ []) going.on (up.runs up.last.0);
      frames = up.frames ∙ sym (last_put (last_frame start.machine) outs shown);
      lists = up.lists ∙ ap (λ (o : Option Swapped). last_or o (lists_shown (shown ∷ []))) going.lists ∙ sym (then_lists outs (shown ∷ []) (last_lists start.machine));
      turned = one_turn start before now (answers.Frame swapped) going.turned up.last;
      limit = raised_again until start before now going.limit is;
      ends = λ end last rest. going.ends end last (counts before now last (answers.Frame swapped) end refl up.last rest);
    }

has_shown : (until : ℕ) (old now : ConsoleState) (swapped : Bool) (up : TurnsUpTo until old (answers.Frame swapped) now) → HasShown swapped now.machine (shown_by up)
has_shown until old now swapped up = record { frame = up.frames; was_swapped = refl; lists = refl }

-- turns up to the one that ends the run
ends_here : (until : ℕ) (start old now : ConsoleState) (answer : Turned) (stop : Option LeftOut) (outs : List Shown) → Going until start outs old → (up : TurnsUpTo until old answer now)
    → now.stopped ≡ stop → now.limit ≡ max up.before.limit until → Runs reference until (ending stop now.machine) up.before.machine []
    → last_frame now.machine ≡ last_frame up.before.machine → last_lists now.machine ≡ last_lists up.before.machine → TurnsToEnd until up.before (ending stop now.machine) now
    → RunsTo until start stop now
ends_here until start old now answer stop outs so_far up stopped limit run frames lists last =
    let going = going_ran until start old up.before outs so_far up.ran in
    record {
      outs = outs;
      ran = (let P : List Shown → Type 0 = λ x. Runs reference until (ending stop now.machine) start.machine x in
          subst P (append-nil outs) (going.on until (omega arith) (ending stop now.machine) [] run));
      stopped = stopped;
      limit = limit ∙ going.limit;
      frames = frames ∙ going.frames;
      lists = lists ∙ going.lists;
      turned = one_turn start up.before now answer going.turned up.last;
      to_end = going.ends (ending stop now.machine) now last;
    }

-- ---- with the sink

module _ {S : Type 0} (tells : S → Bool) (taken : S → List ℕ → Type 0) (faults : S → ℕ) (until : ℕ) (keep : Keep) (start : ConsoleState) (before : S) where
  -- between turns the frames so far are written
  pub record Writing (now : ConsoleState) (after : S) : Type 0 where
    pub outs : List Shown
    pub going : Going until start outs now
    pub written : Appended tells taken before after (shown_while keep outs)
    pub later : faults before ≤ faults after
    pub few : length (shown_while keep outs) ≤ most_shown * length outs

  pub writing_first : start.stopped ≡ None → Appended tells taken before before [] → Writing start before
  writing_first open_ none_yet = record { outs = []; going = going_first until start open_; written = nothing keep; later = omega arith; few = none_few keep } where
    none_few : (keep : Keep) → length (shown_while keep []) ≤ 0
    none_few All = omega arith
    none_few Last = omega arith
    none_few Nothing = omega arith

    nothing : (keep : Keep) → Appended tells taken before before (shown_while keep [])
    nothing All = none_yet
    nothing Last = none_yet
    nothing Nothing = none_yet

  pub writing_shown : (old now : ConsoleState) (mid after : S) (swapped : Bool) → Writing old mid → TurnsUpTo until old (answers.Frame swapped) now
      → Appended tells taken mid after (shown_now keep swapped now.machine) → faults mid ≤ faults after → length (shown_now keep swapped now.machine) ≤ most_shown → Writing now after
  writing_shown old now mid after swapped w up put later few =
      let shown = shown_by up in
      let P : List ℕ → Type 0 = λ x. Appended tells taken before after x in
      let first : faults before ≤ faults mid = w.later in record {
        outs = w.outs ++ shown ∷ [];
        going = going_shown until start old now w.outs swapped up w.going;
        written = subst P (now_written keep w.outs shown swapped now.machine (has_shown until old now swapped up))
            (append_twice tells taken before mid after (shown_while keep w.outs) (shown_now keep swapped now.machine) w.written put);
        later = omega (arith, first, later);
        few = (let so_far = w.few in
            let is = ap (λ (x : List ℕ). length x) (now_written keep w.outs shown swapped now.machine (has_shown until old now swapped up)) in
            let both = length-append (shown_while keep w.outs) (shown_now keep swapped now.machine) in
            let more = length-append w.outs (shown ∷ []) in
            omega (arith, so_far, few, is, both, more));
      }

  -- where the sink fails at a frame or its lists, a front of the run's output is written: its turns go on to their end from here, though the console takes none of them
  pub front_at : (old now : ConsoleState) (mid after : S) (swapped : Bool) → Writing old mid → TurnsUpTo until old (answers.Frame swapped) now → (now.stopped ≡ None → IsSound now.machine)
      → AppendedFront tells taken mid after (shown_now keep swapped now.machine) → WroteFront (AppendedFront tells taken before after) until keep start × HasTurned until start now
  front_at old now mid after swapped w up sound put =
      let shown = shown_by up in
      let going = going_shown until start old now w.outs swapped up w.going in
      let outs = w.outs ++ shown ∷ [] in
      let here = sound going.still_open in
      let rest = turns_end until now going.still_open here in
      let end = rest.0 in
      let last = rest.1 in
      let run = turns_end_as_runs until now last end going.still_open here rest.2 in
      let more = run.0 in
      let P : List ℕ → Type 0 = λ x. AppendedFront tells taken before after x in
      let latest = latest_of start.machine in
      let front : AppendedFront tells taken before after (shown_while keep outs) =
      subst P (now_written keep w.outs shown swapped now.machine (has_shown until old now swapped up))
      (front_after tells taken before mid after (shown_while keep w.outs) (shown_now keep swapped now.machine) w.written put) in
      let written : AppendedFront tells taken before after (output_of until last.turns keep latest end (outs ++ more)) =
      subst P
      (ap (λ (x : List ℕ). x ++ last_records until last.turns end) (sym (goes_further keep latest outs more)))
      (subst P (sym (append_assoc (shown_while keep outs) (rest_of keep latest outs more) (last_records until last.turns end)))
      (front_of_more tells taken before after (shown_while keep outs) (rest_of keep latest outs more ++ last_records until last.turns end) front)) in
      ((end, last, record { turns = going.ends end last rest.2; outs = outs ++ more; ran = going.on until (omega arith) end more run.1; written = written }), going.turned)

  -- the turns up to the one that ends the run
  abbrev HasRunTo : Option LeftOut → ConsoleState → S → Type 0
  HasRunTo stop now after =
      (runs : RunsTo until start stop now) × Appended tells taken before after (shown_while keep runs.outs) × (length (shown_while keep runs.outs) ≤ most_shown * length runs.outs)

  pub writing_over : (old now : ConsoleState) (after : S) → Writing old after → TurnsUpTo until old answers.AtEnd now → HasRunTo None now after
  unfolding ends_here
  writing_over old now after w up =
      let t = up.last in
      let P : MachineState → Type 0 = λ x. Runs reference until (At x) up.before.machine [] in
      let run = subst P (sym (ap (λ (x : ConsoleState). x.machine) t.2)) (up.runs t.0) in (
        ends_here until start old now answers.AtEnd None w.outs w.going up (ap (λ (x : ConsoleState). x.stopped) t.2 ∙ t.0) (ap (λ (x : ConsoleState). x.limit) t.2) run up.frames up.lists
            (at_end up.before now t),
        w.written,
        w.few,
      )

  pub writing_stopped : (old now : ConsoleState) (after : S) (left : LeftOut) → Writing old after → TurnsUpTo until old (answers.Stopped left) now → HasRunTo (Some left) now after
  unfolding ends_here
  writing_stopped old now after left w up =
      let still_open = up.ran.stopped ∙ w.going.still_open in
      let is = (up.last.0 still_open).1 in (
        ends_here until start old now (answers.Stopped left) (Some left) w.outs w.going up (ap (λ (x : ConsoleState). x.stopped) is) (ap (λ (x : ConsoleState). x.limit) is) (up.runs still_open)
            up.frames up.lists (meets_stop up.before now left up.last),
        w.written,
        w.few,
      )

-- ---- and at the end

-- what is written while a console runs, and after it, is the run's output
whole_output : (until : ℕ) (keep : Keep) (old : ConsoleState) (stop : Option LeftOut) (new : ConsoleState) (r : RunsTo until old stop new)
    → shown_while keep r.outs ++ (shown_after keep (latest_of new.machine) ++ last_records until new.turns (ending stop new.machine))
    ≡ output_of until new.turns keep (latest_of old.machine) (ending stop new.machine) r.outs
whole_output until keep old stop new r =
    sym (append_assoc (shown_while keep r.outs) (shown_after keep (latest_of new.machine)) (last_records until new.turns (ending stop new.machine)))
    ∙ ap (λ (x : List ℕ). x ++ last_records until new.turns (ending stop new.machine))
    (ap (λ (x : Latest). shown_while keep r.outs ++ shown_after keep x) (latest_follows old.machine new.machine r.outs r.frames r.lists) ∙ sym (split keep (latest_of old.machine) r.outs))

module _ {S : Type 0} (tells : S → Bool) (taken : S → List ℕ → Type 0) (until : ℕ) (keep : Keep) (old : ConsoleState) (stop : Option LeftOut) (new : ConsoleState) (before mid after : S)
    (r : RunsTo until old stop new) (so_far : Appended tells taken before mid (shown_while keep r.outs)) where
  abbrev left_to_write : List ℕ
  left_to_write = shown_after keep (latest_of new.machine) ++ last_records until new.turns (ending stop new.machine)

  -- the whole output of a run that ends so was written, and is short
  abbrev pub WroteShort : Ending MachineState LeftOut → Type 0
  WroteShort end = (wrote : Wrote (Appended tells taken before after) until keep old end new)
      × (length (output_of until new.turns keep (latest_of old.machine) end wrote.outs) < 2 ^ 64)

  pub all_written : until ≤ 2 ^ 56 → HasSoundParts old.machine → FramesAreFew → length (shown_while keep r.outs) ≤ most_shown * length r.outs → length left_to_write ≤ most_after
      → Appended tells taken mid after left_to_write → WroteShort (ending stop new.machine)
  all_written early sound frames each last put =
      let P : List ℕ → Type 0 = λ x. Appended tells taken before after x in (
        record {
          turns = r.to_end;
          outs = r.outs;
          ran = r.ran;
          written = subst P (whole_output until keep old stop new r)
              (append_twice tells taken before mid after (shown_while keep r.outs) left_to_write so_far put);
        },
        subst (λ (x : List ℕ). length x < 2 ^ 64) (whole_output until keep old stop new r)
            (all_short until (shown_while keep r.outs) left_to_write (length r.outs) early (frames until old.machine (ending stop new.machine) r.outs sound r.ran) each last),
      )

  pub front_written : AppendedFront tells taken mid after left_to_write → WroteFront (AppendedFront tells taken before after) until keep old
  front_written put =
      let P : List ℕ → Type 0 = λ x. AppendedFront tells taken before after x in (
        ending stop new.machine,
        new,
        record {
          turns = r.to_end;
          outs = r.outs;
          ran = r.ran;
          written = subst P (whole_output until keep old stop new r)
              (front_after tells taken before mid after (shown_while keep r.outs) left_to_write so_far put);
        },
      )

-- ---- what a call put that didn't fail

pub put_whole : {S E : Type 0} (tells : S → Bool) (taken : S → List ℕ → Type 0) (faults : S → ℕ) (bytes : List ℕ) (old new : S) (result : Result (Unit {0}) E)
    → Puts tells taken faults bytes result old new → is_err result ≡ false → Appended tells taken old new bytes
put_whole tells taken faults bytes old new (Ok done) put made = put.0
put_whole tells taken faults bytes old new (Err fault) put made = absurd (true≢false made)

pub so_of_ok : {E P : Type 0} (result : Result (Unit {0}) E) → OnOk result P → is_err result ≡ false → P
so_of_ok (Ok done) h made = h
so_of_ok (Err fault) h made = absurd (true≢false made)
