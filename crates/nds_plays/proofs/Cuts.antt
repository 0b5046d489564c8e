use Rattle.nds_plays.proofs.Words.{All, At, Ending, HasSoundParts, Keep, Last, LeftOut, List, MachineState, Nothing, Option, Runs, Shown, Some}
use Rattle.nds_plays.proofs.Words.{Swapped, WholeFrame, [], ap, append_assoc, frame_shown, frames_shown, last_frame, last_lists, last_or}
use Rattle.nds_plays.proofs.Words.{last_records, latest_of, lists_shown, more, over, reference, refl, stops, subst, sym, ℕ, ◌++◌, ◌∙◌, ◌∷◌, ◌≡◌}
use Rattle.ds_machine.specs.FrameLaws.{FollowFrames, FollowLists, StepsFollowFrames, StepsFollowLists}
use Rattle.nds_plays.specs.Records.{Latest, kept_records, latest_after, output_of, shown_while, latest_records}
use Rattle.ds_runs.specs.Laws.{RunsAreOne, RunsExist, RunsJoin}
use Rattle.ds_runs.specs.Runs as runs
use Rattle.ds_machine.proofs.MachineSchedule.{sound_made}
use Rattle.nds_plays.specs.Cuts.{RunsAreCut}
use Rattle.nds_plays.proofs.Playing.{latest_follows, shown_join, then_lists}

-- A run that is cut in two.

-- ---- the last frame and the last lists over a run

frames_then : (xs ys : List Shown) (before : Option WholeFrame) → last_or before (frames_shown (xs ++ ys)) ≡ last_or (last_or before (frames_shown xs)) (frames_shown ys)
frames_then [] ys before = refl
frames_then (x ∷ xs) ys before = frames_then xs ys (Some (frame_shown x))

-- the parts of a machine to which a run comes are sound, and its last frame and last lists are those that the run put out
record Came (start : MachineState) (outs : List Shown) (now : MachineState) : Type 0 where
  sound : HasSoundParts now
  frames : FollowFrames start now outs
  lists : FollowLists start now outs

abbrev EndsSo : MachineState → List Shown → Ending MachineState LeftOut → Type 0
EndsSo start outs (At now) = Came start outs now
EndsSo start outs (runs.Stopped left) = Unit {0}

then_ends : (s next : MachineState) (outs rest : List Shown) (end : Ending MachineState LeftOut) → FollowFrames s next outs → FollowLists s next outs → EndsSo next rest end → EndsSo s (outs ++ rest) end
then_ends s next outs rest (At now) frames lists came = record {
  sound = came.sound;
  frames = came.frames ∙ ap (λ (o : Option WholeFrame). last_or o (frames_shown rest)) frames ∙ sym (frames_then outs rest (last_frame s));
  lists = came.lists ∙ ap (λ (o : Option Swapped). last_or o (lists_shown rest)) lists ∙ sym (then_lists outs rest (last_lists s));
}
then_ends s next outs rest (runs.Stopped left) frames lists came = tt

run_ends : StepsFollowFrames → StepsFollowLists → (limit : ℕ) (end : Ending MachineState LeftOut) (s : MachineState) (outs : List Shown) → Runs reference limit end s outs → HasSoundParts s
    → EndsSo s outs end
run_ends frames lists limit end s all (over s0 none) sound = record { sound = sound; frames = refl; lists = refl }
run_ends frames lists limit end s all (stops s0 after tick rank stop least below halts) sound = tt
run_ends frames lists limit end s all (more e0 s0 next tick rank outs rest least below goes run) sound =
    then_ends s0 next outs rest e0 (frames s0 next tick rank outs sound least goes) (lists s0 next tick rank outs sound least goes)
    (run_ends frames lists limit e0 next rest run (sound_made s0 next tick rank outs sound least goes).parts)

-- ---- what is written of it

latest_then : (before : Latest) (front rest : List Shown) → latest_after before (front ++ rest) ≡ latest_after (latest_after before front) rest
latest_then before front rest =
    (let by_frame : Option WholeFrame → Latest = λ f. record { frame = f; lists = last_or before.lists (lists_shown (front ++ rest)) } in
    ap by_frame (frames_then front rest before.frame))
    ∙ (let by_lists : Option Swapped → Latest = λ l. record { frame = last_or (last_or before.frame (frames_shown front)) (frames_shown rest); lists = l } in
    ap by_lists (then_lists front rest before.lists))

kept_then : (keep : Keep) (before : Latest) (front rest : List Shown) → kept_records keep before (front ++ rest) ≡ shown_while keep front ++ kept_records keep (latest_after before front) rest
kept_then All before front rest = shown_join front rest
kept_then Last before front rest = ap (λ (latest : Latest). latest_records latest) (latest_then before front rest)
kept_then Nothing before front rest = refl

rest_written : (later turns : ℕ) (keep : Keep) (start middle : MachineState) (end : Ending MachineState LeftOut) (front rest outs : List Shown) → outs ≡ front ++ rest
    → latest_of middle ≡ latest_after (latest_of start) front
    → output_of later turns keep (latest_of start) end outs ≡ shown_while keep front ++ output_of later turns keep (latest_of middle) end rest
rest_written later turns keep start middle end front rest outs all follows =
    let last = last_records later turns end in
    ap (λ (os : List Shown). kept_records keep (latest_of start) os ++ last) all
    ∙ ap (λ (bytes : List ℕ). bytes ++ last) (kept_then keep (latest_of start) front rest)
    ∙ ap (λ (latest : Latest). (shown_while keep front ++ kept_records keep latest rest) ++ last) (sym follows)
    ∙ append_assoc (shown_while keep front) (kept_records keep (latest_of middle) rest) last

pub runs_are_cut : RunsJoin reference → RunsAreOne reference → RunsExist reference HasSoundParts → StepsFollowFrames → StepsFollowLists → RunsAreCut
runs_are_cut join one exist frames lists = λ first later start middle end front outs sound le came whole.
    (let there = run_ends frames lists first (At middle) start front came sound in
    let rest = exist later middle there.sound in
    let both = one later start rest.0 end (front ++ rest.1) outs (join first later middle start rest.0 front rest.1 le came rest.2) whole in
    record {
      rest = rest.1;
      ran = subst (λ (e : Ending MachineState LeftOut). Runs reference later e middle rest.1) both.0 rest.2;
      all = sym both.1;
      written = λ turns keep. rest_written later turns keep start middle end front rest.1 outs (sym both.1) (latest_follows start middle front there.frames there.lists);
    })
