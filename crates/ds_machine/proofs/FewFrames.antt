use Rattle.ds_machine.proofs.Words.{Ending, HasSoundParts, IsLeast, LeftOut, List, MachineState, Makes, None, Option, Runs, ScanState, Shown, Some}
use Rattle.ds_machine.proofs.Words.{Tick, Video, WholeFrame, [], actor_of, ap, arith, due_by, dues_of, framed_by, framed_of, inl, inr, last_frame}
use Rattle.ds_machine.proofs.Words.{length, length-append, more, option_map, over, reference, reference_step, refl, scan_due, scan_due_tick, stops}
use Rattle.ds_machine.proofs.Words.{subst, sym, ℕ, ◌*◌, ◌++◌, ◌+◌, ◌<◌, ◌∙◌, ◌≡◌, ◌≤◌, ◌⊎◌}
use Rattle.ds_machine.specs.FrameLaws.{FollowFrames, FramesAreFew}
use Rattle.ds_runs.specs.declared.actors.Actor as actor
use Rattle.ds_machine.proofs.Frames.{step_follows}
use Rattle.ds_machine.proofs.MachineSchedule.{owes, steps_here}
use Rattle.ds_machine.proofs.StepsMay.{answers_as}

-- Frames come 1,120,380 ticks apart.

-- the end of the last whole frame's time, of which each frame has as much; 0 before the first one is whole
passed : Option Tick → ℕ
passed None = 0
passed (Some tick) = tick.0 + 302460

-- a frame that becomes whole at the display's next event ends so much later
rises : (s next : ScanState) → framed_by next ≡ Some (scan_due_tick s) → passed (framed_by s) + 1120380 ≤ scan_due s + 302460
unfolding passed
rises s next h = grind (arith, h)

-- ---- a step

frame_tick : Option WholeFrame → Option Tick
frame_tick o = option_map (λ (frame : WholeFrame). (let tick : Tick = record { 0 = frame.tick } in tick)) o

tick_is : (o : Option Tick) (pixels : List ℕ)
    → frame_tick (option_map (λ (tick : Tick). (let frame : WholeFrame = record { tick = tick.0; pixels = pixels } in frame)) o) ≡ o
unfolding frame_tick
tick_is None pixels = refl
tick_is (Some tick) pixels = refl

same_framed : (s next : MachineState) → last_frame next ≡ last_frame s → framed_of next ≡ framed_of s
same_framed s next e = sym (tick_is (framed_of next) next.io.video.whole) ∙ ap frame_tick e ∙ tick_is (framed_of s) s.io.video.whole

now_framed : (next : MachineState) (frame : WholeFrame) → last_frame next ≡ Some frame → framed_of next ≡ Some (record { 0 = frame.tick })
unfolding frame_tick
now_framed next frame e = sym (tick_is (framed_of next) next.io.video.whole) ∙ ap frame_tick e

display_tick : (s : MachineState) (a : actor.Actor) (tick : Tick) → due_by a s ≡ Some tick → a ≡ Video → scan_due s.io.video.scan ≡ tick.0
display_tick s a tick due is = same_tick (scan_due_tick s.io.video.scan) tick (subst (λ (x : actor.Actor). due_by x s ≡ Some tick) is due) where
  same_tick : (x y : Tick) → (let o : Option Tick = Some x in o) ≡ Some y → x.0 ≡ y.0
  same_tick x y h = grind (arith, h)

-- nothing is put out, and the last whole frame is as it was; or one frame is at the step's tick, and it ends so much later than the last one
PutsSo : Tick → MachineState → MachineState → List Shown → Type 0
PutsSo tick s next outs =
    ((outs ≡ []) × (framed_of next ≡ framed_of s))
    ⊎ ((length outs ≡ 1) × (passed (framed_of s) + 1120380 ≤ passed (framed_of next)) × (passed (framed_of next) ≡ tick.0 + 302460))

step_puts : (s next : MachineState) (tick : Tick) (rank : ℕ) (outs : List Shown) → HasSoundParts s → IsLeast (dues_of s) tick rank → reference_step rank s ≡ Makes next outs
    → PutsSo tick s next outs
unfolding PutsSo passed
step_puts s next tick rank outs sound least h =
    let st = steps_here s tick rank sound least in
    let follows = step_follows s next tick rank outs sound least h in
    elim (answers_as s next tick rank outs st h) [
      | inl none ↦ inl (none, same_framed s next (subst (λ (o : List Shown). FollowFrames s next o) none follows))
      | inr some ↦
          (let e = some.1 in
          let framed = now_framed next _ (subst (λ (o : List Shown). FollowFrames s next o) e follows) in
          let at = display_tick s (actor_of rank) tick st.due some.2 in
          let after : passed (framed_of next) ≡ scan_due s.io.video.scan + 302460 = ap passed framed in
          let later = rises s.io.video.scan next.io.video.scan framed in
          inr (ap (λ (o : List Shown). length o) e, omega (arith, after, later), omega (arith, after, at)))
    ]

-- ---- a run

Few : ℕ → List Shown → ℕ → Type 0
Few limit outs before = (outs ≡ []) ⊎ (1120380 * length outs + before ≤ limit + 302460)

few_then : (limit : ℕ) (s next : MachineState) (tick : Tick) (first rest : List Shown) → PutsSo tick s next first → tick.0 < limit → Few limit rest (passed (framed_of next))
    → Few limit (first ++ rest) (passed (framed_of s))
unfolding PutsSo Few
few_then limit s next tick first rest puts below few = elim puts [
  | inl none ↦
      (let P : List Shown → ℕ → Type 0 = λ o p. (o ≡ []) ⊎ (1120380 * length o + p ≤ limit + 302460) in
      subst (λ (o : List Shown). P (o ++ rest) (passed (framed_of s))) (sym none.0) (subst (λ (o : Option Tick). P rest (passed o)) none.1 few))
  | inr some ↦
      (let long : length (first ++ rest) ≡ length first + length rest = length-append first rest in
      let one = some.0 in
      let later = some.1 in
      let at = some.2 in
      elim few [
        | inl none ↦ (let nothing : length rest ≡ 0 = ap (λ (o : List Shown). length o) none in inr (omega (arith, long, one, later, at, below, nothing)))
        | inr most ↦ inr (omega (arith, long, one, later, at, below, most))
      ])
]

few_from : (limit : ℕ) (end : Ending MachineState LeftOut) (s : MachineState) (outs : List Shown) → HasSoundParts s → Runs reference limit end s outs
    → Few limit outs (passed (framed_of s))
unfolding Few
few_from limit end s outs sound (over s0 none) = inl refl
few_from limit end s outs sound (stops s0 after tick rank stop least below halts) = inl refl
few_from limit end s outs sound (more e0 s0 next tick rank first rest least below goes run) =
    few_then limit s0 next tick first rest (step_puts s0 next tick rank first sound least goes) below
    (few_from limit e0 next rest (owes s0 next tick rank first sound least goes).sound run)

pub frames_are_few : FramesAreFew
unfolding Few
frames_are_few limit start end outs sound run = elim (few_from limit end start outs sound run) [
  | inl none ↦ (let e : length outs ≡ 0 = ap (λ (o : List Shown). length o) none in omega (arith, e))
  | inr few ↦ omega (arith, few)
]
