use Rattle.ds_machine.proofs.Words.{Bool, Err, GxState, HBlank, IoState, LeftOut, List, MachineState, MachineStep, Makes, Nine, None, Ok, Option}
use Rattle.ds_machine.proofs.Words.{Proc, Result, Seven, Shown, Some, Stop, Stops, Tick, VBlank, Video, VideoState, [], after_video, answer_unless}
use Rattle.ds_machine.proofs.Words.{ap, arith, awake, both_raised, channels_triggered, display_done, ended, false, goes_on, if◌then◌else◌}
use Rattle.ds_machine.proofs.Words.{machine_settled, not_both, one_event, refl, same_makes, same_stops, scan_due, scan_due_tick, shown_at}
use Rattle.ds_machine.proofs.Words.{shown_to_others, starts_vblank, step_by, stepped_of, stopped_at, swapped_if, sym, true, unless_stop}
use Rattle.ds_machine.proofs.Words.{video_after_event, video_answer, video_done, video_shown, video_step, video_stop, wakes, with_io, woken_one, ℕ}
use Rattle.ds_machine.proofs.Words.{◌&&◌, ◌∙◌, ◌∷◌, ◌≡◌}
use Rattle.ds_ports.proofs.Shows.{stop_stays}
use Rattle.ds_machine.specs.declared.answers.Done.TheVariants as answers
use Rattle.ds_machine.proofs.Wakes.{settle_leaves}
use Rattle.video2d.specs.declared.videos.Shown as display

-- The display's event.

-- ---- where it is taken, it didn't stop

module _ (rank : ℕ) (s : MachineState) where
  abbrev came : Option Stop → MachineStep MachineState Shown LeftOut
  came stop = video_step rank (answer_unless stop (video_shown s.io.video)) s

  makes_by : (stop : Option Stop) (made : MachineState) (outs : List Shown) → video_stop s.oam s.io.video ≡ stop → came stop ≡ Makes made outs
      → (after_video s ≡ made) × (video_stop s.oam s.io.video ≡ None)
  makes_by None made outs e h = ((same_makes (after_video s) made _ outs h).0, e)
  makes_by (Some stop) made outs e h = absurd (not_both made s outs _ (sym h))

  pub video_makes : (made : MachineState) (outs : List Shown) → step_by rank Video s ≡ Makes made outs → (after_video s ≡ made) × (video_stop s.oam s.io.video ≡ None)
  video_makes made outs h = makes_by (video_stop s.oam s.io.video) made outs refl h

  stops_by : (needed : Option Stop) (left : MachineState) (stop : LeftOut) → came needed ≡ Stops stop left → s ≡ left
  stops_by None left stop h = absurd (not_both (after_video s) left _ stop h)
  stops_by (Some needed) left stop h = (same_stops s left _ stop h).1

  -- where it stops, the machine is as it was
  pub video_stops : (left : MachineState) (stop : LeftOut) → step_by rank Video s ≡ Stops stop left → s ≡ left
  video_stops left stop h = stops_by (video_stop s.oam s.io.video) left stop h

-- ---- settling and waking leave the display and geometry

pub record LeavesShown (old new : IoState) : Type 0 where
  pub video : new.video ≡ old.video
  pub gx : new.gx ≡ old.gx

one_leaves : (proc : Proc) (tick : Tick) (b : Bool) (s : MachineState) → LeavesShown s.io (if b then goes_on proc tick s else s).io
one_leaves Nine tick true s = record { video = refl; gx = refl }
one_leaves Seven tick true s = record { video = refl; gx = refl }
one_leaves proc tick false s = record { video = refl; gx = refl }

pub ended_leaves : (tick : Tick) (s : MachineState) → LeavesShown s.io (ended tick s).io
unfolding ended
ended_leaves tick s =
    let rest = machine_settled tick s in
    let first = woken_one Nine tick rest in
    let settles = settle_leaves tick s.io in
    let nine = one_leaves Nine tick (wakes rest Nine) rest in
    let seven = one_leaves Seven tick (wakes first Seven) first in
    record { video = seven.video ∙ nine.video ∙ settles.video; gx = seven.gx ∙ nine.gx ∙ settles.gx }

-- ---- what the display's event makes of the display and of geometry

told_gx : (shown : display.Shown) (now : Tick) (u : IoState) → (shown_to_others shown now u).gx ≡ u.gx
told_gx shown now u = by_kind shown.vblank shown.hblank where
  by_kind : (vblank hblank : Bool)
      → (let told = both_raised u shown.raised in if vblank then channels_triggered VBlank now told else (if hblank then channels_triggered HBlank now told else told)).gx ≡ u.gx
  by_kind true hblank = refl
  by_kind false true = refl
  by_kind false false = refl

pub done_gx : (palette oam : List ℕ) (u : IoState) → (video_done palette oam u).gx ≡ u.gx
done_gx palette oam u = by_stop (video_stop oam u.video) where
  by_stop : (stop : Option Stop)
      → (unless_stop stop (shown_to_others (video_shown u.video) (scan_due_tick u.video.scan) (record u { video = video_after_event u.vram palette oam u.video })) u).gx ≡ u.gx
  by_stop None = told_gx (video_shown u.video) (scan_due_tick u.video.scan) (record u { video = video_after_event u.vram palette oam u.video })
  by_stop (Some stop) = refl

-- a swap leaves the display
pub swapped_video : (whole : Bool) (now : Tick) (u : IoState) → (swapped_if whole now u).video ≡ u.video
swapped_video true now u = refl
swapped_video false now u = refl

pub display_video : (s : MachineState) → (display_done s).video ≡ (video_done s.palette s.oam s.io).video
display_video s = swapped_video (starts_vblank s.io.video.scan) (scan_due_tick s.io.video.scan) (video_done s.palette s.oam s.io)

-- ---- what is answered

module _ (rank : ℕ) (tick : Tick) (s : MachineState) where
  abbrev outs_by : Bool → List Shown
  outs_by whole = if whole then shown_at (scan_due s.io.video.scan) (after_video s) s.io.gx.swap_waits ∷ [] else []

  answered : (shown : display.Shown) (whole : Bool) → video_answer s.oam s.io.video ≡ Ok shown → shown.frame ≡ whole
      → awake (Some tick) (step_by rank Video s) ≡ Makes (ended tick (after_video s)) (outs_by whole)
  answered shown whole answer e =
      ap (λ (a : Result display.Shown Stop). awake (Some tick) (video_step rank a s)) answer
      ∙ ap (λ (b : Bool). (let step : MachineStep MachineState Shown LeftOut = Makes (ended tick (after_video s)) (outs_by b) in step)) e

  -- what is told of a frame is that of the display's own answer
  frame_is : (stop : Option Stop) (shown : display.Shown) → answer_unless stop (video_shown s.io.video) ≡ Ok shown → shown.frame ≡ starts_vblank s.io.video.scan
  frame_is None shown e = ap (λ (r : Result display.Shown Stop). frame_in r) (sym e) where
    frame_in : Result display.Shown Stop → Bool
    frame_in (Ok one) = one.frame
    frame_in (Err stop) = false
  frame_is (Some stop) shown e = absurd (grind (arith, e))

  -- the machine after it, as the code makes it
  pub after_is : (shown : display.Shown) (made : MachineState) → video_answer s.oam s.io.video ≡ Ok shown → scan_due_tick s.io.video.scan ≡ tick
      → made ≡ with_io s (swapped_if shown.frame tick (video_done s.palette s.oam s.io)) → one_event made ≡ after_video s
  after_is shown made answer due e =
      ap one_event e
      ∙ ap (λ (b : Bool). one_event (with_io s (swapped_if b tick (video_done s.palette s.oam s.io)))) (frame_is (video_stop s.oam s.io.video) shown answer)
      ∙ ap (λ (t : Tick). one_event (with_io s (swapped_if (starts_vblank s.io.video.scan) t (video_done s.palette s.oam s.io)))) (sym due)

  -- whether a swap waited: the display's own event leaves that
  pub swap_is : (swapped whole : Bool) → swapped ≡ (whole && (video_done s.palette s.oam s.io).gx.swap_waits) → whole ≡ true → swapped ≡ s.io.gx.swap_waits
  swap_is swapped whole e h = e ∙ rw h (ap (λ (g : GxState). g.swap_waits) (done_gx s.palette s.oam s.io))

  pub frame_made : (new : MachineState) (shown : display.Shown) (swapped : Bool) → video_answer s.oam s.io.video ≡ Ok shown → shown.frame ≡ true → swapped ≡ s.io.gx.swap_waits
      → new ≡ ended tick (after_video s) → awake (Some tick) (step_by rank Video s) ≡ stepped_of s (answers.Frame swapped) new
  frame_made new shown swapped answer whole waits e =
      let next = ended tick (after_video s) in
      let left = ended_leaves tick (after_video s) in
      let step : VideoState → GxState → Bool → MachineStep MachineState Shown LeftOut =
      λ v g b. Makes next (record { tick = scan_due s.io.video.scan; frame = v.whole; swapped = b; lists = g.geometry.last } ∷ []) in
      answered shown true answer whole
      ∙ ap (λ (v : VideoState). step v (after_video s).io.gx s.io.gx.swap_waits) (sym left.video)
      ∙ ap (λ (g : GxState). step next.io.video g s.io.gx.swap_waits) (sym left.gx)
      ∙ ap (λ (b : Bool). step next.io.video next.io.gx b) (sym waits)
      ∙ ap (λ (m : MachineState). stepped_of s (answers.Frame swapped) m) (sym e)

  pub line_made : (new : MachineState) (shown : display.Shown) → video_answer s.oam s.io.video ≡ Ok shown → shown.frame ≡ false → new ≡ ended tick (after_video s)
      → awake (Some tick) (step_by rank Video s) ≡ stepped_of s answers.Made new
  line_made new shown answer whole e =
      answered shown false answer whole ∙ ap (λ (m : MachineState). stepped_of s answers.Made m) (sym e)

  pub line_stopped : (new : MachineState) (stop : Stop) → video_answer s.oam s.io.video ≡ Err stop → new ≡ with_io s (video_done s.palette s.oam s.io) → scan_due_tick s.io.video.scan ≡ tick
      → awake (Some tick) (step_by rank Video s) ≡ stepped_of s (answers.Stopped (stopped_at rank tick stop)) new
  line_stopped new stop answer e due =
      ap (λ (a : Result display.Shown Stop). awake (Some tick) (video_step rank a s)) answer
      ∙ ap (λ (t : Tick). (let step : MachineStep MachineState Shown LeftOut = Stops (stopped_at rank t stop) s in step)) due
      ∙ ap (λ (u : IoState). (let step : MachineStep MachineState Shown LeftOut = Stops (stopped_at rank tick stop) (with_io s u) in step)) (sym (stop_stays s.palette s.oam s.io stop answer))
      ∙ ap (λ (m : MachineState). stepped_of s (answers.Stopped (stopped_at rank tick stop)) m) (sym e)
