use Rattle.ds_machine.proofs.Words.{Bool, Cost, Dma, Geometry, GeometryCommand, Goes, GxState, Halted, IoState, KeyScript, Left, LeftOut, List}
use Rattle.ds_machine.proofs.Words.{MachineState, MachineStep, Makes, Nine, None, Option, Proc, Processor, ScanState, Seven, Shown, Some, Stop, Stops}
use Rattle.ds_machine.proofs.Words.{Swapped, Tick, Timer, Video, VideoState, WholeFrame, [], actor_of, after_event, after_geometry, after_line}
use Rattle.ds_machine.proofs.Words.{after_video, answer_unless, ap, arith, begun, channel_step, complete_command, done_by, done_video, due_by, ended}
use Rattle.ds_machine.proofs.Words.{false, framed_by, framed_of, frames_shown, geometry_after, geometry_done, gone_by, gx_swapped, happened_scan}
use Rattle.ds_machine.proofs.Words.{happened_whole, if◌then◌else◌, io_due, last_frame, last_lists, last_or, left_by, lists_shown, machine_concluded}
use Rattle.ds_machine.proofs.Words.{machine_graft, map_of, moved_by, next_unit, not_both, option_map, reference_step, refl, same_makes, scan_due}
use Rattle.ds_machine.proofs.Words.{scan_due_tick, shown_at, starts_vblank, step_by, subst, swapped, swapped_if, sym, true, true≢false, unchanged_by}
use Rattle.ds_machine.proofs.Words.{unit_moved, unit_refusal, video_done, video_shown, video_step, video_stop, with_map, ℕ, ◌<◌, ◌==◌, ◌∙◌, ◌∷◌, ◌≡◌}
use Rattle.ds_machine.specs.FrameLaws.{FollowFrames, FollowLists, StepsFollowFrames, StepsFollowLists, StopsLeaveFrames, StopsLeaveLists}
use Rattle.arm_core.specs.declared.outcomes.Stepped as arm
use Rattle.ds_runs.specs.declared.actors.Actor as actor
use Rattle.ds_machine.proofs.ChannelEvents.{channel_made, channel_unchanged, read_left, unit_lists, unit_video, unit_whole}
use Rattle.ds_machine.proofs.MachineSchedule.{Steps, awake_stops, channel_timers, operation, step_made_as, steps_here}
use Rattle.ds_machine.proofs.ProcessorSteps.{Took, came_by, concluded_stops, concludes, costs_some, goes, reached_by, step_is}
use Rattle.ds_machine.proofs.Touched.{each_touches}
use Rattle.ds_machine.proofs.VideoEvents.{display_video, done_gx, ended_leaves, video_makes, video_stops}
use Rattle.video2d.specs.Scans.{scan_after}
use Rattle.video2d.specs.Videos.{video_happened}
use Rattle.video2d.proofs.Framed.{made_whole, stays_whole}

-- The frames that a run puts out are its machines' last whole frames, one after another.

-- ---- what leaves the display's frames as they are

-- the display's last whole frame, and when it became so, are as they were, and so are the lists of the last swap
pub record KeepFrames (old new : IoState) : Type 0 where
  pub framed : framed_by new.video.scan ≡ framed_by old.video.scan
  pub whole : new.video.whole ≡ old.video.whole
  pub lists : new.gx.geometry.last ≡ old.gx.geometry.last

keeps : (old new : IoState) → new.video.scan ≡ old.video.scan → new.video.whole ≡ old.video.whole → new.gx.geometry.last ≡ old.gx.geometry.last → KeepFrames old new
keeps old new scan whole lists = record { framed = ap framed_by scan; whole = whole; lists = lists }

same_video : (old new : IoState) → new.video ≡ old.video → new.gx.geometry.last ≡ old.gx.geometry.last → KeepFrames old new
same_video old new e lists = keeps old new (ap (λ (v : VideoState). v.scan) e) (ap (λ (v : VideoState). v.whole) e) lists

keep_twice : (a b c : IoState) → KeepFrames a b → KeepFrames b c → KeepFrames a c
keep_twice a b c one two = record { framed = two.framed ∙ one.framed; whole = two.whole ∙ one.whole; lists = two.lists ∙ one.lists }

-- an access leaves them
goes_keep : (proc : Proc) (now : Tick) (old new : IoState) → Goes proc now old new → KeepFrames old new
goes_keep proc now old new g = keeps old new g.scan g.whole g.geometry.last

kept_last : (s next : MachineState) → KeepFrames s.io next.io → last_frame next ≡ last_frame s
kept_last s next k =
    let frame : List ℕ → Tick → WholeFrame = λ pixels tick. record { tick = tick.0; pixels = pixels } in
    ap (λ (o : Option Tick). option_map (frame next.io.video.whole) o) k.framed
    ∙ ap (λ (pixels : List ℕ). option_map (frame pixels) (framed_of s)) k.whole

kept_lists : (s next : MachineState) → KeepFrames s.io next.io → last_lists next ≡ last_lists s
kept_lists s next k = ap (λ (last : Swapped). if last.tick.0 == 0 then None else Some last) k.lists

-- so with both
abbrev Follows : MachineState → MachineState → List Shown → Type 0
Follows old new outs = FollowFrames old new outs × FollowLists old new outs

-- ---- what a step puts out

abbrev pub outs_of : MachineStep MachineState Shown LeftOut → List Shown
outs_of (Makes next outs) = outs
outs_of (Stops stop left) = []

moved_outs : (rank : ℕ) (proc : Proc) (now : Tick) (refusal : Option Stop) (s : MachineState) → outs_of (moved_by rank proc now refusal s) ≡ []
moved_outs rank proc now None s = refl
moved_outs rank proc now (Some stop) s = refl

pub channel_outs : (rank : ℕ) (proc : Proc) (due : Option Tick) (s : MachineState) → outs_of (channel_step rank proc due s) ≡ []
channel_outs rank proc None s = refl
channel_outs rank proc (Some now) s =
    let unit = next_unit s.io proc in moved_outs rank proc now (unit_refusal proc now unit (map_of proc s)) (with_map proc s (unit_moved proc now unit (map_of proc s)))

pub processor_outs : (rank : ℕ) (proc : Proc) (m : MachineState) (came : arm.Stepped) → outs_of (machine_concluded rank proc m came) ≡ []
processor_outs rank proc m (Cost clocks) = refl
processor_outs rank proc m (Halted clocks) = refl
processor_outs rank proc m (Left stop) = refl

-- ---- each actor's step, before processors wake

-- a step that puts out nothing and leaves them
quiet_follows : (s made : MachineState) (outs : List Shown) → KeepFrames s.io made.io → outs ≡ [] → Follows s made outs
quiet_follows s made outs k none = (
  kept_last s made k ∙ ap (λ (o : List Shown). last_or (last_frame s) (frames_shown o)) (sym none),
  kept_lists s made k ∙ ap (λ (o : List Shown). last_or (last_lists s) (lists_shown o)) (sym none),
)

gone_video : (proc : Proc) (m : MachineState) (came : arm.Stepped) → Took came → (gone_by proc came m).io.video ≡ m.io.video
gone_video Nine m (Cost clocks) took = refl
gone_video Seven m (Cost clocks) took = refl
gone_video Nine m (Halted clocks) took = refl
gone_video Seven m (Halted clocks) took = refl
gone_video proc m (Left stop) took = absurd took

gone_lists : (proc : Proc) (m : MachineState) (came : arm.Stepped) → Took came → (gone_by proc came m).io.gx.geometry.last ≡ m.io.gx.geometry.last
gone_lists Nine m (Cost clocks) took = refl
gone_lists Seven m (Cost clocks) took = refl
gone_lists Nine m (Halted clocks) took = refl
gone_lists Seven m (Halted clocks) took = refl
gone_lists proc m (Left stop) took = absurd took

-- a command leaves the lists of the last swap
geometry_lists : (u : IoState) → (geometry_done u).gx.geometry.last ≡ u.gx.geometry.last
unfolding geometry_after
geometry_lists u = done_by_lists u.gx.due (complete_command u.gx.fifo.entries) where
  done_by_lists : (due : Option Tick) (head : Option GeometryCommand) → (done_by due head u.gx).geometry.last ≡ u.gx.geometry.last
  done_by_lists None head = refl
  done_by_lists (Some now) None = refl
  done_by_lists (Some now) (Some command) = refl

-- the display's event, where it doesn't stop
abbrev frame_outs : MachineState → Bool → List Shown
frame_outs s whole = if whole then shown_at (scan_due s.io.video.scan) (after_video s) s.io.gx.swap_waits ∷ [] else []

video_outs : (rank : ℕ) (s : MachineState) (needed : Option Stop) → needed ≡ None
    → outs_of (video_step rank (answer_unless needed (video_shown s.io.video)) s) ≡ frame_outs s (starts_vblank s.io.video.scan)
video_outs rank s None none = refl
video_outs rank s (Some stop) none = absurd (grind (arith, none))

-- line 192 begins past tick 0
later_than_start : (s : ScanState) → starts_vblank s ≡ true → 0 < scan_due s
later_than_start s h = grind arith

module _ (s : MachineState) (none : video_stop s.oam s.io.video ≡ None) where
  abbrev happened : VideoState
  happened = video_happened s.io.vram s.palette s.oam s.io.video

  after_is : (after_video s).io.video ≡ happened
  after_is = display_video s ∙ done_video s.palette s.oam s.io none

  goes_after : (after_video s).io.video.scan ≡ scan_after s.io.video.scan
  goes_after = ap (λ (v : VideoState). v.scan) after_is ∙ happened_scan s.io.vram s.palette s.oam s.io.video

  -- what geometry is after it
  gx_after : (whole : Bool) → starts_vblank s.io.video.scan ≡ whole → (after_video s).io.gx ≡ (swapped_if whole (scan_due_tick s.io.video.scan) (video_done s.palette s.oam s.io)).gx
  gx_after whole h = ap (λ (b : Bool). (swapped_if b (scan_due_tick s.io.video.scan) (video_done s.palette s.oam s.io)).gx) h

  same_lists : starts_vblank s.io.video.scan ≡ false → (after_video s).io.gx.geometry.last ≡ s.io.gx.geometry.last
  same_lists h = ap (λ (g : GxState). g.geometry.last) (gx_after false h ∙ done_gx s.palette s.oam s.io)

  frame_follows : (whole : Bool) → starts_vblank s.io.video.scan ≡ whole → FollowFrames s (after_video s) (frame_outs s whole)
  frame_follows true h =
      let frame : Tick → WholeFrame = λ tick. record { tick = tick.0; pixels = (after_video s).io.video.whole } in
      ap (option_map frame) (ap framed_by goes_after ∙ made_whole s.io.video.scan h)
  frame_follows false h =
      kept_last s (after_video s) (record {
        framed = ap framed_by goes_after ∙ stays_whole s.io.video.scan h;
        whole = ap (λ (v : VideoState). v.whole) after_is ∙ happened_whole s.io.vram s.palette s.oam s.io.video h;
        lists = same_lists h;
      })

  -- a swap's lists tell its tick, which isn't 0
  swap_follows : (waits : Bool) → s.io.gx.swap_waits ≡ waits → starts_vblank s.io.video.scan ≡ true
      → last_lists (after_video s) ≡ last_or (last_lists s) (if waits then (after_video s).io.gx.geometry.last ∷ [] else [])
  unfolding swapped
  swap_follows true w h = by_tick (scan_due s.io.video.scan) (later_than_start s.io.video.scan h) where
    last : Swapped
    last = (after_video s).io.gx.geometry.last

    tick_is : last.tick.0 ≡ scan_due s.io.video.scan
    tick_is =
        ap (λ (g : GxState). g.geometry.last.tick.0)
        (gx_after true h ∙ ap (gx_swapped (scan_due_tick s.io.video.scan)) (done_gx s.palette s.oam s.io)
        ∙ ap (λ (b : Bool). if b then record s.io.gx { geometry = swapped (scan_due_tick s.io.video.scan) s.io.gx.geometry; due = begun (scan_due_tick s.io.video.scan) false s.io.gx.fifo.entries; swap_waits = false } else s.io.gx) w)

    not_zero : (n : ℕ) → 0 < n → (n == 0) ≡ false
    not_zero n some = grind (arith, some)

    some_last : (b : Bool) → b ≡ false → (if b then None else Some last) ≡ Some last
    some_last true e = absurd (true≢false e)
    some_last false e = refl

    by_tick : (n : ℕ) → 0 < n → (if last.tick.0 == 0 then None else Some last) ≡ Some last
    by_tick n some = some_last (last.tick.0 == 0) (not_zero (last.tick.0) (subst (λ (m : ℕ). 0 < m) (sym tick_is) (later_than_start s.io.video.scan h)))
  swap_follows false w h =
      ap (λ (last : Swapped). if last.tick.0 == 0 then None else Some last)
      (ap (λ (g : GxState). g.geometry.last) (gx_after true h ∙ ap (gx_swapped (scan_due_tick s.io.video.scan)) (done_gx s.palette s.oam s.io)
      ∙ ap (λ (b : Bool). if b then record s.io.gx { geometry = swapped (scan_due_tick s.io.video.scan) s.io.gx.geometry; due = begun (scan_due_tick s.io.video.scan) false s.io.gx.fifo.entries; swap_waits = false } else s.io.gx) w))

  lists_follow : (whole : Bool) → starts_vblank s.io.video.scan ≡ whole → FollowLists s (after_video s) (frame_outs s whole)
  lists_follow true h = swap_follows s.io.gx.swap_waits refl h
  lists_follow false h = ap (λ (last : Swapped). if last.tick.0 == 0 then None else Some last) (same_lists h)

  video_follows : (whole : Bool) → starts_vblank s.io.video.scan ≡ whole → Follows s (after_video s) (frame_outs s whole)
  video_follows whole h = (frame_follows whole h, lists_follow whole h)

-- who changes neither the display nor geometry, by the table
by_table : (a : actor.Actor) (rank : ℕ) (s made : MachineState) (outs : List Shown) → step_by rank a s ≡ Makes made outs → outs_of (step_by rank a s) ≡ []
    → KeepFrames s.io (machine_graft (unchanged_by a s) s (left_by (step_by rank a s))).io → Follows s made outs
by_table a rank s made outs h none kept =
    quiet_follows s made outs (subst (λ (m : MachineState). KeepFrames s.io m.io) ((each_touches rank a s).leaves ∙ ap (λ (x : MachineStep MachineState Shown LeftOut). left_by x) h) kept)
    (sym (ap outs_of h) ∙ none)

follows_by : (a : actor.Actor) (rank : ℕ) (tick : Tick) (s made : MachineState) (outs : List Shown) → Steps a rank tick s → step_by rank a s ≡ Makes made outs → Follows s made outs
follows_by Video rank tick s made outs st h =
    let k = video_makes rank s made outs h in
    let e = sym (ap outs_of h) ∙ video_outs rank s (video_stop s.oam s.io.video) k.1 in
    subst (λ (m : MachineState). Follows s m outs) k.0
    (subst (λ (o : List Shown). Follows s (after_video s) o) (sym e) (video_follows s k.1 (starts_vblank s.io.video.scan) refl))
follows_by Geometry rank tick s made outs st h =
    let e = same_makes (after_geometry s) made [] outs h in
    quiet_follows s made outs (subst (λ (m : MachineState). KeepFrames s.io m.io) e.0 (same_video s.io (after_geometry s).io refl (geometry_lists s.io))) (sym e.1)
follows_by (Timer Nine number) rank tick s made outs st h = by_table (Timer Nine number) rank s made outs h refl (same_video s.io _ refl refl)
follows_by (Timer Seven number) rank tick s made outs st h = by_table (Timer Seven number) rank s made outs h refl (same_video s.io _ refl refl)
follows_by (Dma proc channel) rank tick s made outs st h =
    let P : Option Tick → Type 0 = λ o. channel_step rank proc o s ≡ Makes made outs in
    let e = channel_made rank proc tick s made outs (subst P st.due h) in
    let timers = channel_timers proc channel rank tick s st in
    let scan = unit_video proc channel tick (next_unit s.io proc) s st.sound st.numbered st.due timers in
    let whole = unit_whole proc channel tick (next_unit s.io proc) s st.sound st.numbered st.due timers in
    let lists = unit_lists proc channel tick (next_unit s.io proc) s st.sound st.numbered st.due timers in
    quiet_follows s made outs
    (keeps s.io made.io (ap (λ (m : MachineState). m.io.video.scan) e ∙ scan) (ap (λ (m : MachineState). m.io.video.whole) e ∙ whole) (ap (λ (m : MachineState). m.io.gx.geometry.last) e ∙ lists))
    (sym (ap outs_of h) ∙ channel_outs rank proc (io_due (Dma proc channel) s.io) s)
follows_by (Processor proc) rank tick s made outs st h =
    let came = came_by proc s in
    let m = reached_by proc s in
    let is = sym (step_is rank proc s) ∙ h in
    let k = concludes rank proc m made outs came (costs_some proc s) is in
    let kept = goes_keep proc tick s.io m.io (goes proc tick s (operation proc rank tick s st)) in
    let gone = same_video m.io made.io (ap (λ (x : MachineState). x.io.video) (sym k.1) ∙ gone_video proc m came k.0)
    (ap (λ (x : MachineState). x.io.gx.geometry.last) (sym k.1) ∙ gone_lists proc m came k.0) in
    quiet_follows s made outs (keep_twice s.io m.io made.io kept gone) (sym (ap outs_of is) ∙ processor_outs rank proc m came)
follows_by a rank tick s made outs st h = by_table a rank s made outs h refl (same_video s.io _ refl refl)

-- ---- the whole step

end_keeps : (tick : Tick) (s : MachineState) → KeepFrames s.io (ended tick s).io
end_keeps tick s = let k = ended_leaves tick s in same_video s.io (ended tick s).io k.video (ap (λ (g : GxState). g.geometry.last) k.gx)

-- the frame that it puts out is its machine's last whole frame; where it puts out none that is as it was; and so with the lists of the last swap
pub follows_as : (s next : MachineState) (tick : Tick) (rank : ℕ) (outs : List Shown) → Steps (actor_of rank) rank tick s → reference_step rank s ≡ Makes next outs
    → FollowFrames s next outs × FollowLists s next outs
follows_as s next tick rank outs st h =
    let k = step_made_as s next tick rank outs st h in
    let made = k.0 in
    let follows = follows_by (actor_of rank) rank tick s made outs st k.1 in
    let kept = end_keeps tick made in
    (sym (ap last_frame k.2) ∙ kept_last made (ended tick made) kept ∙ follows.0, sym (ap last_lists k.2) ∙ kept_lists made (ended tick made) kept ∙ follows.1)

pub step_follows : StepsFollowFrames
step_follows s next tick rank outs sound least h = (follows_as s next tick rank outs (steps_here s tick rank sound least) h).0

pub step_follows_lists : StepsFollowLists
step_follows_lists s next tick rank outs sound least h = (follows_as s next tick rank outs (steps_here s tick rank sound least) h).1

-- a step that stops leaves it
leaves_by : (a : actor.Actor) (rank : ℕ) (tick : Tick) (s left : MachineState) (stop : LeftOut) → Steps a rank tick s → step_by rank a s ≡ Stops stop left → KeepFrames s.io left.io
leaves_by Video rank tick s left stop st h =
    subst (λ (m : MachineState). KeepFrames s.io m.io) (video_stops rank s left stop h) (same_video s.io s.io refl refl)
leaves_by KeyScript rank tick s left stop st h = absurd (not_both (after_line s.keys s) left [] stop h)
leaves_by (Dma proc channel) rank tick s left stop st h =
    let P : Option Tick → Type 0 = λ o. (let step : MachineStep MachineState Shown LeftOut = channel_step rank proc o s in step ≡ Stops stop left) in
    let read = channel_unchanged rank proc tick s left stop (subst P st.due h) in
    let u = read_left proc tick (next_unit s.io proc) s in
    keeps s.io left.io (ap (λ (m : MachineState). m.io.video.scan) (sym read) ∙ u.scan) (ap (λ (m : MachineState). m.io.video.whole) (sym read) ∙ u.whole)
    (ap (λ (m : MachineState). m.io.gx.geometry.last) (sym read) ∙ ap (λ (g : GxState). g.geometry.last) u.gx)
leaves_by (Processor proc) rank tick s left stop st h =
    let m = reached_by proc s in
    let e = concluded_stops rank proc m left stop (came_by proc s) (sym (step_is rank proc s) ∙ h) in
    subst (λ (x : MachineState). KeepFrames s.io x.io) e (goes_keep proc tick s.io m.io (goes proc tick s (operation proc rank tick s st)))
leaves_by Geometry rank tick s left stop st h = absurd (not_both (after_geometry s) left [] stop h)
leaves_by a rank tick s left stop st h = absurd (not_both (after_event a s) left [] stop h)

pub stop_keeps_as : (s left : MachineState) (tick : Tick) (rank : ℕ) (stop : LeftOut) → Steps (actor_of rank) rank tick s → reference_step rank s ≡ Stops stop left
    → (last_frame left ≡ last_frame s) × (last_lists left ≡ last_lists s)
stop_keeps_as s left tick rank stop st h =
    let k = leaves_by (actor_of rank) rank tick s left stop st (awake_stops (due_by (actor_of rank) s) (step_by rank (actor_of rank) s) left stop h) in
    (kept_last s left k, kept_lists s left k)

pub stop_leaves : StopsLeaveFrames
stop_leaves s left tick rank stop sound least h = (stop_keeps_as s left tick rank stop (steps_here s tick rank sound least) h).0

pub stop_leaves_lists : StopsLeaveLists
stop_leaves_lists s left tick rank stop sound least h = (stop_keeps_as s left tick rank stop (steps_here s tick rank sound least) h).1
