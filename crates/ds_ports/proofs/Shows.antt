use Rattle.ds_ports.proofs.Words.{IoState, List, None, Option, Shown, Some, Stop, Tick, VideoState, ap, arith, both_raised, channels_shown, refl}
use Rattle.ds_ports.proofs.Words.{scan_due_tick, shown_to_others, sym, unless_stop, video_done, video_happened, video_shown, video_stop, ℕ, ◌∙◌, ◌≡◌}
use Rattle.video2d.specs.Videos.{video_after_event, answer_unless, video_answer}
use Rattle.std.proofs.Common.{Ok, Err}

-- What the display's event leaves, by what it answers.

by_stop : {A : Type 0} (needed : Option Stop) (shown : Shown) (stop : Stop) (made left : A) → answer_unless needed shown ≡ Err stop → unless_stop needed made left ≡ left
by_stop None shown stop made left h = absurd (grind (arith, h))
by_stop (Some other) shown stop made left h = refl

by_shown : {A : Type 0} (needed : Option Stop) (seen shown : Shown) (made : Shown → A) (left : A) → answer_unless needed seen ≡ Ok shown
    → unless_stop needed (made seen) left ≡ made shown
by_shown None seen shown made left h = ap made (grind (arith, h))
by_shown (Some other) seen shown made left h = absurd (grind (arith, h))

-- where it stops, all is as it was
pub stop_stays : (palette oam : List ℕ) (u : IoState) (stop : Stop) → video_answer oam u.video ≡ Err stop → video_done palette oam u ≡ u
stop_stays palette oam u stop h =
    by_stop (video_stop oam u.video) (video_shown u.video) stop
    (shown_to_others (video_shown u.video) (scan_due_tick u.video.scan) (record u { video = video_after_event u.vram palette oam u.video })) u h

pub stop_leaves : (palette oam : List ℕ) (u : IoState) (stop : Stop) (v : VideoState) → video_answer oam u.video ≡ Err stop → v ≡ video_after_event u.vram palette oam u.video
    → record u { video = v } ≡ video_done palette oam u
stop_leaves palette oam u stop v h e =
    let stays = by_stop (video_stop oam u.video) (video_shown u.video) stop (video_happened u.vram palette oam u.video) u.video h in
    ap (λ (x : VideoState). (let new : IoState = record u { video = x } in new)) (e ∙ stays) ∙ sym (stop_stays palette oam u stop h)

-- else it was told to the others
pub show_leaves : (palette oam : List ℕ) (u : IoState) (shown : Shown) (now : Tick) (v : VideoState) (raised new : IoState) → video_answer oam u.video ≡ Ok shown
    → v ≡ video_after_event u.vram palette oam u.video → now ≡ scan_due_tick u.video.scan → raised ≡ both_raised (record u { video = v }) shown.raised
    → new ≡ channels_shown shown now raised → new ≡ video_done palette oam u
show_leaves palette oam u shown now v raised new h e f g k =
    let made = λ (s : Shown). shown_to_others s (scan_due_tick u.video.scan) (record u { video = video_after_event u.vram palette oam u.video }) in
    k ∙ ap (channels_shown shown now) g
    ∙ ap (λ (x : VideoState). shown_to_others shown now (record u { video = x })) e
    ∙ ap (λ (t : Tick). shown_to_others shown t (record u { video = video_after_event u.vram palette oam u.video })) f
    ∙ sym (by_shown (video_stop oam u.video) (video_shown u.video) shown made u h)
