use Rattle.video2d.proofs.Words.{FramesState, List, ap, frame_of, length, line_laid, rules, slice_set, sym, true, ℕ, ◌/◌, ◌∙◌, ◌≡◌}
use Rattle.video2d.proofs.FrameLemmas.{laid}
use Rattle.video2d.proofs.frames.Frames.lay.Goals as goal

pub returns : goal.returns
returns c =
    let a = c.args in
    let m = c.self.inside in
    let lines : length m.fresh ≡ 384 = search rules in
    let line : length a.line.now ≡ 256 = search rules in
    let state : List ℕ → FramesState = λ f. record { drawn = f; whole = m.whole } in
    ap (λ (d : List ℕ). state (frame_of (slice_set m.fresh (a.place / 256) true) d m.whole)) c.lay.ensures
    ∙ ap state (sym (laid m.fresh m.drawn m.whole a.line.now a.place lines c.pixel_laws.ensures line c.requires.inside c.requires.whole))
    ∙ ap (λ (s : FramesState). record { drawn = line_laid a.place a.line.now s.drawn; whole = s.whole }) c.self.view_is
