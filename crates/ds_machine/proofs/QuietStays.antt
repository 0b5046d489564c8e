use Rattle.ds_machine.proofs.Words.{ActsUnobserving, Geometry, GxState, HasSoundParts, IoState, List, MachineState, Makes, Shown, Tick, acting_due}
use Rattle.ds_machine.proofs.Words.{actor_of, any_armed, ap, ended, false, is_quiet, is_some, is_stalled, none-some, reference_step, subst, sym, true}
use Rattle.ds_machine.proofs.Words.{ℕ, ◌∙◌, ◌≡◌, ◌≢◌}
use Rattle.ds_runs.specs.declared.actors.Actor as actor
use Rattle.ds_machine.proofs.ActingDues.{acting_low, acting_of_rank}
use Rattle.ds_machine.proofs.LagCommutes.{arms_left, ended_disarmed, ended_gx_left, gx_left}
use Rattle.ds_machine.proofs.LagSteps.{quiet_acts_never, quiet_parts, quiet_where_due}
use Rattle.ds_machine.proofs.MachineSchedule.{owes_by, step_made_as}
use Rattle.ds_machine.proofs.StepsMay.{steps_acting}

-- A step that doesn't observe quiet geometry leaves it quiet.

still_quiet : (u v : IoState) → is_quiet u ≡ true → v.gx ≡ u.gx → any_armed v.nine.dma ≡ false → is_quiet v ≡ true
still_quiet u v quiet gx disarmed =
    let q = quiet_parts u quiet in
    quiet_where_due v (ap (λ (g : GxState). g.selector) gx ∙ q.selector) disarmed (ap (λ (g : GxState). is_stalled g) gx ∙ q.free)
    ∙ ap (λ (g : GxState). is_some g.due) gx ∙ ap is_some q.due

module _ (s : MachineState) (rank : ℕ) (tick : Tick) (parts : HasSoundParts s) (b : ActsUnobserving s rank tick) (quiet : is_quiet s.io ≡ true) where
  -- quiet geometry doesn't act, so that it is another
  pub other_steps : actor_of rank ≢ Geometry
  other_steps same =
      absurd (none-some tick (sym (quiet_acts_never s quiet) ∙ ap (λ (a : actor.Actor). acting_due a s) (sym same) ∙ sym (acting_of_rank s rank (acting_low s rank tick b.least.there)) ∙ b.least.there))

  pub quiet_next : (next : MachineState) (outs : List Shown) → reference_step rank s ≡ Makes next outs → is_quiet next.io ≡ true
  quiet_next next outs h =
      let a = actor_of rank in
      let st = steps_acting s tick rank parts b.least in
      let k = step_made_as s next tick rank outs st h in
      let made = k.0 in
      let four = (owes_by a rank tick s made outs st k.1).sound.io.nine.dma.four in
      let gx = gx_left rank a s made outs other_steps b.unobserving k.1 in
      let arms = arms_left rank a s made outs other_steps b.unobserving k.1 (quiet_parts s.io quiet).disarmed in
      subst (λ (m : MachineState). is_quiet m.io ≡ true) k.2
      (still_quiet s.io (ended tick made).io quiet (ended_gx_left tick made four arms ∙ gx) (ended_disarmed tick made four arms))
