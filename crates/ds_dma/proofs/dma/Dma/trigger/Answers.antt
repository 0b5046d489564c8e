use Rattle.ds_dma.proofs.Words.{AreReadyLater, Cause, DmaState, HasEarlyTicks, IsDma, Reschedules, channel_at, channel_due, dma_triggered, triggered}
use Rattle.std.proofs.Common.{◌≡◌, [], ◌∷◌, ◌∙◌, sym, subst, ap, map, false}
use Rattle.ds_dma.specs.States.{awaits_geometry}
use Rattle.ds_dma.proofs.Early.{mapped_early, triggered_early}
use Rattle.ds_dma.proofs.Fours.{four_are, mapped_is}
use Rattle.ds_dma.proofs.Kept.{triggered_is}
use Rattle.ds_dma.proofs.Turns.{event_later, event_schedules}
use Rattle.ds_dma.proofs.Wholes.{awaits_no_more}
use Rattle.ds_dma.proofs.dma.Dma.trigger.Goals as goal

abbrev new : (c : goal.After-self-1) → DmaState
new c = record {
  proc = c.self.inside.proc;
  channels = c.after.result ∷ c.after-2.result ∷ c.after-3.result ∷ c.after-4.result ∷ [];
  last = c.self.inside.last;
}

new_is : (c : goal.After-self-1) → new c ≡ dma_triggered c.args.self.now c.args.cause c.args.now
new_is c =
    let s = c.args.self.now in
    let f = triggered s.proc c.args.cause c.args.now in
    let at = channel_at s.channels in
    let one = c.after.ensures ∙ ap (λ (x : DmaState). triggered x.proc c.args.cause c.args.now c.channel.result) c.self.view_is ∙ ap f c.channel.ensures.seen in
    let two = c.after-2.ensures ∙ ap (λ (x : DmaState). triggered x.proc c.args.cause c.args.now c.channel-2.result) c.self.view_is ∙ ap f c.channel-2.ensures.seen in
    let three = c.after-3.ensures ∙ ap (λ (x : DmaState). triggered x.proc c.args.cause c.args.now c.channel-3.result) c.self.view_is ∙ ap f c.channel-3.ensures.seen in
    let four = c.after-4.ensures ∙ ap (λ (x : DmaState). triggered x.proc c.args.cause c.args.now c.channel-4.result) c.self.view_is ∙ ap f c.channel-4.ensures.seen in
    ap (λ (x : DmaState). record x { channels = (new c).channels }) c.self.view_is
    ∙ ap (λ x. record s { channels = x ∷ c.after-2.result ∷ c.after-3.result ∷ c.after-4.result ∷ [] }) one
    ∙ ap (λ x. record s { channels = f (at 0) ∷ x ∷ c.after-3.result ∷ c.after-4.result ∷ [] }) two
    ∙ ap (λ x. record s { channels = f (at 0) ∷ f (at 1) ∷ x ∷ c.after-4.result ∷ [] }) three
    ∙ ap (λ x. record s { channels = f (at 0) ∷ f (at 1) ∷ f (at 2) ∷ x ∷ [] }) four
    ∙ ap (λ xs. record s { channels = map f xs }) (sym (four_are s.channels c.laws.ensures.four))

pub invariant_of-self : goal.invariant_of-self
invariant_of-self c =
    let s = c.args.self.now in
    let f = triggered s.proc c.args.cause c.args.now in (
      subst IsDma (sym (new_is c)) (mapped_is s f (λ which x is. triggered_is s.proc which c.args.cause c.args.now x is) c.laws.ensures),
      subst HasEarlyTicks (sym (new_is c)) (mapped_early s f c.laws.ensures.four (λ x was. triggered_early s.proc c.args.cause c.args.now x was c.requires)
          (subst HasEarlyTicks c.self.view_is c.self.invariant.1)),
    )

pub returns-clause-state : goal.returns-clause-state
returns-clause-state c = new_is c

pub returns-clause-later : goal.returns-clause-later
returns-clause-later c = λ later. subst (AreReadyLater c.args.now) (sym (new_is c)) (event_later c.args.self.now c.args.cause c.args.now c.laws.ensures later)

pub returns-clause-schedule : goal.returns-clause-schedule
returns-clause-schedule c = λ each l. subst (λ (x : DmaState). Reschedules c.args.now (channel_due c.args.self.now each) (channel_due x each)) (sym (new_is c))
    (event_schedules c.args.self.now c.args.cause c.args.now c.laws.ensures each l)

pub returns-clause-settles : goal.returns-clause-settles
returns-clause-settles c = λ geometry.
    subst (λ (x : DmaState). awaits_geometry x ≡ false) (sym (new_is c))
    (subst (λ (cause : Cause). awaits_geometry (dma_triggered c.args.self.now cause c.args.now) ≡ false) (sym geometry)
    (awaits_no_more c.args.self.now c.args.now c.laws.ensures.four))
