use Rattle.ds_dma.proofs.Words.{Channel, DmaState, IsChannel, IsEarly, after_unit, channel_at, due_channel, is_enabled}
use Rattle.std.proofs.Common.{◌≡◌, ◌∙◌, sym, subst, ap, true}
use Rattle.ds_dma.proofs.Early.{taken_early}
use Rattle.ds_dma.proofs.Kept.{taken_is}
use Rattle.ds_dma.proofs.Turns.{due_is_on}
use Rattle.ds_dma.proofs.dma.Dma.finish.Goals as goal

pub put-requires-clause-is : goal.put-requires-clause-is
put-requires-clause-is c =
    let s = c.args.self.now in
    let which = c.least-which.result in
    let seen : c.channel-channel.result ≡ due_channel s = c.channel-channel.ensures.seen ∙ ap (channel_at s.channels) c.least-which.ensures.least in
    let on = subst (λ (x : Channel). is_enabled x.cnt ≡ true) (sym seen) (due_is_on s c.laws.ensures c.requires.due) in
    let rest : c.without_first-rest.result ≡ after_unit s.proc which c.channel-channel.result =
    c.without_first-rest.ensures ∙ ap (λ (x : DmaState). after_unit x.proc which c.channel-channel.result) c.self.view_is in
    subst (IsChannel s.proc which) (sym rest) (taken_is s.proc which c.channel-channel.result c.channel-channel.ensures.is on)

pub put-requires-clause-trigger : goal.put-requires-clause-trigger
put-requires-clause-trigger c =
    let old = c.channel-channel.result in
    subst (λ (x : Channel). IsEarly x.trigger) (sym c.without_first-rest.ensures)
    (taken_early c.self.inside.proc c.least-which.result old c.channel-channel.ensures.early)
