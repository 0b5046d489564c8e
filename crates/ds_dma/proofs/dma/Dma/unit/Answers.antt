use Rattle.ds_dma.proofs.Words.{channel_at, due_channel, unit_of}
use Rattle.std.proofs.Common.{◌≡◌, ◌∷◌, ◌∙◌, sym, ap}
use Rattle.ds_dma.proofs.Plans.{has_first}
use Rattle.ds_dma.proofs.Turns.{due_has_some}
use Rattle.ds_dma.proofs.dma.Dma.unit.Goals as goal

pub returns-clause-first : goal.returns-clause-first
returns-clause-first c =
    let s = c.args.self.now in
    let has = has_first (due_channel s) (due_has_some s c.laws.ensures c.requires) in
    let seen : c.channel.result ≡ due_channel s = c.channel.ensures.seen ∙ ap (channel_at s.channels) c.least.ensures.least in
    let is : c.first.result ≡ unit_of (due_channel s) 0 = c.first.ensures ∙ ap (λ x. unit_of x 0) seen in
    (has.0, has.1 ∙ ap (λ u. u ∷ has.0) (sym is))
