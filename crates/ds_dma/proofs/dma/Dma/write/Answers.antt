use Rattle.ds_dma.proofs.Words.{AreReadyLater, Channel, DmaState, IsChannel, IsEarly, channel_at, channel_due, channel_set}
use Rattle.std.proofs.Common.{◌≡◌, ◌∙◌, sym, subst, ap, slice_set}
use Rattle.ds_dma.proofs.Early.{written_early}
use Rattle.ds_dma.proofs.Kept.{written_is}
use Rattle.ds_dma.proofs.Turns.{all_later, written_later}
use Rattle.ds_dma.proofs.dma.Dma.write.Goals as goal

pub put-requires-clause-is : goal.put-requires-clause-is
put-requires-clause-is c =
    let s = c.args.self.now in
    let old = c.channel-old.result in
    let written : c.written-new.result ≡ channel_set s.proc c.args.channel c.args.port c.args.value c.args.now old =
    c.written-new.ensures ∙ ap (λ (x : DmaState). channel_set x.proc c.args.channel c.args.port c.args.value c.args.now old) c.self.view_is in
    subst (IsChannel s.proc c.args.channel) (sym written)
    (written_is s.proc c.args.channel c.args.port c.args.value c.args.now old c.channel-old.ensures.is)

pub put-requires-clause-trigger : goal.put-requires-clause-trigger
put-requires-clause-trigger c =
    let old = c.channel-old.result in
    subst (λ (x : Channel). IsEarly x.trigger) (sym c.written-new.ensures)
    (written_early c.self.inside.proc c.args.channel c.args.port c.args.value c.args.now old c.channel-old.ensures.early c.requires.early)

pub returns-in-None-clause-schedule : goal.returns-in-None-clause-schedule
returns-in-None-clause-schedule c =
    let s = c.args.self.now in
    let which = c.args.channel in
    let set = λ (x : Channel). channel_set s.proc which c.args.port c.args.value c.args.now x in
    let old = c.channel-old.result in
    let written : c.written-new.result ≡ set old =
    c.written-new.ensures ∙ ap (λ (x : DmaState). channel_set x.proc which c.args.port c.args.value c.args.now old) c.self.view_is in
    let new : c.put-in-None.new.self ≡ record s { channels = slice_set s.channels which (set (channel_at s.channels which)) } =
    c.put-in-None.ensures
    ∙ ap (λ (x : DmaState). record s { channels = slice_set s.channels which c.written-new.result; last = x.last }) c.put.view_is
    ∙ ap (λ x. record s { channels = slice_set s.channels which x }) (written ∙ ap set c.channel-old.ensures.seen) in
    λ later each l. all_later c.args.now c.put-in-None.new.self (channel_due s each) (subst (AreReadyLater c.args.now) (sym new)
    (written_later s which c.args.port c.args.value c.args.now c.laws.ensures c.requires.channel later)) each l
