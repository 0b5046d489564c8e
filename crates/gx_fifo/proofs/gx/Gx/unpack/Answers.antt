use Rattle.gx_fifo.proofs.Words.{GivesIn, read_format, subst}
use Rattle.gx_fifo.specs.Saved.{gx_format_by, holds_by}
use Rattle.gx_fifo.specs.declared.gx.saved.Asked.{Asked}
use Rattle.gx_fifo.proofs.gx.Gx.unpack.Goals as goal

pub returns : goal.returns
returns c =
    subst (λ (asked : Asked). GivesIn (λ g. g) c.unpack_by.result c.unpack_by.new.from (read_format (gx_format_by (holds_by asked)) c.args.at.0 c.args.from.now))
    c.nothing.ensures c.unpack_by.ensures
