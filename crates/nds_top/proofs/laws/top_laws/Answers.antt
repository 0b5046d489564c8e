use Rattle.nds_top.proofs.Words.{around, saved_state}
use Rattle.nds_top.proofs.GoingOn.{goes_on, saved_at}
use Rattle.nds_top.proofs.OneAnswer.{TopLaws, answers_one, completes}
use Rattle.nds_top.proofs.Written.{none_written}
use Rattle.nds_top.proofs.laws.top_laws.Goals as goal

pub returns-clause-complete : goal.returns-clause-complete
returns-clause-complete g c =
    let scripts = c.script_laws.ensures in
    let listings = c.listing_laws.ensures in
    let laws : TopLaws = record {
      words = c.word_laws.ensures;
      reads = record {
        script_one = scripts.one;
        script_good = scripts.good;
        script_first = scripts.first;
        listing_one = listings.one;
        listing_good = listings.good;
        listing_first = listings.first;
      };
      runs = c.reference_laws.ensures.one;
      turns = c.turn_laws.ensures.ends_are_one;
      lines = c.trace_laws.ensures;
    } in
    λ shelf_old shelf_new old new seat files words asked named status told none asks can gives.
    completes laws (around g.F.Shelf.told g.F.Shelf.faults g.O.Sink.tells g.O.Sink.taken g.O.Sink.faults shelf_old shelf_new old new seat) files words asked named status told none
    (none_written g.O.Sink.tells g.O.Sink.taken old new) asks can gives

pub returns-clause-one : goal.returns-clause-one
returns-clause-one g c =
    let scripts = c.script_laws.ensures in
    let listings = c.listing_laws.ensures in
    let laws : TopLaws = record {
      words = c.word_laws.ensures;
      reads = record {
        script_one = scripts.one;
        script_good = scripts.good;
        script_first = scripts.first;
        listing_one = listings.one;
        listing_good = listings.good;
        listing_first = listings.first;
      };
      runs = c.reference_laws.ensures.one;
      turns = c.turn_laws.ensures.ends_are_one;
      lines = c.trace_laws.ensures;
    } in
    λ shelf_old shelf_new shelf_old₂ shelf_new₂ old new old₂ new₂ seat seat₂ files words named named₂ status status₂ told told₂ none none₂ ne ne₂ gives gives₂.
    answers_one laws (around g.F.Shelf.told g.F.Shelf.faults g.O.Sink.tells g.O.Sink.taken g.O.Sink.faults shelf_old shelf_new old new seat)
    (around g.F.Shelf.told g.F.Shelf.faults g.P.Sink.tells g.P.Sink.taken g.P.Sink.faults shelf_old₂ shelf_new₂ old₂ new₂ seat₂) files words named named₂ status status₂ told told₂ none none₂
    (none_written g.O.Sink.tells g.O.Sink.taken old new) (none_written g.P.Sink.tells g.P.Sink.taken old₂ new₂) ne ne₂ gives gives₂

pub returns-clause-resumed : goal.returns-clause-resumed
returns-clause-resumed g c =
    let scripts = c.script_laws.ensures in
    let listings = c.listing_laws.ensures in
    let laws : TopLaws = record {
      words = c.word_laws.ensures;
      reads = record {
        script_one = scripts.one;
        script_good = scripts.good;
        script_first = scripts.first;
        listing_one = listings.one;
        listing_good = listings.good;
        listing_first = listings.first;
      };
      runs = c.reference_laws.ensures.one;
      turns = c.turn_laws.ensures.ends_are_one;
      lines = c.trace_laws.ensures;
    } in
    λ shelf_old shelf_new old new seat files words cart keys first named told asks given.
    (let call = around g.F.Shelf.told g.F.Shelf.faults g.O.Sink.tells g.O.Sink.taken g.O.Sink.faults shelf_old shelf_new old new seat in
    let w = saved_at laws call files words cart keys first named told asks given in (
      saved_state w.console,
      w.wrote,
      λ shelf_old₂ shelf_new₂ shelf_old₃ shelf_new₃ old₂ new₂ old₃ new₃ seat₂ seat₃ files₂ files₃ words₂ words₃ state cart₂ cart₃ keys₂ keys₃ later keep named₂ named₃ status status₂ told₂ told₃ none none₂ asks₂ asks₃ lt there same same₂ ne ne₂ given₂ given₃.
          goes_on laws c.cut_laws.ensures c.time_laws.ensures.keys c.touch_laws.ensures.file c.state_laws.ensures.short call
          (around g.F.Shelf.told g.F.Shelf.faults g.P.Sink.tells g.P.Sink.taken g.P.Sink.faults shelf_old₂ shelf_new₂ old₂ new₂ seat₂)
          (around g.F.Shelf.told g.F.Shelf.faults g.Q.Sink.tells g.Q.Sink.taken g.Q.Sink.faults shelf_old₃ shelf_new₃ old₃ new₃ seat₃) files files₂ files₃ words₂ words₃ cart state cart₂ cart₃ keys keys₂ keys₃
          first later keep named₂ named₃ status status₂ w told₂ told₃ none none₂
          (none_written g.P.Sink.tells g.P.Sink.taken old₂ new₂) (none_written g.Q.Sink.tells g.Q.Sink.taken old₃ new₃) asks₂ asks₃ lt there same same₂ ne ne₂ given₂ given₃,
    ))
