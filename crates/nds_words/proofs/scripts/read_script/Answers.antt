use Rattle.std.proofs.Common.{◌<◌, ◌∷◌, ◌+◌, [], inr, refl, length, arith, length-append}
use Rattle.ds_base.specs.KeyLines.{ComesAfter}
use Rattle.std.proofs.lemmas.Bool.{both_ways}
use Rattle.nds_words.specs.Scripts.{IsLate}
use Rattle.nds_words.proofs.LoopLaws.{lines_more, read_more, bad_line, some_left, parted_less}
use Rattle.nds_words.proofs.scripts.read_script.Goals as goal

pub returns-then-not-rises-clause-bad : goal.returns-then-not-rises-clause-bad
returns-then-not-rises-clause-bad c =
    let i = c.loop-rest.invariant in
    let keys = c.loop-rest.keys in
    let line = c.in-Ok.line in
    let rest = c.loop-rest.rest.now in
    let text = c.first_line.result.0.now in
    let f = c.first_line.ensures in
    let long : 0 < length rest = first_of (omega arith, grind arith) in
    let late : IsLate keys text 1 = record { line = line; good = c.in-Ok.ensures.good; is = c.in-Ok.ensures.is; late = λ h. both_ways c.rises.result c.if-not-rises.true (c.rises.ensures.rises.1 h); first = refl } in
    rw c.bad-then-not-rises.ensures (bad_line c.args.bytes.now keys rest text c.first_line.result.1.now (length keys + 1) 1 (some_left rest long) i.good i.read f.is f.plain refl (inr late))

pub loop-rest-preserved : goal.loop-rest-preserved
loop-rest-preserved c =
    let i = c.loop-rest.invariant in
    let keys = c.loop-rest.keys in
    let line = c.in-Ok.line in
    let rest = c.loop-rest.rest.now in
    let f = c.first_line.ensures in
    let long : 0 < length rest = first_of (omega arith, grind arith) in
    let after : ComesAfter keys line = c.rises.ensures.rises.0 c.if-not-rises.false in
    rw c.in_ok-push.ensures.ok (record {
      good = lines_more keys line i.good c.in-Ok.ensures.good after;
      read = read_more c.args.bytes.now keys rest c.first_line.result.0.now c.first_line.result.1.now line (some_left rest long) i.read f.is c.in-Ok.ensures.is;
      few = omega (arith, parted_less rest c.first_line.result.0.now c.first_line.result.1.now long f.is, length-append keys (line ∷ []), i.few);
    })
