use Rattle.obj2d.proofs.Words.{Spans, arith, get_or-set_same, length, refl, rules, slice_set, ◌≡◌}
use Rattle.obj2d.proofs.LayerLemmas.{wider}
use Rattle.obj2d.proofs.layers.widen.Goals as goal

pub returns-clause-here : goal.returns-clause-here
returns-clause-here c = λ x from to.
    let a = c.args in
    let known = c.requires.known in
    let four : length a.spans.now.first ≡ 4 = search rules in
    let ends : length a.spans.now.end ≡ 4 = search rules in
    let low = get_or-set_same a.spans.now.first a.priority c.min-first.result 0 (omega (arith, known, four)) in
    let high = get_or-set_same a.spans.now.end a.priority c.max-behind.result 0 (omega (arith, known, ends)) in
    let least = c.min-first.ensures in
    let most = c.max-behind.ensures in
    (omega (arith, low, least, from), omega (arith, high, most, to))

pub returns-clause-kept : goal.returns-clause-kept
returns-clause-kept c =
    let a = c.args in
    let known = c.requires.known in
    let four : length a.spans.now.first ≡ 4 = search rules in
    let ends : length a.spans.now.end ≡ 4 = search rules in
    let least = c.min-first.ensures in
    let most = c.max-behind.ensures in
    let new : Spans = record {
      first = slice_set a.spans.now.first a.priority c.min-first.result;
      end = slice_set a.spans.now.end a.priority c.max-behind.result;
    } in
    wider a.spans.now new a.priority c.min-first.result c.max-behind.result (omega (arith, known, four)) (omega (arith, known, ends)) refl
    (omega (arith, least)) (omega (arith, most))
