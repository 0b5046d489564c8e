use Rattle.std.proofs.Common.{arith, ◌<◌, ◌^◌, ◌≡◌, refl, true, false}
use Rattle.nds_words.proofs.Numerals.{read_is, read_back, begins}
use Rattle.nds_words.proofs.numbers.number.Goals.{then-n-least-via-then-n-least, then-n-least-via-else-n-least+then-most-n}
use Rattle.nds_words.proofs.numbers.number.Goals as goal

pub returns-then-not-begins_number-clause-none : goal.returns-then-not-begins_number-clause-none
returns-then-not-begins_number-clause-none c = λ n low high e.
    (let small : n < 2 ^ 64 = omega (arith, c.ranges.most.fits, high) in
    let b = begins c.args.word.now n small e in
    let f = c.if-not-begins_number.ensures.1 b in
    let bad : false ≡ true = f in
    cc)

pub returns-in_default-clause-none : goal.returns-in_default-clause-none
returns-in_default-clause-none c = λ n low high e.
    (let small : n < 2 ^ 64 = omega (arith, c.ranges.most.fits, high) in
    let r = read_back c.args.word.now _ n c.parse.ensures.value.0 small e in
    c.in_default.not-Ok n r)

pub returns-then-n-least-clause-none : goal.returns-then-n-least-clause-none
returns-then-n-least-clause-none c = λ n low high e.
    (let small : n < 2 ^ 64 = omega (arith, c.ranges.most.fits, high) in
    let r = read_back c.args.word.now _ n c.parse.ensures.value.0 small e in
    let is = c.in-Ok.is in
    let same : n ≡ c.in-Ok.n = cc in
    elim c.then-n-least.branch [
      | then-n-least-via-then-n-least w ↦ omega (arith, w.if-n-least.true)
      | then-n-least-via-else-n-least+then-most-n w ↦ omega (arith, w.if-most-n.true)
    ])

pub returns-clause-some : goal.returns-clause-some
returns-clause-some c =
    let b = c.if-not-begins_number.ensures.0 refl in
    (read_is c.args.word.now c.parse.result c.in-Ok.n c.parse.ensures.value.0 c.in-Ok.is b.1 b.2, omega (arith, c.if-n-least.false), omega (arith, c.if-most-n.false))
