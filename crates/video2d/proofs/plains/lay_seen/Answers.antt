use Rattle.video2d.proofs.Words.{IsInSpan, subst, ℕ}
use Rattle.video2d.proofs.plains.lay_seen.Goals as goal

pub lay_objects-requires-clause-within : goal.lay_objects-requires-clause-within
lay_objects-requires-clause-within c = λ x small full same.
    let In : ℕ → Type 0 = λ n. IsInSpan c.args.spans.now n x in
    c.span_of-first.ensures.all x small (subst In same (c.requires.within x small full))
