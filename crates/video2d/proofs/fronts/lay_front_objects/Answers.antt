use Rattle.video2d.proofs.Words.{arith, cases_lt, front_at, inl, inr, refl, sym, ◌∙◌}
use Rattle.video2d.proofs.SpanLemmas.{outside_front}
use Rattle.video2d.proofs.fronts.lay_front_objects.Goals as goal

pub loop-x-init : goal.loop-x-init
loop-x-init c =
    let a = c.args in
    record {
      done = λ x lt.
          let order = c.requires.order in
          let room = c.requires.small in
          sym (outside_front a.objects.now a.turn a.first a.end a.laid (front_at a.into.now x) x c.requires.within (omega (arith, lt, order, room)) (λ from _. omega (arith, lt, from)));
      left = λ x le. refl;
    }

pub returns : goal.returns
returns c = λ x small.
    let a = c.args in
    let i = c.loop-x.invariant in
    elim (cases_lt x c.loop-x.x) [
      | inl lt ↦ i.done x lt
      | inr le ↦
          (let past = c.loop-x-test.false in
          i.left x (omega (arith, le))
          ∙ sym (outside_front a.objects.now a.turn a.first a.end a.laid (front_at a.into.now x) x c.requires.within small (λ _ to. omega (arith, le, to, past))))
    ]
