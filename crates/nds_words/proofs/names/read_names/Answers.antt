use Rattle.std.proofs.Common.{◌≡◌, ◌<◌, ◌≤◌, ◌+◌, ◌∷◌, ◌^◌, false, length, drop, arith, sym, ◌∙◌, length-drop}
use Rattle.std.proofs.lemmas.List.{take_rest}
use Rattle.std.proofs.lemmas.Nat.{pow_below}
use Rattle.nds_words.specs.Reader.Names.{stands}
use Rattle.nds_words.proofs.LoopLaws.{step_taken, step_passed, stands_less, stands_on, end_ok, end_err}
use Rattle.nds_words.proofs.names.read_names.Goals as goal
use Rattle.nds_words.proofs.names.read_names.Goals.{then-count-name+then-may_end, else-count-name, else-count-name-via-then-count-name+else-may_end, else-count-name-via-else-count-name}

pub loop-key-preserved : goal.loop-key-preserved
loop-key-preserved c =
    let i = c.loop-key.invariant in
    let line = c.args.line.now in
    let name = c.name_of-name.result.now in
    let at = c.loop-key.at in
    let key = c.loop-key.key in
    let count = c.common_marked-count.result in
    let n = rw (take_rest line at) at c.common_marked-count.ensures.count in
    let w = rw (take_rest line at) at c.common_marked-count.ensures.within in
    let small : key < 12 = omega arith in
    let inside : at + count ≤ length line = omega (arith, w.1, length-drop at line, i.within) in
    let p = pow_below key 12 small in
    elim c.if-count-name.branch [
      | then-count-name+then-may_end w ↦
          (let e = rw (take_rest line (at + count)) at w.may_end.ensures in
          let q : c.if-count-name.pressed ≡ c.loop-key.pressed + 2 ^ key = first_of (omega (arith, w.pressed-is, p), grind (arith, w.pressed-is, p)) in
          rw (q, w.at-is, w.mark-is, c.max-reached.ensures) (step_taken line name c.args.from c.loop-key.pressed key at c.loop-key.reached c.loop-key.mark count small c.name_of-name.ensures.name c.name_of-name.ensures.short n w.if-count-name.true (sym e ∙ w.if-may_end.true) inside i))
      | else-count-name w ↦
          (let s : stands (c.loop-key.mark ∷ name) (drop at line) ≡ false = elim w.else-count-name.branch [
            | else-count-name-via-then-count-name+else-may_end v ↦ (let e = rw (take_rest line (at + count)) at v.may_end.ensures in stands_on c.loop-key.mark name line at count v.if-count-name.true (sym e ∙ v.if-may_end.false))
            | else-count-name-via-else-count-name v ↦ stands_less c.loop-key.mark name (drop at line) count n (λ h. absurd (first_of (omega (arith, h), grind (arith, h))))
          ] in
          rw (w.pressed-is, w.at-is, w.mark-is, c.max-reached.ensures) (step_passed line name c.args.from c.loop-key.pressed key at c.loop-key.reached c.loop-key.mark count small c.name_of-name.ensures.name c.name_of-name.ensures.short n c.common_marked-count.ensures.within.0 inside s i))
    ]

pub returns-then-pressed-ne0-clause-is : goal.returns-then-pressed-ne0-clause-is
returns-then-pressed-ne0-clause-is c =
    end_ok c.args.line.now c.args.from c.loop-key.pressed c.loop-key.key c.loop-key.at c.loop-key.reached c.loop-key.mark c.loop-key.invariant (omega arith) (omega arith) (λ h. absurd (first_of (omega (arith, h), grind (arith, h))))

pub returns-else-at-line-clause-is : goal.returns-else-at-line-clause-is
returns-else-at-line-clause-is c =
    end_err c.args.line.now c.args.from c.loop-key.pressed c.loop-key.key c.loop-key.at c.loop-key.reached c.loop-key.mark c.loop-key.invariant (omega arith) (λ h. grind (arith, h, c.else-at-line.either))
