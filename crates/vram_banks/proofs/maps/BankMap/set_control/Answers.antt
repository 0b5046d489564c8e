use Rattle.vram_banks.proofs.Words.{IsControl, arith, get_or, length, rules, set, subst, sym, ℕ, ◌≡◌}
use Rattle.vram_banks.proofs.PageLemmas.{controls_set}
use Rattle.vram_banks.proofs.maps.BankMap.set_control.Goals as goal

pub invariant_of-self : goal.invariant_of-self
invariant_of-self c = (
  c.fill.ensures.long,
  search rules,
  c.fill.ensures.done,
  λ b known.
      let P : ℕ → Type 0 = λ v. IsControl b (get_or (set c.self.inside.controls c.args.bank v) b 0) in
      let nine : length c.self.inside.controls ≡ 9 = search rules in
      subst P (sym c.kept_bank_control-control.ensures) (controls_set c.self.inside.controls c.args.bank c.args.value nine (omega (arith, c.ranges.value)) c.self.invariant.3 b known),
)
