use Rattle.vram_banks.proofs.Words.{Empty, IsFound, List, One, subst, ℕ, ◌%◌}
use Rattle.vram_banks.proofs.PageLemmas.{found_at, moved}
use Rattle.vram_banks.proofs.maps.BankMap.found.Goals as goal

pub returns-in-Empty : goal.returns-in-Empty
returns-in-Empty c =
    let v = c.self.inside in
    let P : List ℕ → Type 0 = λ controls. IsFound controls c.args.x Empty in
    subst P c.self.view_is (found_at v.controls v.windows v.pages c.args.x Empty c.self.invariant.0 c.self.invariant.1 c.self.invariant.2 c.requires c.in-Empty.is)

pub returns-in-One : goal.returns-in-One
returns-in-One c =
    let v = c.self.inside in
    let P : List ℕ → Type 0 = λ controls. IsFound controls c.args.x (moved (One c.in-One.cell) (c.args.x % 8192)) in
    subst P c.self.view_is (found_at v.controls v.windows v.pages c.args.x (One c.in-One.cell) c.self.invariant.0 c.self.invariant.1 c.self.invariant.2 c.requires c.in-One.is)
