use Rattle.obj2d.proofs.Words.{FitsSigned, List, ap, group, group_number, of_z, refl, rules, to_z, ℕ, ◌∙◌, ◌≡◌}
use Rattle.std.specs.Int.{w16}
use Rattle.std.proofs.lemmas.Int.{to_z-of_z}
use Rattle.obj2d.proofs.attributes.turn_of.Goals as goal

pub returns : goal.returns
returns c =
    let oam : List ℕ = c.args.oam.now in
    let g : ℕ = group c.args.object.now in
    let f1 : FitsSigned w16 c.group_number.result = search rules in
    let f2 : FitsSigned w16 c.group_number-2.result = search rules in
    let f3 : FitsSigned w16 c.group_number-3.result = search rules in
    let f4 : FitsSigned w16 c.group_number-4.result = search rules in
    let e1 : to_z w16 (of_z w16 c.group_number.result) ≡ group_number oam g 0 =
    to_z-of_z w16 c.group_number.result f1 ∙ c.group_number.ensures ∙ ap (λ (n : ℕ). group_number oam n 0) c.group-which.ensures.value in
    let e2 : to_z w16 (of_z w16 c.group_number-2.result) ≡ group_number oam g 1 =
    to_z-of_z w16 c.group_number-2.result f2 ∙ c.group_number-2.ensures ∙ ap (λ (n : ℕ). group_number oam n 1) c.group-which.ensures.value in
    let e3 : to_z w16 (of_z w16 c.group_number-3.result) ≡ group_number oam g 2 =
    to_z-of_z w16 c.group_number-3.result f3 ∙ c.group_number-3.ensures ∙ ap (λ (n : ℕ). group_number oam n 2) c.group-which.ensures.value in
    let e4 : to_z w16 (of_z w16 c.group_number-4.result) ≡ group_number oam g 3 =
    to_z-of_z w16 c.group_number-4.result f4 ∙ c.group_number-4.ensures ∙ ap (λ (n : ℕ). group_number oam n 3) c.group-which.ensures.value in
    rw (e1, e2, e3, e4) refl
