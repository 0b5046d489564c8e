use Rattle.std.proofs.Common.{ℕ, ◌≡◌, ◌*◌, ◌∙◌, ◌++◌, length, take, drop, List, arith, length-drop, sym, ap}
use Rattle.std.proofs.lemmas.List.{take_all, take-append-drop, length-take}
use Rattle.line_lanes.specs.Nibbles.{nibbles}
use Rattle.line_lanes.proofs.NibbleLemmas.{woven-take, woven-drop, nibbles-append, length-nibbles, stored_twice}
use Rattle.line_lanes.proofs.nibbles.unpack_sixteen.Goals as goal

pub returns : goal.returns
returns c =
    let bytes : List ℕ = c.args.bytes.now in
    let whole : take 16 bytes ≡ bytes = take_all 16 bytes (omega arith) in
    let front : c.weave.result.0 ≡ nibbles (take 8 bytes) =
    (rw (c.low_nibbles.ensures, c.high_nibbles.ensures, whole) at c.weave.ensures.front) ∙ woven-take 8 bytes in
    let back : c.weave.result.1 ≡ nibbles (drop 8 bytes) =
    (rw (c.low_nibbles.ensures, c.high_nibbles.ensures, whole) at c.weave.ensures.back) ∙ woven-drop 8 bytes in
    let front_long : length (take 8 bytes) ≡ 8 = simp length-take (omega arith) in
    let back_long : length (drop 8 bytes) ≡ 8 = simp length-drop (omega arith) in
    let front_stored : length c.weave.result.0 ≡ 16 = ap length front ∙ length-nibbles (take 8 bytes) ∙ ap (λ (n : ℕ). 2 * n) front_long in
    let back_stored : length c.weave.result.1 ≡ 16 = ap length back ∙ length-nibbles (drop 8 bytes) ∙ ap (λ (n : ℕ). 2 * n) back_long in
    stored_twice c.args.into.now c.weave.result.0 c.weave.result.1 c.requires.into_long front_stored back_stored
    ∙ ap (λ (xs : List ℕ). xs ++ c.weave.result.1) front
    ∙ ap (λ (xs : List ℕ). nibbles (take 8 bytes) ++ xs) back
    ∙ sym (nibbles-append (take 8 bytes) (drop 8 bytes))
    ∙ ap nibbles (take-append-drop 8 bytes)
