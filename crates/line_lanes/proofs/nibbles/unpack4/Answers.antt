use Rattle.std.proofs.Common.{ℕ, ◌≡◌, ◌<◌, ◌+◌, ◌-◌, ◌*◌, ◌/◌, ◌%◌, ◌∙◌, [], ◌∷◌, ◌++◌, length, take, drop, get_or, set, List, arith, length-append, length-drop, append_assoc, sym, ap}
use Rattle.std.proofs.Math.Seq.{take-add}
use Rattle.std.proofs.lemmas.List.{take_all, length-take, length-set, take_more, take_more_set}
use Rattle.std.proofs.lemmas.Slice.{take-put_mid}
use Rattle.line_lanes.specs.Nibbles.{nibbles}
use Rattle.line_lanes.proofs.NibbleLemmas.{nibbles-append, length-nibbles, get_or-nibbles_low, get_or-nibbles_high}
use Rattle.line_lanes.proofs.nibbles.unpack4.Goals as goal

pub sixteens-preserved : goal.sixteens-preserved
sixteens-preserved c =
    let bytes : List ℕ = c.args.bytes.now in
    let at : ℕ = c.sixteens.at in
    let into : List ℕ = c.sixteens.into in
    let new : List ℕ = c.unpack_sixteen.new.into in
    let old = c.sixteens.invariant in
    let bytes_read : at + 16 - at ≡ 16 = omega arith in
    let bytes_stored : 2 * at + 32 - 2 * at ≡ 32 = omega arith in
    let is : new ≡ nibbles (take 16 (drop at bytes)) = rw bytes_read at c.unpack_sixteen.ensures in
    let block_long : length (take 16 (drop at bytes)) ≡ 16 = simp (length-take, length-drop) (omega arith) in
    let new_long : length new ≡ 32 = ap length is ∙ length-nibbles (take 16 (drop at bytes)) ∙ ap (λ (n : ℕ). 2 * n) block_long in
    let kept : length (take (2 * at) into ++ (new ++ drop 32 (drop (2 * at) into))) ≡ length into = simp (length-append, length-take, length-drop) (omega arith) in
    rw bytes_stored
    (record {
      within = omega arith;
      same = kept ∙ old.same;
      done =
          take-put_mid (2 * at) 32 into new (2 * (at + 16)) (omega arith) (omega arith)
          ∙ ap (λ (xs : List ℕ). xs ++ new) old.done
          ∙ ap (λ (xs : List ℕ). nibbles (take at bytes) ++ xs) is
          ∙ sym (nibbles-append (take at bytes) (take 16 (drop at bytes)))
          ∙ ap nibbles (sym (take-add at 16 bytes));
    })

pub rest-preserved : goal.rest-preserved
rest-preserved c =
    let bytes : List ℕ = c.args.bytes.now in
    let at : ℕ = c.rest.at in
    let into : List ℕ = c.rest.into in
    let low : ℕ = get_or bytes at 0 % 16 in
    let high : ℕ = get_or bytes at 0 / 16 in
    let old = c.rest.invariant in
    let next : 2 * (at + 1) ≡ 2 * at + 1 + 1 = omega arith in
    let room : 2 * at < length into = omega arith in
    let room_after : 2 * at + 1 < length (set into (2 * at) low) = simp length-set (omega arith) in
    record {
      within = omega arith;
      same = simp length-set old.same;
      done =
          ap (λ (n : ℕ). take n (set (set into (2 * at) low) (2 * at + 1) high)) next
          ∙ take_more_set (set into (2 * at) low) (2 * at + 1) high room_after
          ∙ ap (λ (xs : List ℕ). xs ++ high ∷ []) (take_more_set into (2 * at) low room ∙ ap (λ (xs : List ℕ). xs ++ low ∷ []) old.done)
          ∙ append_assoc (nibbles (take at bytes)) (low ∷ []) (high ∷ [])
          ∙ sym (nibbles-append (take at bytes) (get_or bytes at 0 ∷ []))
          ∙ ap nibbles (sym (take_more bytes at 0 (omega arith)));
    }

pub returns-clause-whole : goal.returns-clause-whole
returns-clause-whole c =
    sym (take_all (2 * c.rest.at) c.rest.into (omega arith)) ∙ c.rest.invariant.done ∙ ap nibbles (take_all c.rest.at c.args.bytes.now (omega arith))

pub returns-clause-low : goal.returns-clause-low
returns-clause-low c i = ap (λ (xs : List ℕ). get_or xs (2 * i) 0) (returns-clause-whole c) ∙ get_or-nibbles_low c.args.bytes.now i

pub returns-clause-high : goal.returns-clause-high
returns-clause-high c i = ap (λ (xs : List ℕ). get_or xs (2 * i + 1) 0) (returns-clause-whole c) ∙ get_or-nibbles_high c.args.bytes.now i
