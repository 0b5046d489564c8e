-- What reading one line more does to the lines read so far.
use Rattle.asm_files.proofs.Words.{Arch, EndsAt, Half, HasPath, Leads, LinePlace, List, Path, Set, StatementLaws, Word, [], ap, arith, drop}
use Rattle.asm_files.proofs.Words.{drop-drop, inl, inr, length, length-drop, spelling_bytes, subst, suc, sym, take, take_all, zero, ℕ, ◌++◌, ◌+◌, ◌<◌}
use Rattle.asm_files.proofs.Words.{◌^◌, ◌∙◌, ◌∷◌, ◌≡◌, ◌≢◌, ◌≤◌}
use Rattle.arm_words.specs.declared.spellings.Spelling.{Spelling}
use Rattle.asm_files.proofs.PathLaws.{path_split, path_once, path_more}

-- the next of a list's lines
pub record Next (ls : List (List ℕ)) (count : ℕ) (l : List ℕ) (more : List (List ℕ)) : Type 0 where
  pub taken : take (count + 1) ls ≡ take count ls ++ l ∷ []
  pub dropped : drop (count + 1) ls ≡ more
  pub within : count < length ls

later : (x l : List ℕ) (xs more : List (List ℕ)) (count : ℕ) → Next xs count l more → Next (x ∷ xs) (suc count) l more
later x l xs more count n =
    let e : suc count + 1 ≡ suc (count + 1) = omega arith in
    let w : count < length xs = n.within in
    record { taken = rw e (ap (λ (ys : List (List ℕ)). x ∷ ys) n.taken); dropped = rw e n.dropped; within = omega arith }

pub next_of : (ls : List (List ℕ)) (count : ℕ) (l : List ℕ) (more : List (List ℕ)) → drop count ls ≡ l ∷ more → Next ls count l more
next_of [] zero l more e = absurd cc
next_of [] (suc count) l more e = absurd cc
next_of (x ∷ xs) zero l more e =
    let h : x ≡ l = cc in
    let r : xs ≡ more = cc in
    record { taken = ap (λ (y : List ℕ). y ∷ []) h; dropped = r; within = omega arith }
next_of (x ∷ xs) (suc count) l more e = later x l xs more count (next_of xs count l more e)

nothing_left : (ls : List (List ℕ)) (count : ℕ) → drop count ls ≡ [] → length ls ≤ count
nothing_left ls count e = omega (arith, length-drop count ls, ap length e)

module _ (arch : Arch) (set : Set) (from : LinePlace) (ls : List (List ℕ)) (count : ℕ) (bytes : List ℕ) (mid : LinePlace) where
  -- a line that can't stand there
  pub stops : StatementLaws → (l : List ℕ) (more : List (List ℕ)) (tail : List ℕ) → from.at < 2 ^ 32 → Path arch set from (take count ls) bytes mid → drop count ls ≡ l ∷ more → ((b : List ℕ) (to : LinePlace) → Leads arch set mid l b to → ⊥) → EndsAt arch set from ls tail count
  stops laws l more tail h p e never =
      let n = next_of ls count l more e in
      record {
        within = (let w : count < length ls = n.within in omega arith);
        bytes = bytes;
        front = record { to = mid; path = p };
        bad = inl (
          n.within,
          λ b q. (
              let P : List (List ℕ) → Type 0 = λ x. Path arch set from x b q.to in
              let s = path_split arch set from (take count ls) (l ∷ []) b q.to (subst P n.taken q.path) in
              let o = path_once laws arch set from (take count ls) bytes mid s.first s.mid h p s.before in
              let L : LinePlace → Type 0 = λ x. Leads arch set x l s.after.0 s.after.1 in
              never s.after.0 s.after.1 (subst L (sym o.1) s.after.3)),
        );
      }

  -- no line is left that has its line feed
  pub ends : (tail : List ℕ) → Path arch set from (take count ls) bytes mid → count ≤ length ls → drop count ls ≡ [] → tail ≢ [] → EndsAt arch set from ls tail count
  ends tail p h e t =
      let n = nothing_left ls count e in
      record { within = h; bytes = bytes; front = record { to = mid; path = p }; bad = inr (omega arith, t) }

  pub whole : Path arch set from (take count ls) bytes mid → drop count ls ≡ [] → HasPath arch set from ls bytes
  whole p e =
      let P : List (List ℕ) → Type 0 = λ x. Path arch set from x bytes mid in
      record { to = mid; path = subst P (take_all count ls (nothing_left ls count e)) p }

  pub goes_on : (l : List ℕ) (more : List (List ℕ)) (b : List ℕ) (to : LinePlace) → Path arch set from (take count ls) bytes mid → drop count ls ≡ l ∷ more → Leads arch set mid l b to → Path arch set from (take (count + 1) ls) (bytes ++ b) to
  goes_on l more b to p e s =
      let n = next_of ls count l more e in
      let P : List (List ℕ) → Type 0 = λ x. Path arch set from x (bytes ++ b) to in
      subst P (sym n.taken) (path_more arch set from (take count ls) bytes mid l b to p s)

pub four_at_most : (s : Spelling) → length (spelling_bytes s) ≤ 4
unfolding spelling_bytes
four_at_most (Word w) = omega arith
four_at_most (Half h) = omega arith

-- what stands after a place is kept where it is kept from an earlier place on
pub kept_on : (old text new : List ℕ) (pos n : ℕ) → drop pos text ≡ drop pos old → drop (pos + n) new ≡ drop (pos + n) text → drop (pos + n) new ≡ drop (pos + n) old
kept_on old text new pos n e h = h ∙ sym (drop-drop n pos text) ∙ ap (drop n) e ∙ drop-drop n pos old
