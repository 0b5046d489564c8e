-- Texts that pass through a page to a sink, one after the other.
use Rattle.asm_files.proofs.Words.{Arch, Arm, Bool, List, Passed, Passing, Set, Thumb, [], ap, append-nil, append_assoc, arith, arm_lines, drop}
use Rattle.asm_files.proofs.Words.{get_or, half_from, length, lines_of, listed, map, raw_byte, refl, size, subst, sym, take, take_all, text_of}
use Rattle.asm_files.proofs.Words.{thumb_lines, word_from, ℕ, ◌%◌, ◌++◌, ◌+◌, ◌-◌, ◌<◌, ◌^◌, ◌∙◌, ◌∷◌, ◌≡◌, ◌≤◌}
use Rattle.ds_io.specs.Sinks.{Appended, AppendedFront}
use Rattle.ds_io.proofs.SinkLemmas.{append_none, append_twice, front_after, front_of_more}
use Rattle.asm_files.proofs.PathLaws.{few_lines}

-- the bytes of a page and of two texts, in two ways
regrouped : (before text sent after x rest sent' after' : List ℕ) → before ++ text ≡ sent ++ (after ++ (x ++ rest)) → after ++ x ≡ sent' ++ (after' ++ []) → before ++ text ≡ (sent ++ sent') ++ (after' ++ rest)
regrouped before text sent after x rest sent' after' e f =
    e
    ∙ ap (λ (l : List ℕ). sent ++ l) (sym (append_assoc after x rest) ∙ ap (λ (l : List ℕ). l ++ rest) (f ∙ ap (λ (l : List ℕ). sent' ++ l) (append-nil after')) ∙ append_assoc sent' after' rest)
    ∙ sym (append_assoc sent sent' (after' ++ rest))

begun : (before text sent after x rest : List ℕ) → before ++ text ≡ sent ++ (after ++ (x ++ rest)) → (sent ++ (after ++ x)) ++ rest ≡ before ++ text
begun before text sent after x rest e =
    append_assoc sent (after ++ x) rest ∙ ap (λ (l : List ℕ). sent ++ l) (append_assoc after x rest) ∙ sym e

module _ {S : Type 0} (tells : S → Bool) (taken : S → List ℕ → Type 0) where
  -- nothing has come yet
  pub none_passed : (old : S) (page text : List ℕ) → Passing tells taken old old page page text text
  none_passed old page text = record { sent = []; all = refl; appended = append_none tells taken old }

  -- the next text has passed
  pub then_passed : (old mid new : S) (before after text now x next after' : List ℕ) → now ≡ x ++ next → Passing tells taken old mid before after text now → Passed tells taken mid new after after' x → Passing tells taken old new before after' text next
  then_passed old mid new before after text now x next after' e p q = record {
    sent = p.sent ++ q.sent;
    all = regrouped before text p.sent after x next q.sent after' (p.all ∙ ap (λ (l : List ℕ). p.sent ++ (after ++ l)) e) q.all;
    appended = append_twice tells taken old mid new p.sent q.sent p.appended q.appended;
  }

  -- a front of it has passed
  pub then_failed : (old mid new : S) (before after text now x next : List ℕ) → now ≡ x ++ next → Passing tells taken old mid before after text now → AppendedFront tells taken mid new (after ++ x) → AppendedFront tells taken old new (before ++ text)
  then_failed old mid new before after text now x next e p q =
      let P : List ℕ → Type 0 = λ l. AppendedFront tells taken old new l in
      subst P (begun before text p.sent after x next (p.all ∙ ap (λ (l : List ℕ). p.sent ++ (after ++ l)) e)) (front_of_more tells taken old new (p.sent ++ (after ++ x)) next (front_after tells taken old mid new p.sent (after ++ x) p.appended q))

  -- the page began empty, and goes out last
  pub from_empty : (old new : S) (page text : List ℕ) → page ≡ [] → AppendedFront tells taken old new (page ++ text) → AppendedFront tells taken old new text
  from_empty old new page text e h = (let P : List ℕ → Type 0 = λ l. AppendedFront tells taken old new (l ++ text) in subst P e h)

  all_sent : (old mid : S) (first page text : List ℕ) → first ≡ [] → (p : Passed tells taken old mid first page text) → p.sent ++ page ≡ text
  all_sent old mid first page text e p = sym (ap (λ (l : List ℕ). p.sent ++ l) (append-nil page)) ∙ sym p.all ∙ ap (λ (l : List ℕ). l ++ text) e

  pub last_passed : (old mid new : S) (first page text : List ℕ) → first ≡ [] → Passed tells taken old mid first page text → Appended tells taken mid new page → Appended tells taken old new text
  last_passed old mid new first page text e p q =
      let P : List ℕ → Type 0 = λ l. Appended tells taken old new l in
      subst P (all_sent old mid first page text e p) (append_twice tells taken old mid new p.sent page p.appended q)

  pub last_failed : (old mid new : S) (first page text : List ℕ) → first ≡ [] → Passed tells taken old mid first page text → AppendedFront tells taken mid new page → AppendedFront tells taken old new text
  last_failed old mid new first page text e p q =
      let P : List ℕ → Type 0 = λ l. AppendedFront tells taken old new l in
      subst P (all_sent old mid first page text e p) (front_after tells taken old mid new p.sent page p.appended q)

-- the next line of an image's text
line_step : (l : List ℕ) (ls : List (List ℕ)) → text_of (l ∷ ls) ≡ (l ++ 10 ∷ []) ++ text_of ls
line_step l ls = sym (append_assoc l (10 ∷ []) (text_of ls))

pub byte_step : (rest line : List ℕ) → 1 ≤ length rest → line ≡ raw_byte (get_or rest 0 0) → text_of (map raw_byte rest) ≡ (line ++ 10 ∷ []) ++ text_of (map raw_byte (take (length rest - 1) (drop 1 rest)))
byte_step [] line h e = absurd (omega arith)
byte_step (b ∷ bs) line h e =
    let t : take (length (b ∷ bs) - 1) bs ≡ bs = take_all (length (b ∷ bs) - 1) bs (omega arith) in
    ap (λ (l : List ℕ). l ++ 10 ∷ text_of (map raw_byte bs)) (sym e) ∙ line_step line (map raw_byte bs) ∙ ap (λ (l : List ℕ). (line ++ 10 ∷ []) ++ text_of (map raw_byte l)) (sym t)

pub word_step : (arch : Arch) (at : ℕ) (rest line : List ℕ) (word : ℕ) → 4 ≤ length rest → word ≡ word_from (get_or rest 0 0) (get_or rest 1 0) (get_or rest 2 0) (get_or rest 3 0) → line ≡ listed arch Arm at word → text_of (arm_lines arch at rest) ≡ (line ++ 10 ∷ []) ++ text_of (arm_lines arch ((at + 4) % 2 ^ 32) (take (length rest - 4) (drop 4 rest)))
word_step arch at [] line w h n e = absurd (omega arith)
word_step arch at (a ∷ []) line w h n e = absurd (omega arith)
word_step arch at (a ∷ b ∷ []) line w h n e = absurd (omega arith)
word_step arch at (a ∷ b ∷ c ∷ []) line w h n e = absurd (omega arith)
word_step arch at (a ∷ b ∷ c ∷ d ∷ rest) line w h n e =
    let t : take (length (a ∷ b ∷ c ∷ d ∷ rest) - 4) rest ≡ rest = take_all (length (a ∷ b ∷ c ∷ d ∷ rest) - 4) rest (omega arith) in
    ap (λ (l : List ℕ). l ++ 10 ∷ text_of (arm_lines arch ((at + 4) % 2 ^ 32) rest)) (sym (e ∙ ap (listed arch Arm at) n)) ∙ line_step line (arm_lines arch ((at + 4) % 2 ^ 32) rest) ∙ ap (λ (l : List ℕ). (line ++ 10 ∷ []) ++ text_of (arm_lines arch ((at + 4) % 2 ^ 32) l)) (sym t)

pub half_step : (arch : Arch) (at : ℕ) (rest line : List ℕ) (half : ℕ) → 2 ≤ length rest → half ≡ half_from (get_or rest 0 0) (get_or rest 1 0) → line ≡ listed arch Thumb at half → text_of (thumb_lines arch at rest) ≡ (line ++ 10 ∷ []) ++ text_of (thumb_lines arch ((at + 2) % 2 ^ 32) (take (length rest - 2) (drop 2 rest)))
half_step arch at [] line w h n e = absurd (omega arith)
half_step arch at (a ∷ []) line w h n e = absurd (omega arith)
half_step arch at (a ∷ b ∷ rest) line w h n e =
    let t : take (length (a ∷ b ∷ rest) - 2) rest ≡ rest = take_all (length (a ∷ b ∷ rest) - 2) rest (omega arith) in
    ap (λ (l : List ℕ). l ++ 10 ∷ text_of (thumb_lines arch ((at + 2) % 2 ^ 32) rest)) (sym (e ∙ ap (listed arch Thumb at) n)) ∙ line_step line (thumb_lines arch ((at + 2) % 2 ^ 32) rest) ∙ ap (λ (l : List ℕ). (line ++ 10 ∷ []) ++ text_of (thumb_lines arch ((at + 2) % 2 ^ 32) l)) (sym t)

-- the lines of the bytes that are left
pub left_step : (arch : Arch) (set : Set) (at : ℕ) (rest : List ℕ) → length rest < size set → text_of (lines_of arch set at rest) ≡ text_of (map raw_byte rest) ++ []
left_step arch set at rest h = ap text_of (sym (few_lines arch set at rest h)) ∙ sym (append-nil (text_of (map raw_byte rest)))

-- a first line and the lines after it
pub start_step : (l line : List ℕ) (ls : List (List ℕ)) → line ≡ l → text_of (l ∷ ls) ≡ (line ++ 10 ∷ []) ++ text_of ls
start_step l line ls e = ap (λ (x : List ℕ). x ++ 10 ∷ text_of ls) (sym e) ∙ line_step line ls
