-- Texts and their lines.
use Rattle.asm_files.proofs.Words.{AllBytes, Arch, Bool, HasNoFeed, Leads, LinePlace, List, Path, Set, StatementLaws, [], ap, append-nil}
use Rattle.asm_files.proofs.Words.{append_assoc, arith, byte_plain, false, first_place, inl, inr, lines_in, lines_of, listing_lines, refl}
use Rattle.asm_files.proofs.Words.{start_plain, subst, sym, tail, tail_in, text_of, true, whole_lines, ℕ, ◌++◌, ◌∙◌, ◌∷◌, ◌≡◌, ◌≢◌}
use Rattle.std.specs.Prelude.{◌==◌, if◌then◌else◌}
use Rattle.asm_files.proofs.PathLaws.{path_of_lines}

abbrev pub AllPlain : List (List ℕ) → Type 0
AllPlain [] = Unit {0}
AllPlain (l ∷ ls) = HasNoFeed l × AllPlain ls

no_feed : (b : ℕ) → b ≢ 10 → (b == 10) ≡ false
no_feed b h = grind arith

-- a line without feeds is read to its end
pub line_first : (line l rest : List ℕ) → HasNoFeed l → lines_in line (l ++ 10 ∷ rest) ≡ (line ++ l) ∷ lines_in [] rest
line_first line [] rest h = ap (λ (x : List ℕ). x ∷ lines_in [] rest) (sym (append-nil line))
line_first line (b ∷ l) rest h = rw (no_feed b h.0) (line_first (line ++ b ∷ []) l rest h.1 ∙ ap (λ (x : List ℕ). x ∷ lines_in [] rest) (append_assoc line (b ∷ []) l))

pub tail_first : (line l rest : List ℕ) → HasNoFeed l → tail_in line (l ++ 10 ∷ rest) ≡ tail_in [] rest
tail_first line [] rest h = refl
tail_first line (b ∷ l) rest h = rw (no_feed b h.0) (tail_first (line ++ b ∷ []) l rest h.1)

pub lines_again : (ls : List (List ℕ)) → AllPlain ls → whole_lines (text_of ls) ≡ ls
lines_again [] h = refl
lines_again (l ∷ ls) h = line_first [] l (text_of ls) h.0 ∙ ap (λ (x : List (List ℕ)). l ∷ x) (lines_again ls h.1)

pub tail_again : (ls : List (List ℕ)) → AllPlain ls → tail (text_of ls) ≡ []
tail_again [] h = refl
tail_again (l ∷ ls) h = tail_first [] l (text_of ls) h.0 ∙ tail_again ls h.1

text_step : (line : List ℕ) (b : ℕ) (bs : List ℕ) (feed : Bool) → (b == 10) ≡ feed → text_of (lines_in [] bs) ++ tail_in [] bs ≡ bs → text_of (lines_in (line ++ b ∷ []) bs) ++ tail_in (line ++ b ∷ []) bs ≡ (line ++ b ∷ []) ++ bs →
    text_of (if feed then line ∷ lines_in [] bs else lines_in (line ++ b ∷ []) bs) ++ (if feed then tail_in [] bs else tail_in (line ++ b ∷ []) bs) ≡ line ++ b ∷ bs
text_step line b bs true e here on =
    let same : b ≡ 10 = grind arith in
    append_assoc line (10 ∷ text_of (lines_in [] bs)) (tail_in [] bs) ∙ ap (λ (x : List ℕ). line ++ 10 ∷ x) here ∙ ap (λ (x : ℕ). line ++ x ∷ bs) (sym same)
text_step line b bs false e here on = on ∙ append_assoc line (b ∷ []) bs

-- a text is its lines and what stands after them
pub text_again : (line text : List ℕ) → text_of (lines_in line text) ++ tail_in line text ≡ line ++ text
text_again line [] = sym (append-nil line)
text_again line (b ∷ bs) = text_step line b bs (b == 10) refl (text_again [] bs) (text_again (line ++ b ∷ []) bs)

leads_plain : StatementLaws → (arch : Arch) (set : Set) (from : LinePlace) (line b : List ℕ) (to : LinePlace) → Leads arch set from line b to → HasNoFeed line
leads_plain laws arch set from line b to (inl x) = subst HasNoFeed (sym x.text) (laws.plain arch set from.at x.number)
leads_plain laws arch set from line b to (inr x) = subst HasNoFeed (sym x.text) (byte_plain x.number)

path_plain : StatementLaws → (arch : Arch) (set : Set) (from : LinePlace) (ls : List (List ℕ)) (b : List ℕ) (to : LinePlace) → Path arch set from ls b to → AllPlain ls
path_plain laws arch set from [] b to p = tt
path_plain laws arch set from (l ∷ ls) b to p = (leads_plain laws arch set from l p.0 p.1 p.3, path_plain laws arch set p.1 ls p.2 to p.5)

pub listing_plain : StatementLaws → (arch : Arch) (set : Set) (at : ℕ) (image : List ℕ) → AllBytes image → AllPlain (listing_lines arch set at image)
listing_plain laws arch set at image all =
    let p = path_of_lines arch set at image all in
    (start_plain arch set at, path_plain laws arch set (first_place at) (lines_of arch set at image) image p.to p.path)
