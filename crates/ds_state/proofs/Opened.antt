-- Parts of a format whose fields stand in the whole's: what is read is the same.
use Rattle.std.proofs.Common.{Bool, Err, List, Ok, [], false, refl, suc, sym, true, zero, ℕ, ◌++◌, ◌∙◌, ◌∷◌, ◌≡◌}
use Rattle.ds_state.specs.Formats.{Format, bytes_written, done, list, then_field, then_part}
use Rattle.ds_state.specs.Reading.{Left, ReadAnswer, read_code, read_format, read_list, ruled, ◌>>=◌}
use Rattle.ds_state.specs.FormatLaws.{OneSpelling, RoundTrips}

-- the fields of a part, said of the whole, and what comes after it
abbrev pub opened : {S T A B : Type 0} → Format T A → (S → T) → (A → Format S B) → Format S B
opened (done a) part after = after a
opened (then_field c get rule next) part after = then_field c (λ s. get (part s)) rule (λ v. opened (next v) part after)
opened (then_part f get next) part after = then_part f (λ s. get (part s)) (λ t. opened (next t) part after)
opened (list n f get next) part after = list n f (λ s. get (part s)) (λ ts. opened (next ts) part after)

-- a format with some of its first parts opened, by a flag for each
abbrev pub open_by : {S A : Type 0} → List Bool → Format S A → Format S A
open_by [] f = f
open_by (b ∷ bs) (done a) = done a
open_by (b ∷ bs) (then_field c get rule next) = then_field c get rule (λ v. open_by (b ∷ bs) (next v))
open_by (true ∷ bs) (then_part f get next) = opened f get (λ t. open_by bs (next t))
open_by (false ∷ bs) (then_part f get next) = then_part f get (λ t. open_by bs (next t))
open_by (b ∷ bs) (list n f get next) = list n f get (λ ts. open_by (b ∷ bs) (next ts))

after_same : {A B : Type 0} (r : ReadAnswer A) (f g : A × Left → ReadAnswer B) → ((p : A × Left) → f p ≡ g p) → (r >>= f) ≡ (r >>= g)
after_same (Ok p) f g h = h p
after_same (Err e) f g h = refl

after_both : {A B C : Type 0} (r : ReadAnswer A) (f : A × Left → ReadAnswer C) (g : A × Left → ReadAnswer B) (k : B × Left → ReadAnswer C)
    → ((p : A × Left) → f p ≡ (g p >>= k)) → (r >>= f) ≡ ((r >>= g) >>= k)
after_both (Ok p) f g k h = h p
after_both (Err e) f g k h = refl

opened_reads : {S T A B : Type 0} (f : Format T A) (part : S → T) (after same : A → Format S B) (at : ℕ)
    → ((a : A) (l : Left) → read_format (after a) at l ≡ read_format (same a) at l)
    → (l : Left) → read_format (opened f part after) at l ≡ (read_format f at l >>= (λ p. read_format (same p.0) at p.1))
opened_reads (done a) part after same at h l = h a l
opened_reads (then_field c get rule next) part after same at h l =
    after_both (ruled (rule at) l (read_code c l)) (λ p. read_format (opened (next p.0) part after) at p.1) (λ p. read_format (next p.0) at p.1)
    (λ p. read_format (same p.0) at p.1) (λ p. opened_reads (next p.0) part after same at h p.1)
opened_reads (then_part f get next) part after same at h l =
    after_both (read_format f at l) (λ p. read_format (opened (next p.0) part after) at p.1) (λ p. read_format (next p.0) at p.1)
    (λ p. read_format (same p.0) at p.1) (λ p. opened_reads (next p.0) part after same at h p.1)
opened_reads (list n f get next) part after same at h l =
    after_both (read_list (read_format f at) n l) (λ p. read_format (opened (next p.0) part after) at p.1) (λ p. read_format (next p.0) at p.1)
    (λ p. read_format (same p.0) at p.1) (λ p. opened_reads (next p.0) part after same at h p.1)

pub open_reads : {S A : Type 0} (bs : List Bool) (f : Format S A) (at : ℕ) (l : Left) → read_format (open_by bs f) at l ≡ read_format f at l
open_reads [] f at l = refl
open_reads (b ∷ bs) (done a) at l = refl
open_reads (b ∷ bs) (then_field c get rule next) at l =
    after_same (ruled (rule at) l (read_code c l)) (λ p. read_format (open_by (b ∷ bs) (next p.0)) at p.1) (λ p. read_format (next p.0) at p.1)
    (λ p. open_reads (b ∷ bs) (next p.0) at p.1)
open_reads (true ∷ bs) (then_part f get next) at l =
    opened_reads f get (λ t. open_by bs (next t)) next at (λ t m. open_reads bs (next t) at m) l
open_reads (false ∷ bs) (then_part f get next) at l =
    after_same (read_format f at l) (λ p. read_format (open_by bs (next p.0)) at p.1) (λ p. read_format (next p.0) at p.1)
    (λ p. open_reads bs (next p.0) at p.1)
open_reads (b ∷ bs) (list n f get next) at l =
    after_same (read_list (read_format f at) n l) (λ p. read_format (open_by (b ∷ bs) (next p.0)) at p.1) (λ p. read_format (next p.0) at p.1)
    (λ p. open_reads (b ∷ bs) (next p.0) at p.1)

-- Two formats that are read and written alike owe the same.
pub comes_back : {S : Type 0} (f g : Format S S) (at : ℕ) (s : S) → ((l : Left) → read_format f at l ≡ read_format g at l)
    → bytes_written f [] s ≡ bytes_written g [] s → RoundTrips g at s → RoundTrips f at s
comes_back f g at s reads writes trips = λ place rest. rw writes (reads (record { place = place; bytes = bytes_written g [] s ++ rest }) ∙ trips place rest)

pub spelled_once : {S : Type 0} (f g : Format S S) (at : ℕ) → ((l : Left) → read_format f at l ≡ read_format g at l)
    → ((s : S) → bytes_written f [] s ≡ bytes_written g [] s) → OneSpelling g at → OneSpelling f at
spelled_once f g at reads writes spells = λ place bytes s left are h.
    rw (writes s) (spells place bytes s left are (sym (reads (record { place = place; bytes = bytes })) ∙ h))
