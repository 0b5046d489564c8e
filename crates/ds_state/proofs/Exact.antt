-- The laws of formats.
use Rattle.std.proofs.Common.{◌≡◌, ℕ, zero, suc, ◌+◌, ◌≤◌, Bool, true, false, List, [], ◌∷◌, ◌++◌, length, drop, Option, Some, None, Ok, Err, nat_lt, if◌then◌else◌, ap, sym, subst, ◌∙◌, refl, append_assoc, arith}
use Rattle.std.proofs.lemmas.List.{length-append, take-append-drop}
use Rattle.std.specs.List.{AllByRecursion}
use Rattle.ds_state.specs.Formats.{Code, code_width, Fits, Format, done, then_field, then_part, list, code_bytes}
use Rattle.ds_state.proofs.Spelled.{bytes_of, bytes_each}
use Rattle.ds_state.specs.Reading.{Left, ReadAnswer, ◌>>=◌, past, value, value_read, read_code, ruled, read_list, read_format}
use Rattle.ds_state.proofs.Standing.{Keeps, StandsFor, made, Says, IsExact}
use Rattle.ds_state.specs.FormatLaws.{RoundTrips, OneSpelling}
use Rattle.ds_state.proofs.Written.{written_after}
use Rattle.ds_state.proofs.Codes.{AreBytes, bytes_drop, long_enough, length_spelled, code_back, code_spells}

abbrev left : ℕ → List ℕ → Left
left place bytes = record { place = place; bytes = bytes }

-- a value that keeps its field's rule is read back
field_back : {V : Type 0} (c : Code V) (rule : V → Bool) (v : V) (place : ℕ) (rest : List ℕ) → Fits c v → rule v ≡ true
    → ruled rule (left place (code_bytes c v ++ rest)) (read_code c (left place (code_bytes c v ++ rest))) ≡ Ok (v, left (place + length (code_bytes c v)) rest)
field_back c rule v place rest fits keeps = rw (code_back c v place rest fits, keeps) refl

each_back : {T : Type 0} (reader : Left → ReadAnswer T) (bytes : T → List ℕ) (K : T → Type 0)
    → ((t : T) (place : ℕ) (rest : List ℕ) → K t → reader (left place (bytes t ++ rest)) ≡ Ok (t, left (place + length (bytes t)) rest))
    → (ts : List T) (place : ℕ) (rest : List ℕ) → AllByRecursion K ts
    → read_list reader (length ts) (left place (bytes_each bytes ts ++ rest)) ≡ Ok (ts, left (place + length (bytes_each bytes ts)) rest)
each_back {T = T} reader bytes K h [] place rest all = let e : place + 0 ≡ place = omega arith in rw e refl
each_back {T = T} reader bytes K h (t ∷ ts) place rest all =
    let tail = bytes_each bytes ts in
    let one : reader (left place ((bytes t ++ tail) ++ rest)) ≡ Ok (t, left (place + length (bytes t)) (tail ++ rest)) = rw (append_assoc (bytes t) tail rest) (h t place (tail ++ rest) all.0) in
    let more = each_back reader bytes K h ts (place + length (bytes t)) rest all.1 in
    let e : (place + length (bytes t)) + length tail ≡ place + length (bytes t ++ tail) = rw (length-append (bytes t) tail) (omega arith) in
    rw (one, more, e) refl

-- Bytes of a state that keeps its rules are read, whatever stands behind them.
pub reads_back : {S A : Type 0} (f : Format S A) (at : ℕ) (s : S) (place : ℕ) (rest : List ℕ) → Keeps f at s
    → read_format f at (left place (bytes_of f s ++ rest)) ≡ Ok (made f s, left (place + length (bytes_of f s)) rest)
reads_back (done a) at s place rest keeps = let e : place + 0 ≡ place = omega arith in rw e refl
reads_back (then_field c get rule next) at s place rest keeps =
    let own = code_bytes c (get s) in
    let tail = bytes_of (next (get s)) s in
    let one = field_back c (rule at) (get s) place (tail ++ rest) keeps.0 keeps.1 in
    let more = reads_back (next (get s)) at s (place + length own) rest keeps.2 in
    let e : (place + length own) + length tail ≡ place + length (own ++ tail) = rw (length-append own tail) (omega arith) in
    rw (append_assoc own tail rest, one, more, e) refl
reads_back (then_part f get next) at s place rest keeps =
    let own = bytes_of f (get s) in
    let tail = bytes_of (next (get s)) s in
    let one : read_format f at (left place (own ++ (tail ++ rest))) ≡ Ok (get s, left (place + length own) (tail ++ rest)) =
    reads_back f at (get s) place (tail ++ rest) keeps.0.0 ∙ ap (λ t. Ok (t, left (place + length own) (tail ++ rest))) keeps.0.1 in
    let more = reads_back (next (get s)) at s (place + length own) rest keeps.1 in
    let e : (place + length own) + length tail ≡ place + length (own ++ tail) = rw (length-append own tail) (omega arith) in
    rw (append_assoc own tail rest, one, more, e) refl
reads_back {A = A} (list {T = T} n f get next) at s place rest keeps =
    let own = bytes_each (bytes_of f) (get s) in
    let tail = bytes_of (next (get s)) s in
    let items : read_list (read_format f at) (length (get s)) (left place (own ++ (tail ++ rest))) ≡ Ok (get s, left (place + length own) (tail ++ rest)) =
    each_back (read_format f at) (bytes_of f) (StandsFor f at) (λ t p r k. reads_back f at t p r k.0 ∙ ap (λ (x : T). Ok (x, left (p + length (bytes_of f t)) r)) k.1) (get s) place (tail ++ rest) keeps.1 in
    let one : read_list (read_format f at) n (left place (own ++ (tail ++ rest))) ≡ Ok (get s, left (place + length own) (tail ++ rest)) = rw (sym keeps.0) items in
    let more = reads_back (next (get s)) at s (place + length own) rest keeps.2 in
    let e : (place + length own) + length tail ≡ place + length (own ++ tail) = rw (length-append own tail) (omega arith) in
    rw (append_assoc own tail rest, one, more, e) refl

-- so many bytes were taken
pub record Took (own : List ℕ) (l m : Left) : Type 0 where
  pub is : l.bytes ≡ own ++ m.bytes
  pub place : m.place ≡ l.place + length own
  pub are : AreBytes m.bytes

took_both : (xs ys : List ℕ) (l m n : Left) → Took xs l m → Took ys m n → Took (xs ++ ys) l n
took_both xs ys l m n one two = record {
  is = one.is ∙ ap (λ (b : List ℕ). xs ++ b) two.is ∙ sym (append_assoc xs ys n.bytes);
  place = let a = one.place in let b = two.place in rw (length-append xs ys) (omega (arith, a, b));
  are = two.are;
}

abbrev IsGood : {A : Type 0} → ReadAnswer A → Type 0
IsGood (Ok p) = Unit {0}
IsGood (Err e) = ⊥

abbrev good_or : {A : Type 0} → A × Left → ReadAnswer A → A × Left
good_or d (Ok p) = p
good_or d (Err e) = d

ok_same : {A : Type 0} {p q : A × Left} → ◌≡◌ {A = ReadAnswer A} (Ok p) (Ok q) → p ≡ q
ok_same {A = A} {p = p} h = ap (λ (r : ReadAnswer A). good_or p r) h

bound : {A B : Type 0} (r : ReadAnswer A) (k : A × Left → ReadAnswer B) (q : B × Left) → (r >>= k) ≡ Ok q → (p : A × Left) × (r ≡ Ok p) × (k p ≡ Ok q)
bound (Ok p) k q h = (p, refl, h)
bound (Err e) k q h = absurd (subst IsGood (sym h) tt)

if_good : {A : Type 0} (b : Bool) (p q : A × Left) (e : ℕ) → (if b then Ok p else Err e) ≡ Ok q → (b ≡ true) × (p ≡ q)
if_good true p q e h = (refl, ok_same h)
if_good false p q e h = absurd (subst IsGood (sym h) tt)

else_good : {A : Type 0} (b : Bool) (e : ℕ) (r : ReadAnswer A) (q : A × Left) → (if b then Err e else r) ≡ Ok q → (b ≡ false) × (r ≡ Ok q)
else_good false e r q h = (refl, h)
else_good true e r q h = absurd (subst IsGood (sym h) tt)

value_good : {V : Type 0} (o : Option V) (n : ℕ) (l : Left) (q : V × Left) → value_read o n l ≡ Ok q → (o ≡ Some q.0) × (past n l ≡ q.1)
value_good {V = V} (Some v) n l q h = (ap (λ (p : V × Left). Some p.0) (ok_same h), ap (λ (p : V × Left). p.1) (ok_same h))
value_good None n l q h = absurd (subst IsGood (sym h) tt)

code_read : {V : Type 0} (c : Code V) (l : Left) (q : V × Left) → AreBytes l.bytes → read_code c l ≡ Ok q → Fits c q.0 × Took (code_bytes c q.0) l q.1
unfolding read_code
code_read c l q are h =
    let a = else_good (nat_lt (length l.bytes) (code_width c)) l.place (value_read (value c l.bytes) (code_width c) l) q h in
    let b = value_good (value c l.bytes) (code_width c) l q a.1 in
    let le : code_width c ≤ length l.bytes = long_enough (length l.bytes) (code_width c) a.0 in
    let s = code_spells c l.bytes q.0 are le b.0 in
    let n : length (code_bytes c q.0) ≡ code_width c = length_spelled c q.0 s.1 in (
      s.1,
      record {
        is = sym (take-append-drop (code_width c) l.bytes) ∙ ap (λ (b : List ℕ). b ++ drop (code_width c) l.bytes) (sym s.0) ∙ ap (λ (m : Left). code_bytes c q.0 ++ m.bytes) b.1;
        place = ap (λ (m : Left). m.place) (sym b.1) ∙ ap (λ (k : ℕ). l.place + k) (sym n);
        are = subst (λ (m : Left). AreBytes m.bytes) b.1 (bytes_drop (code_width c) l.bytes are);
      },
    )

field_read : {V : Type 0} (c : Code V) (rule : V → Bool) (l : Left) (q : V × Left) → AreBytes l.bytes → ruled rule l (read_code c l) ≡ Ok q
    → Fits c q.0 × (rule q.0 ≡ true) × Took (code_bytes c q.0) l q.1
field_read {V = V} c rule l q are h =
    let a = bound (read_code c l) (λ p. if rule p.0 then Ok p else Err l.place) q h in
    let b = if_good (rule a.0.0) a.0 q l.place a.2 in
    let e : read_code c l ≡ Ok q = a.1 ∙ ap (λ (p : V × Left). Ok p) b.1 in
    let t = code_read c l q are e in
    (t.0, subst (λ (p : V × Left). rule p.0 ≡ true) b.1 b.0, t.1)

each_read : {T : Type 0} (reader : Left → ReadAnswer T) (bytes : T → List ℕ) (K : T → Type 0)
    → ((l : Left) (q : T × Left) → AreBytes l.bytes → reader l ≡ Ok q → K q.0 × Took (bytes q.0) l q.1)
    → (n : ℕ) (l : Left) (q : List T × Left) → AreBytes l.bytes → read_list reader n l ≡ Ok q
    → (length q.0 ≡ n) × AllByRecursion K q.0 × Took (bytes_each bytes q.0) l q.1
each_read {T = T} reader bytes K H zero l q are h =
    subst (λ (p : List T × Left). (length p.0 ≡ 0) × AllByRecursion K p.0 × Took (bytes_each bytes p.0) l p.1) (ok_same h)
    (refl, tt, record { is = refl; place = omega arith; are = are })
each_read {T = T} reader bytes K H (suc n) l q are h =
    let a = bound (reader l) (λ p. read_list reader n p.1 >>= (λ r. Ok (p.0 ∷ r.0, r.1))) q h in
    let b = bound (read_list reader n a.0.1) (λ r. Ok (a.0.0 ∷ r.0, r.1)) q a.2 in
    let one = H l a.0 are a.1 in
    let more = each_read reader bytes K H n a.0.1 b.0 one.1.are b.1 in
    subst (λ (p : List T × Left). (length p.0 ≡ suc n) × AllByRecursion K p.0 × Took (bytes_each bytes p.0) l p.1) (ok_same b.2)
    (ap (λ (k : ℕ). suc k) more.0, (one.0, more.1), took_both (bytes a.0.0) (bytes_each bytes b.0.0) l a.0.1 b.0.1 one.1 more.2)

-- What is read stands where it was read, keeps the rules, and is what is made of its own values.
pub record Was {S A : Type 0} (state : A → S) (f : Format S A) (at : ℕ) (l : Left) (q : A × Left) : Type 0 where
  pub took : Took (bytes_of f (state q.0)) l q.1
  pub keeps : Keeps f at (state q.0)
  pub again : made f (state q.0) ≡ q.0

pub reads_exactly : {S A : Type 0} (state : A → S) (f : Format S A) (at : ℕ) (P : A → Type 0) (l : Left) (q : A × Left) → Says state f at P → AreBytes l.bytes → read_format f at l ≡ Ok q
    → Was state f at l q × P q.0
reads_exactly {A = A} state (done a) at P l q says are h =
    subst (λ (p : A × Left). Was state (done a) at l p × P p.0) (ok_same h)
    (record { took = record { is = refl; place = omega arith; are = are }; keeps = tt; again = refl }, says)
reads_exactly {A = A} state (then_field c get rule next) at P l q says are h =
    let a = bound (ruled (rule at) l (read_code c l)) (λ p. read_format (next p.0) at p.1) q h in
    let v = a.0.0 in
    let one = field_read c (rule at) l a.0 are a.1 in
    let more = reads_exactly state (next v) at (λ x. (get (state x) ≡ v) × P x) a.0.1 q (says v one.0 one.1) one.2.are a.2 in
    let e = more.1.0 in (
      record {
        took = rw e (took_both (code_bytes c v) (bytes_of (next v) (state q.0)) l a.0.1 q.1 one.2 more.0.took);
        keeps = rw e (one.0, one.1, more.0.keeps);
        again = rw e (more.0.again);
      },
      more.1.1,
    )
reads_exactly {A = A} state (then_part {T = T} f get next) at P l q says are h =
    let a = bound (read_format f at l) (λ p. read_format (next p.0) at p.1) q h in
    let t = a.0.0 in
    let one = (reads_exactly (λ (x : T). x) f at (λ (x : T). Unit {0}) l a.0 says.0 are a.1).0 in
    let more = reads_exactly state (next t) at (λ x. (get (state x) ≡ t) × P x) a.0.1 q (says.1 t (one.keeps, one.again)) one.took.are a.2 in
    let e = more.1.0 in (
      record {
        took = rw e (took_both (bytes_of f t) (bytes_of (next t) (state q.0)) l a.0.1 q.1 one.took more.0.took);
        keeps = rw e ((one.keeps, one.again), more.0.keeps);
        again = rw e (more.0.again);
      },
      more.1.1,
    )
reads_exactly {A = A} state (list {T = T} n f get next) at P l q says are h =
    let a = bound (read_list (read_format f at) n l) (λ p. read_format (next p.0) at p.1) q h in
    let ts = a.0.0 in
    let item : (m : Left) (p : T × Left) → AreBytes m.bytes → read_format f at m ≡ Ok p → StandsFor f at p.0 × Took (bytes_of f p.0) m p.1 =
    λ m p b g. let w = (reads_exactly (λ (x : T). x) f at (λ (x : T). Unit {0}) m p says.0 b g).0 in ((w.keeps, w.again), w.took) in
    let one = each_read (read_format f at) (bytes_of f) (StandsFor f at) item n l a.0 are a.1 in
    let more = reads_exactly state (next ts) at (λ x. (get (state x) ≡ ts) × P x) a.0.1 q (says.1 ts one.0 one.1) one.2.are a.2 in
    let e = more.1.0 in (
      record {
        took = rw e (took_both (bytes_each (bytes_of f) ts) (bytes_of (next ts) (state q.0)) l a.0.1 q.1 one.2 more.0.took);
        keeps = rw e (one.0, one.1, more.0.keeps);
        again = rw e (more.0.again);
      },
      more.1.1,
    )

pub round_trips : {S : Type 0} (f : Format S S) (at : ℕ) (s : S) → StandsFor f at s → RoundTrips f at s
round_trips {S = S} f at s stands = λ place rest. rw (written_after f [] s) (reads_back f at s place rest stands.0 ∙ ap (λ (x : S). Ok (x, left (place + length (bytes_of f s)) rest)) stands.1)

pub one_spelling : {S : Type 0} (f : Format S S) (at : ℕ) → IsExact f at → OneSpelling f at
one_spelling {S = S} f at exact = λ place bytes s l are h.
    let was = (reads_exactly (λ (x : S). x) f at (λ (x : S). Unit {0}) (left place bytes) (s, l) exact are h).0 in
    rw (written_after f [] s) was.took.is
