use Rattle.run_ahead.proofs.Words.{ConsoleState, Err, HasMachineBounds, IsErrAnd, IsOver, IsSound, IsWithinTick, KeyLine, Left, List, MachineState}
use Rattle.run_ahead.proofs.Words.{MachinesComeBack, None, Ok, ReadAnswer, Result, Unpacked, [], ap, append-nil, bytes_eq, counts_of, dues_of}
use Rattle.run_ahead.proofs.Words.{eqb-true, head_format, length, read_format, refl, rules, slice_index, subst, suc, sym, true, ℕ, ◌*◌, ◌++◌, ◌+◌}
use Rattle.run_ahead.proofs.Words.{◌<◌, ◌>>=◌, ◌^◌, ◌∙◌, ◌∷◌, ◌≡◌, ◌≤◌}
use Rattle.ds_state.specs.Formats.{bytes_written}
use Rattle.run_ahead.specs.Saved.{FailsState, IsReadBack, console_of, format_behind, head_of, read_console, read_state, state_bytes, GivesState}
use Rattle.run_ahead.specs.Saved.{StatesHaveOneSpelling, read_whole, where_whole}
use Rattle.std.proofs.lemmas.Slice.Eq.{bytes_eq-Decides}
use Rattle.ds_state.proofs.Exact.{one_spelling, round_trips}
use Rattle.ds_state.proofs.Written.{written_after}
use Rattle.ds_state.proofs.Standing.{IsExact, StandsFor}
use Rattle.ds_state.specs.FormatLaws.{RoundTrips}
use Rattle.ds_machine.specs.Saved.{MachinesAreSaved, script_from}
use Rattle.run_ahead.specs.declared.heads.Head.{Head}

-- A console in bytes: they are read back as it, and no others are read as it.

-- ---- the head

head_exact : (digest : List ℕ) (limit : ℕ) → IsExact (head_format digest) limit
unfolding head_format
head_exact digest limit = λ letter _ s version _ one sum _ its at _ _ nine _ _ seven _ _ events _ _ turns _ _.
    (refl, (refl, (refl, (refl, (refl, (sym ((bytes_eq-Decides sum digest).0 its), (sym (eqb-true version 1 one), (sym (eqb-true letter 0x53 s), tt))))))))

-- the numbers of a head that can stand before a machine, where a run to a limit is to go on from it
record StandsBelow (limit : ℕ) (head : Head) : Type 0 where
  below : head.at < limit
  early : head.at ≤ 2 ^ 56
  few : head.nine + head.seven + head.events ≤ 24 * head.at
  fewer : head.turns ≤ head.nine + head.seven + head.events

head_stands : (digest : List ℕ) (limit : ℕ) (head : Head) → length digest ≡ 32 → StandsBelow limit head → StandsFor (head_format digest) limit head
unfolding head_format
head_stands digest limit head long is =
    let below = is.below in let early = is.early in let few = is.few in let fewer = is.fewer in
    let same : bytes_eq digest digest ≡ true = (bytes_eq-Decides digest digest).1 refl in
    (search rules, refl)

-- ---- both

abbrev left : ℕ → List ℕ → Left
left place bytes = record { place = place; bytes = bytes }

-- the bytes of a console are those of the machine behind those of the head
behind : (digest : List ℕ) (c : ConsoleState) → state_bytes digest c
    ≡ bytes_written (head_format digest) [] (head_of c) ++ bytes_written (format_behind (head_of c) c.machine.file c.machine.keys) [] c.machine
behind digest c =
    let front = bytes_written (head_format digest) [] (head_of c) in
    let f = format_behind (head_of c) c.machine.file c.machine.keys in
    written_after f front c.machine ∙ ap (λ (b : List ℕ). front ++ b) (sym (written_after f [] c.machine))

-- as they are written: the head first, and then the machine
pub written_whole : (digest : List ℕ) (c : ConsoleState) (m : MachineState) (head : Head) (start front whole : List ℕ) → m ≡ c.machine → head ≡ head_of c → start ≡ []
    → front ≡ bytes_written (head_format digest) start head → whole ≡ bytes_written (format_behind (head_of c) m.file m.keys) front m → whole ≡ state_bytes digest c
written_whole digest c m head start front whole is its none one two =
    let by_head : front ≡ bytes_written (head_format digest) [] (head_of c) =
    one
    ∙ ap (λ (b : List ℕ). bytes_written (head_format digest) b head) none
    ∙ ap (λ (h : Head). bytes_written (head_format digest) [] h) its in
    two
    ∙ ap (λ (x : MachineState). bytes_written (format_behind (head_of c) x.file x.keys) front x) is
    ∙ ap (λ (b : List ℕ). bytes_written (format_behind (head_of c) c.machine.file c.machine.keys) b c.machine) by_head

-- they stand so by each key script
behind_by : (digest : List ℕ) (c : ConsoleState) (keys : List KeyLine) → MachinesAreSaved → state_bytes digest c
    ≡ bytes_written (head_format digest) [] (head_of c) ++ bytes_written (format_behind (head_of c) c.machine.file keys) [] c.machine
behind_by digest c keys laws =
    behind digest c
    ∙ ap (λ (b : List ℕ). bytes_written (head_format digest) [] (head_of c) ++ b)
    (laws.same c.machine.file c.machine.file c.machine.keys keys _ _ _ _ _ _ _ _ [] c.machine)

console_again : (c : ConsoleState) → c.stopped ≡ None → console_of (head_of c) c.machine ≡ c
console_again c goes = rw (sym goes) refl

pub reads_back : MachinesAreSaved → (digest : List ℕ) (c : ConsoleState) → length digest ≡ 32 → c.stopped ≡ None → c.limit ≤ 2 ^ 56 → counts_of c.machine ≤ 24 * c.limit → c.turns ≤ counts_of c.machine
    → ((keys : List KeyLine) → c.machine.keys ≡ script_from c.limit keys → RoundTrips (format_behind (head_of c) c.machine.file keys) c.limit c.machine)
    → IsReadBack digest c (state_bytes digest c)
unfolding read_state
reads_back laws digest c long goes early few fewer machine = λ limit keys below is.
    (let head = head_of c in
    let front = bytes_written (head_format digest) [] head in
    let own = bytes_written (format_behind head c.machine.file keys) [] c.machine in
    let stands = head_stands digest limit head long (record { below = below; early = early; few = few; fewer = fewer }) in
    let one : read_format (head_format digest) limit (left 0 (front ++ own)) ≡ Ok (head, left (0 + length front) own) = round_trips (head_format digest) limit head stands 0 own in
    let two : read_format (format_behind head c.machine.file keys) c.limit (left (0 + length front) own) ≡ Ok (c.machine, left (0 + length front + length own) []) =
    subst (λ (b : List ℕ). read_format (format_behind head c.machine.file keys) c.limit (left (0 + length front) b) ≡ Ok (c.machine, left (0 + length front + length own) [])) (append-nil own) (machine keys is (0 + length front) []) in
    rw (behind_by digest c keys laws, one, two) (ap (λ (x : ConsoleState). Ok x) (console_again c goes)))

-- so it is at a tick, where all that the machine keeps of times is as after a run to that tick
pub kept_back : MachinesAreSaved → MachinesComeBack → (digest : List ℕ) (c : ConsoleState) → length digest ≡ 32 → c.stopped ≡ None → c.limit ≤ 2 ^ 56 → counts_of c.machine ≤ 24 * c.limit
    → c.turns ≤ counts_of c.machine → HasMachineBounds c.machine → IsSound c.machine → IsOver (dues_of c.machine) c.limit → IsWithinTick c.limit c.machine
    → IsReadBack digest c (state_bytes digest c)
kept_back laws back digest c long goes early few fewer bounds sound over within =
    reads_back laws digest c long goes early few fewer (λ keys is. back keys c.limit c.machine bounds sound within over early is)

-- ---- what is read as a console

abbrev AreBytes : List ℕ → Type 0
AreBytes bs = (i : ℕ) → slice_index bs i < 256

bytes_behind : (front rest : List ℕ) → ((i : ℕ) → slice_index (front ++ rest) i < 256) → (i : ℕ) → slice_index rest i < 256
bytes_behind [] rest are = are
bytes_behind (b ∷ front) rest are = bytes_behind front rest (λ i. are (suc i))

abbrev pub IsGood : {A : Type 0} → Result A ℕ → Type 0
IsGood (Ok a) = Unit {0}
IsGood (Err e) = ⊥

abbrev good_or : {A : Type 0} → A → Result A ℕ → A
good_or d (Ok a) = a
good_or d (Err e) = d

pub ok_same : {A : Type 0} {a b : A} → ◌≡◌ {A = Result A ℕ} (Ok a) (Ok b) → a ≡ b
ok_same {A = A} {a = a} h = ap (λ (r : Result A ℕ). good_or a r) h

pub bound : {A B : Type 0} (r : ReadAnswer A) (k : A × Left → ReadAnswer B) (q : B × Left) → (r >>= k) ≡ Ok q → (p : A × Left) × (r ≡ Ok p) × (k p ≡ Ok q)
bound (Ok p) k q h = (p, refl, h)
bound (Err e) k q h = absurd (subst IsGood (sym h) tt)

where_all : {A : Type 0} (a b : A) (place : ℕ) (bytes : List ℕ) → where_whole a place bytes ≡ Ok b → (a ≡ b) × (bytes ≡ [])
where_all a b place [] h = (ok_same h, refl)
where_all a b place (byte ∷ bytes) h = absurd (subst IsGood (sym h) tt)

pub all_was_read : {A : Type 0} (r : ReadAnswer A) (a : A) → read_whole r ≡ Ok a → (p : A × Left) × (r ≡ Ok p) × (p.0 ≡ a) × (p.1.bytes ≡ [])
all_was_read (Ok p) a h = let w = where_all p.0 a p.1.place p.1.bytes h in (p, refl, w.0, w.1)
all_was_read (Err e) a h = absurd (subst IsGood (sym h) tt)

-- a console that was read of a head and of a machine with the head's steps has that head
head_again : (head : Head) (s : MachineState) → s.nine.processor.steps ≡ head.nine → s.seven.processor.steps ≡ head.seven → s.events ≡ head.events
    → head_of (console_of head s) ≡ head
head_again head s nine seven events = rw (nine, seven, events) refl

-- where bytes are left over behind a head and a machine, the first of them is told
where_left : {A : Type 0} (a : A) (place : ℕ) (bytes : List ℕ) → (bytes ≡ [] → ⊥) → where_whole a place bytes ≡ Err place
where_left a place [] some = absurd (some refl)
where_left a place (byte ∷ bytes) some = refl

pub left_over : (digest : List ℕ) (limit : ℕ) (file : List ℕ) (keys : List KeyLine) (l rest more : Left) (head : Head) (s : MachineState) → l.place ≡ 0
    → read_format (head_format digest) limit l ≡ Ok (head, rest)
    → read_format (format_behind head file keys) head.at rest ≡ Ok (s, more) → (more.bytes ≡ [] → ⊥) → read_state digest limit file keys l.bytes ≡ Err more.place
unfolding read_state
left_over digest limit file keys l rest more head s from_0 one two some =
    let start : (let r : Left = record { place = 0; bytes = l.bytes } in r) ≡ l = ap (λ (n : ℕ). (let r : Left = record { place = n; bytes = l.bytes } in r)) (sym from_0) in
    rw (start, one, two) (where_left (console_of head s) more.place more.bytes some)

-- an error that is handed on says what it said
pub hands_on : {X : Type 0} (view : X → ConsoleState) (r : Result X Unpacked) (e : Unpacked) (read : Result ConsoleState ℕ) → IsErrAnd r (λ x. x ≡ e) → FailsState e read
    → GivesState view r read
hands_on view (Ok k) e read is fails = absurd is
hands_on view (Err x) e read is fails = subst (λ (y : Unpacked). FailsState y read) (sym is) fails

-- two parts, one behind the other, and nothing is left over
joined : (bytes front own behind_front behind_own whole : List ℕ) → bytes ≡ front ++ behind_front → behind_front ≡ own ++ behind_own → behind_own ≡ [] → whole ≡ front ++ own → bytes ≡ whole
joined bytes front own behind_front behind_own whole one two none is = rw (one, two, none, is, append-nil own) refl

-- what is left behind a head are bytes
pub bytes_behind_head : (digest : List ℕ) (limit : ℕ) (l rest : Left) (head : Head) → AreBytes l.bytes → read_format (head_format digest) limit l ≡ Ok (head, rest) → AreBytes rest.bytes
bytes_behind_head digest limit l rest head are h =
    let one = one_spelling (head_format digest) limit (head_exact digest limit) l.place l.bytes head rest are h in
    bytes_behind (bytes_written (head_format digest) [] head) rest.bytes (subst AreBytes one are)

pub one_state_spelling : MachinesAreSaved → StatesHaveOneSpelling
unfolding read_state
one_state_spelling laws = λ digest limit file keys bytes c are h.
    (let whole = all_was_read (read_console digest limit file keys (left 0 bytes)) c h in
    let both = bound (read_format (head_format digest) limit (left 0 bytes))
    (λ q. read_format (format_behind q.0 file keys) q.0.at q.1 >>= (λ m. Ok (console_of q.0 m.0, m.1))) whole.0 whole.1 in
    let head = both.0.0 in
    let inner = bound (read_format (format_behind head file keys) head.at both.0.1) (λ m. Ok (console_of head m.0, m.1)) whole.0 both.2 in
    let s = inner.0.0 in
    let came : (console_of head s, inner.0.1) ≡ whole.0 = ok_same inner.2 in
    let front = bytes_written (head_format digest) [] head in
    let own = bytes_written (format_behind head file keys) [] s in
    let one : bytes ≡ front ++ both.0.1.bytes = one_spelling (head_format digest) limit (head_exact digest limit) 0 bytes head both.0.1 are both.1 in
    let are_behind = bytes_behind front both.0.1.bytes (subst AreBytes one are) in
    let two : both.0.1.bytes ≡ own ++ inner.0.1.bytes = laws.spelling file keys head.nine head.seven head.events head.at both.0.1.place both.0.1.bytes s inner.0.1 are_behind inner.1 in
    let none : inner.0.1.bytes ≡ [] = ap (λ (p : ConsoleState × Left). p.1.bytes) came ∙ whole.3 in
    let is : console_of head s ≡ c = ap (λ (p : ConsoleState × Left). p.0) came ∙ whole.2 in
    let counts = laws.counts file keys head.nine head.seven head.events head.at both.0.1 inner.0.1 s inner.1 in
    let again : head_of (console_of head s) ≡ head = head_again head s counts.0 counts.1 counts.2 in
    let stands : state_bytes digest (console_of head s) ≡ front ++ own =
    behind_by digest (console_of head s) keys laws ∙ rw (again, counts.3) refl in
    joined bytes front own both.0.1.bytes inner.0.1.bytes (state_bytes digest (console_of head s)) one two none stands ∙ ap (λ (x : ConsoleState). state_bytes digest x) is)
