use Rattle.gx_fifo.proofs.Words.{Bool, GeometryCommand, GxEntry, List, None, Option, Some, [], added_by, ap, append-nil, append_assoc, arith, bits}
use Rattle.gx_fifo.proofs.Words.{bytes_left, command_of, cons_option, false, first_command, first_parameters, if◌then◌else◌, inl, inr, is_given}
use Rattle.gx_fifo.proofs.Words.{left_among, length, length-append, length-map, map, nat_lt, option_to_list, packed_commands, parameters_of}
use Rattle.gx_fifo.proofs.Words.{prefix_len, refl, stops_at, suc, sym, take, take_while, takes_none, true, true≢false, without_word, zero, ℕ, ◌++◌}
use Rattle.gx_fifo.proofs.Words.{◌+◌, ◌/◌, ◌<◌, ◌^◌, ◌∙◌, ◌∷◌, ◌≡◌, ◌≤◌, ◌⊎◌}

-- A word's bytes, one after another.

no_command : command_of 0 ≡ None
unfolding command_of
no_command = refl

-- the commands of a word are its first byte's and those of the bytes above it
pub one_by_one : (word : ℕ) → word < 2 ^ 32 → packed_commands word ≡ cons_option (first_command word) (packed_commands (word / 2 ^ 8))
one_by_one word small =
    let second : bits 0 8 (word / 2 ^ 8) ≡ bits 8 8 word = omega arith in
    let third : bits 8 8 (word / 2 ^ 8) ≡ bits 16 8 word = omega arith in
    let fourth : bits 16 8 (word / 2 ^ 8) ≡ bits 24 8 word = omega arith in
    let none : bits 24 8 (word / 2 ^ 8) ≡ 0 = omega (arith, small) in
    rw (second, third, fourth, none, no_command) refl

-- a byte that is no code, or that of a command without parameters, is passed over
passed_added : (first : Option GeometryCommand) (rest : List GeometryCommand) (es : List GxEntry) → nat_lt 0 (parameters_of first) ≡ false
    → (es ++ map without_word (option_to_list first)) ++ map without_word (take_while takes_none rest)
    ≡ es ++ map without_word (take_while takes_none (cons_option first rest))
passed_added None rest es none = ap (λ (xs : List GxEntry). xs ++ map without_word (take_while takes_none rest)) (append-nil es)
passed_added (Some command) rest es none =
    let n = prefix_len takes_none rest in
    let takes : takes_none command ≡ true = grind (arith, none) in
    let e : prefix_len takes_none (command ∷ rest) ≡ suc n = rw takes (omega arith) in
    rw e (append_assoc es (without_word command ∷ []) (map without_word (take n rest)))

stopped_added : (first : Option GeometryCommand) (rest : List GeometryCommand) → nat_lt 0 (parameters_of first) ≡ true
    → map without_word (take_while takes_none (cons_option first rest)) ≡ []
stopped_added None rest some = absurd (true≢false (sym some))
stopped_added (Some command) rest some =
    let takes : takes_none command ≡ false = grind (arith, some) in
    let e : prefix_len takes_none (command ∷ rest) ≡ 0 = rw takes refl in
    rw e refl

goes_on : (word : ℕ) → stops_at word ≡ false → nat_lt 0 (first_parameters word) ≡ false
goes_on word h = grind (arith, h)

pub passes : (word : ℕ) (es : List GxEntry) → word < 2 ^ 32 → stops_at word ≡ false
    → (es ++ map without_word (option_to_list (first_command word))) ++ added_by (word / 2 ^ 8) ≡ es ++ added_by word
passes word es small h =
    rw (one_by_one word small) (passed_added (first_command word) (packed_commands (word / 2 ^ 8)) es (goes_on word h))

stopped : (word : ℕ) → stops_at word ≡ true → (word ≡ 0) ⊎ (nat_lt 0 (first_parameters word) ≡ true)
stopped word h = grind (arith, h)

none_added : added_by 0 ≡ []
unfolding command_of
none_added = refl

added_none : (word : ℕ) → word < 2 ^ 32 → stops_at word ≡ true → added_by word ≡ []
added_none word small h = elim (stopped word h) [
  | inl none ↦ rw none none_added
  | inr some ↦ rw (one_by_one word small) (stopped_added (first_command word) (packed_commands (word / 2 ^ 8)) some)
]

pub stops : (word : ℕ) (es : List GxEntry) → word < 2 ^ 32 → stops_at word ≡ true → es ++ added_by word ≡ es
stops word es small h = ap (λ (xs : List GxEntry). es ++ xs) (added_none word small h) ∙ append-nil es

-- and so are as many bytes as there are
pub no_parameters : first_parameters 0 ≡ 0
unfolding command_of
no_parameters = refl

same_if : (b : Bool) (w m n : ℕ) → m ≡ n → (if b then w else m) ≡ (if b then w else n)
same_if b w m n e = rw e refl

none_above : (bytes word : ℕ) → word < 256 ^ bytes → left_among (suc bytes) word ≡ left_among bytes word
none_above zero word small =
    let e : word ≡ 0 = omega (arith, small) in rw (e, no_parameters) refl
none_above (suc bytes) word small =
    let less : word / 2 ^ 8 < 256 ^ bytes = grind (arith, small) in
    let rest = word / 2 ^ 8 in
    same_if (nat_lt 0 (first_parameters word)) word (left_among (suc bytes) rest) (left_among bytes rest) (none_above bytes rest less)

else_by : (b : Bool) (w n : ℕ) → b ≡ false → (if b then w else n) ≡ n
else_by true w n h = absurd (true≢false h)
else_by false w n h = refl

pub passes_left : (word : ℕ) → word < 2 ^ 32 → stops_at word ≡ false → bytes_left (word / 2 ^ 8) ≡ bytes_left word
unfolding bytes_left
passes_left word small h =
    let whole : bits 0 32 word ≡ word = omega (arith, small) in
    let upper : bits 0 32 (word / 2 ^ 8) ≡ word / 2 ^ 8 = omega (arith, small) in
    let less : word / 2 ^ 8 < 256 ^ 3 = omega (arith, small) in
    rw (whole, upper) (none_above 3 (word / 2 ^ 8) less ∙ sym (else_by _ word (left_among 3 (word / 2 ^ 8)) (goes_on word h)))

then_by : (b : Bool) (w n : ℕ) → b ≡ true → (if b then w else n) ≡ w
then_by true w n h = refl
then_by false w n h = absurd (true≢false (sym h))

none_left : bytes_left 0 ≡ 0
unfolding bytes_left command_of
none_left = refl

some_left : (word : ℕ) → word < 2 ^ 32 → nat_lt 0 (first_parameters word) ≡ true → bytes_left word ≡ word
unfolding bytes_left
some_left word small h =
    let whole : bits 0 32 word ≡ word = omega (arith, small) in
    rw whole (then_by _ word (left_among 3 (word / 2 ^ 8)) h)

pub stops_left : (word : ℕ) → word < 2 ^ 32 → stops_at word ≡ true → bytes_left word ≡ word
stops_left word small h = elim (stopped word h) [
  | inl none ↦ rw none none_left
  | inr some ↦ some_left word small some
]

-- a byte's command, and then those above it, need no more room than all
both : (first : Option GeometryCommand) (rest : List GeometryCommand) → length (cons_option first rest) ≡ length (option_to_list first) + length rest
both None rest = omega arith
both (Some command) rest = omega arith

pub room_rest : (word : ℕ) (es : List GxEntry) (most : ℕ) → word < 2 ^ 32 → length es + length (packed_commands word) ≤ most
    → length (es ++ map without_word (option_to_list (first_command word))) + length (packed_commands (word / 2 ^ 8)) ≤ most
room_rest word es most small h =
    let e = ap (λ (cs : List GeometryCommand). length cs) (one_by_one word small) in
    let s = both (first_command word) (packed_commands (word / 2 ^ 8)) in
    let more = map without_word (option_to_list (first_command word)) in
    let a = length-append es more in
    let m = length-map (option_to_list (first_command word)) without_word in
    omega (arith, e, s, a, m, h)

-- at most one command a byte
pub some_command : (command : Option GeometryCommand) (rest : List GeometryCommand) (n : ℕ) → length rest ≤ n
    → length (cons_option command rest) ≤ n + 1
some_command None rest n le = omega (arith, le)
some_command (Some command) rest n le = omega (arith, le)

three_by : (a b c : Option GeometryCommand) (n : ℕ) (d : List GeometryCommand) → length d ≤ n
    → length (cons_option a (cons_option b (cons_option c d))) ≤ n + 3
three_by a b c n d h =
    let third = some_command c d n h in
    let second = some_command b (cons_option c d) (n + 1) third in
    let first = some_command a (cons_option b (cons_option c d)) (n + 1 + 1) second in
    omega (arith, first)

pub four_commands : (word : ℕ) → length (packed_commands word) ≤ 4
four_commands word =
    let last = some_command (command_of (bits 24 8 word)) [] 0 (omega arith) in
    three_by (command_of (bits 0 8 word)) (command_of (bits 8 8 word)) (command_of (bits 16 8 word)) 1
    (cons_option (command_of (bits 24 8 word)) []) last

pub three_commands : (word : ℕ) → word < 2 ^ 32 → length (packed_commands (word / 2 ^ 8)) ≤ 3
three_commands word small =
    let none : bits 24 8 (word / 2 ^ 8) ≡ 0 = omega (arith, small) in
    let rest = word / 2 ^ 8 in
    rw (none, no_command) (three_by (command_of (bits 0 8 rest)) (command_of (bits 8 8 rest)) (command_of (bits 16 8 rest)) 0 [] (omega arith))

-- what is left is no more than the word
less_if : (b : Bool) (m n most : ℕ) → m < most → n < most → (if b then m else n) < most
less_if true m n most h k = h
less_if false m n most h k = k

less_left : (bytes word most : ℕ) → word < most → left_among bytes word < most
less_left zero word most h = omega (arith, h)
less_left (suc bytes) word most h =
    less_if (nat_lt 0 (first_parameters word)) word _ most h (less_left bytes (word / 2 ^ 8) most (omega (arith, h)))

pub word_left : (word : ℕ) → bytes_left word < 2 ^ 32
unfolding bytes_left
word_left word = less_left 4 (bits 0 32 word) (2 ^ 32) (omega arith)

-- and it begins with a command that has parameters
given_if : (b : Bool) (m n : ℕ) → nat_lt 0 (first_parameters m) ≡ b → is_given n 0 ≡ true → is_given (if b then m else n) 0 ≡ true
given_if true m n h k = grind (arith, h)
given_if false m n h k = k

given_among : (bytes word : ℕ) → is_given (left_among bytes word) 0 ≡ true
given_among zero word = rw no_parameters refl
given_among (suc bytes) word = given_if (nat_lt 0 (first_parameters word)) word _ refl (given_among bytes (word / 2 ^ 8))

pub left_given : (word : ℕ) → is_given (bytes_left word) 0 ≡ true
unfolding bytes_left
left_given word = given_among 4 (bits 0 32 word)

-- behind a parameter there is room for what is left
pub room_behind : (word n most : ℕ) → word < 2 ^ 32 → n + 4 ≤ most → n + 1 + length (packed_commands (word / 2 ^ 8)) ≤ most
room_behind word n most small h = let three = three_commands word small in omega (arith, three, h)
