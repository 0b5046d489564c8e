use Rattle.arm_exec.proofs.Words.{ℕ, ◌≡◌, ◌<◌, ◌+◌, ◌-◌, ◌%◌, ◌^◌, true, false, List, [], ◌∷◌, Some, None, refl, ◌∙◌, ap, arith, bit, Stop, Word}
use Rattle.arm_exec.proofs.Words.{MemoryMachine, Access, perform, reads, last_of}
use Rattle.std.proofs.Common.{suc}
use Rattle.ds_base.specs.Accesses.{Write}
use Rattle.arm_core.specs.Addressing.{listed_from}

-- what is left of a list from a register on
abbrev pub left : ℕ → ℕ → List ℕ
left r list = listed_from (16 - r) r list

next_in : (count r list : ℕ) → bit r list ≡ true → listed_from (suc count) r list ≡ r ∷ listed_from count (r + 1) list
unfolding listed_from
next_in count r list h = rw h refl

next_out : (count r list : ℕ) → bit r list ≡ false → listed_from (suc count) r list ≡ listed_from count (r + 1) list
unfolding listed_from
next_out count r list h = rw h refl

pub none_left : (list : ℕ) → left 16 list ≡ []
unfolding listed_from
none_left list = refl

one_less : (r : ℕ) → r < 16 → 16 - r ≡ suc (16 - (r + 1))
one_less r h = omega (arith, h)

-- a register that is in the list is the first of what is left
pub left_in : (r list : ℕ) → r < 16 → bit r list ≡ true → left r list ≡ r ∷ left (r + 1) list
left_in r list h b = ap (λ (n : ℕ). listed_from n r list) (one_less r h) ∙ next_in (16 - (r + 1)) r list b

-- one that isn't is passed over
pub left_out : (r list : ℕ) → r < 16 → bit r list ≡ false → left r list ≡ left (r + 1) list
left_out r list h b = ap (λ (n : ℕ). listed_from n r list) (one_less r h) ∙ next_out (16 - (r + 1)) r list b

-- the last of some values, or of none this one
abbrev pub last_or : ℕ → List ℕ → ℕ
last_or last [] = last
last_or last (value ∷ rest) = last_or value rest

-- where there are values, it is theirs
pub last_or_last : (last : ℕ) (values : List ℕ) → last_or 0 values ≡ last_of values
last_or_last last [] = refl
last_or_last last (value ∷ rest) = of_more value rest where
  of_more : (value : ℕ) (rest : List ℕ) → last_or value rest ≡ last_of (value ∷ rest)
  of_more value [] = refl
  of_more value (next ∷ rest) = of_more next rest

-- reads are never refused
pub reads_go : {S : Type 0} (m : MemoryMachine S) (s : S) (at : ℕ) (rs : List ℕ) → (perform m s (reads at rs)).stop ≡ None
reads_go m s at [] = refl
reads_go m s at (r ∷ rs) = reads_go m (m.read_next s at Word) ((at + 4) % 2 ^ 32) rs

-- a refused write ends the accesses
pub refused : {S : Type 0} (m : MemoryMachine S) (s : S) (at value : ℕ) (rest : List Access) (stop : Stop) → m.refusal s at Word value ≡ Some stop
    → ((perform m s (Write at Word value ∷ rest)).stop ≡ Some stop) × ((perform m s (Write at Word value ∷ rest)).state ≡ m.write_next s at Word value)
refused m s at value rest stop h = (rw h refl, rw h refl)

-- one that isn't goes on
pub goes_on : {S : Type 0} (m : MemoryMachine S) (s : S) (at value : ℕ) (rest : List Access) → m.refusal s at Word value ≡ None
    → perform m s (Write at Word value ∷ rest) ≡ perform m (m.write_next s at Word value) rest
goes_on m s at value rest h = rw h refl
