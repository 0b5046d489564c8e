use Rattle.std.proofs.Common.{ℕ, ◌≡◌, ◌<◌, ◌*◌, ◌/◌, ◌%◌, ◌^◌, Bool, true, false, refl, ◌∙◌, arith}
use Rattle.std.specs.Prelude.{bit_and, ◌==◌}
use Rattle.std.proofs.lemmas.Nat.Bits.{shr_and_one}
use Rattle.ds_base.specs.Bits.{bit}
use Rattle.arm_words.specs.declared.parts.Condition.{Condition}
use Rattle.arm_words.specs.declared.parts.Condition.TheVariants.{Eq, Ne, Cs, Cc, Mi, Pl, Vs, Vc, Hi, Ls, Ge, Lt, Gt, Le, Al}
use Rattle.arm_core.specs.Conditions.{holds}
use Rattle.arm_core.proofs.Below.{all_below, all_below_holds}

-- The sets of flags for which conditions hold, by computing.

-- bit i of a condition's mask: whether it holds where bits 31 to 28 of CPSR are i
abbrev mask : Condition → ℕ
mask Eq = 0xF0F0
mask Ne = 0x0F0F
mask Cs = 0xCCCC
mask Cc = 0x3333
mask Mi = 0xFF00
mask Pl = 0x00FF
mask Vs = 0xAAAA
mask Vc = 0x5555
mask Hi = 0x0C0C
mask Ls = 0xF3F3
mask Ge = 0xAA55
mask Lt = 0x55AA
mask Gt = 0x0A05
mask Le = 0xF5FA
mask Al = 0xFFFF

same : Bool → Bool → Bool
same true b = b
same false true = false
same false false = true

same_is : (a b : Bool) → same a b ≡ true → a ≡ b
unfolding same
same_is true true h = refl
same_is true false h = cc
same_is false true h = cc
same_is false false h = refl

test : Condition → ℕ → Bool
test cond i = same (bit i (mask cond)) (holds cond (i * 2 ^ 28))

all_right : (cond : Condition) → all_below 16 (test cond) ≡ true
unfolding all_below test same
all_right Eq = refl
all_right Ne = refl
all_right Cs = refl
all_right Cc = refl
all_right Mi = refl
all_right Pl = refl
all_right Vs = refl
all_right Vc = refl
all_right Hi = refl
all_right Ls = refl
all_right Ge = refl
all_right Lt = refl
all_right Gt = refl
all_right Le = refl
all_right Al = refl

-- a flag is a bit of the number of its set
n_of : (w : ℕ) → w / 2 ^ 28 * 2 ^ 28 / 2 ^ 31 % 2 ≡ w / 2 ^ 31 % 2
n_of w = grind arith

z_of : (w : ℕ) → w / 2 ^ 28 * 2 ^ 28 / 2 ^ 30 % 2 ≡ w / 2 ^ 30 % 2
z_of w = grind arith

c_of : (w : ℕ) → w / 2 ^ 28 * 2 ^ 28 / 2 ^ 29 % 2 ≡ w / 2 ^ 29 % 2
c_of w = grind arith

v_of : (w : ℕ) → w / 2 ^ 28 * 2 ^ 28 / 2 ^ 28 % 2 ≡ w / 2 ^ 28 % 2
v_of w = grind arith

by_flags : (cond : Condition) (w : ℕ) → holds cond (w / 2 ^ 28 * 2 ^ 28) ≡ holds cond w
by_flags Eq w = rw (z_of w) refl
by_flags Ne w = rw (z_of w) refl
by_flags Cs w = rw (c_of w) refl
by_flags Cc w = rw (c_of w) refl
by_flags Mi w = rw (n_of w) refl
by_flags Pl w = rw (n_of w) refl
by_flags Vs w = rw (v_of w) refl
by_flags Vc w = rw (v_of w) refl
by_flags Hi w = rw (c_of w, z_of w) refl
by_flags Ls w = rw (c_of w, z_of w) refl
by_flags Ge w = rw (n_of w, v_of w) refl
by_flags Lt w = rw (n_of w, v_of w) refl
by_flags Gt w = rw (z_of w, n_of w, v_of w) refl
by_flags Le w = rw (z_of w, n_of w, v_of w) refl
by_flags Al w = refl

-- bit i of a condition's mask
pub is_mask : (cond : Condition) (m i : ℕ) → m ≡ mask cond → i < 16 → bit i m ≡ holds cond (i * 2 ^ 28)
unfolding test
is_mask cond m i e h = rw e (same_is _ _ (all_below_holds 16 i (test cond) h (all_right cond)))

-- the bit of a mask that the flags of CPSR choose
pub by_mask : (cond : Condition) (m w : ℕ) → ((i : ℕ) → i < 16 → bit i m ≡ holds cond (i * 2 ^ 28)) → w < 2 ^ 32
    → (bit_and (m / 2 ^ (w / 2 ^ 28)) 1 == 1) ≡ holds cond w
by_mask cond m w right h = rw (shr_and_one m (w / 2 ^ 28)) (right (w / 2 ^ 28) (omega (arith, h)) ∙ by_flags cond w)
