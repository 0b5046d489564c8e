use Rattle.std.specs.Prelude.{ℕ, Bool, true, ◌&&◌, ◌||◌, not}
use Rattle.ds_base.specs.Bits.{bit}
use Rattle.arm_words.specs.declared.parts.Condition.{Condition}
use Rattle.arm_words.specs.declared.parts.Condition.TheVariants.{Eq, Ne, Cs, Cc, Mi, Pl, Vs, Vc, Hi, Ls, Ge, Lt, Gt, Le, Al}

-- the flags of a status register (ARM manual, A2.5.2 "The condition code flags")
abbrev pub n_flag : ℕ → Bool
n_flag cpsr = bit 31 cpsr

abbrev pub z_flag : ℕ → Bool
z_flag cpsr = bit 30 cpsr

abbrev pub c_flag : ℕ → Bool
c_flag cpsr = bit 29 cpsr

abbrev pub v_flag : ℕ → Bool
v_flag cpsr = bit 28 cpsr

-- N is V
abbrev pub n_is_v : ℕ → Bool
n_is_v cpsr = (n_flag cpsr && v_flag cpsr) || (not (n_flag cpsr) && not (v_flag cpsr))

-- a condition holds (ARM manual, A3.2 "The condition field", table "Condition codes")
abbrev pub holds : Condition → ℕ → Bool
holds Eq cpsr = z_flag cpsr
holds Ne cpsr = not (z_flag cpsr)
holds Cs cpsr = c_flag cpsr
holds Cc cpsr = not (c_flag cpsr)
holds Mi cpsr = n_flag cpsr
holds Pl cpsr = not (n_flag cpsr)
holds Vs cpsr = v_flag cpsr
holds Vc cpsr = not (v_flag cpsr)
holds Hi cpsr = c_flag cpsr && not (z_flag cpsr)
holds Ls cpsr = not (c_flag cpsr) || z_flag cpsr
holds Ge cpsr = n_is_v cpsr
holds Lt cpsr = not (n_is_v cpsr)
holds Gt cpsr = not (z_flag cpsr) && n_is_v cpsr
holds Le cpsr = z_flag cpsr || not (n_is_v cpsr)
holds Al cpsr = true
