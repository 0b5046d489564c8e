use Rattle.std.proofs.Common.{ℕ, ◌≡◌, ◌↔◌, ◌<◌, ◌≤◌, ◌+◌, ◌-◌, ◌%◌, ◌^◌, ◌⊎◌, inl, inr, Bool, true, false, true≢false, ◌&&◌, nat_le, nat_lt, min, if◌then◌else◌, refl, sym, ap, arith}
use Rattle.ds_base.proofs.Choices.{is_lt, lt_of}
use Rattle.ds_base.specs.Bits.{bit}
use Rattle.cp15_tcm.specs.Registers.{Cp15State}
use Rattle.cp15_tcm.specs.TightlyCoupled.{IsMainPast, answers, covered, dtcm_base, in_dtcm, in_itcm, main_first, main_last}
use Rattle.cp15_tcm.specs.Windows.{dtcm_long, itcm_long, main_long}
use Rattle.cp15_tcm.specs.declared.answers.Tcm.{Tcm}
use Rattle.cp15_tcm.specs.declared.answers.Tcm.TheVariants.{Itcm, Dtcm, Past}

-- Where main memory lies past both tightly coupled memories.

-- what a count of its addresses says
pub long_only : (it base d x : ℕ) → x < main_long it base d
    → (it ≤ main_first) × (x ≤ main_last - main_first) × ((d ≡ 0) ⊎ (main_last < base) ⊎ (base + d ≤ main_first) ⊎ (x < base - main_first))
long_only it base d x h = grind (arith, h)

pub long_from : (it base d x : ℕ) → it ≤ main_first → x ≤ main_last - main_first
    → ((d ≡ 0) ⊎ (main_last < base) ⊎ (base + d ≤ main_first) ⊎ (x < base - main_first)) → x < main_long it base d
long_from it base d x low inside apart = grind (arith, low, inside, apart)

-- an address that it counts is in neither memory
pub not_itcm : (on : Bool) (cov base d a : ℕ) → main_first ≤ a → a - main_first < main_long (if on then cov else 0) base d → (on && nat_lt a cov) ≡ false
not_itcm false cov base d a low h = refl
not_itcm true cov base d a low h = let it = long_only cov base d (a - main_first) h in grind (arith, low, it)

pub not_dtcm : (on : Bool) (cov base it a : ℕ) → a < 2 ^ 32 → main_first ≤ a → a - main_first < main_long it base (if on then min cov (2 ^ 32 - base) else 0)
    → (on && nat_le base a && nat_lt a (base + cov)) ≡ false
not_dtcm false cov base it a small low h = refl
not_dtcm true cov base it a small low h = let is = long_only it base (min cov (2 ^ 32 - base)) (a - main_first) h in grind (arith, small, low, is)

-- what stands at an address past both
is_past : Tcm → Bool
is_past (Itcm place) = false
is_past (Dtcm place) = false
is_past Past = true

in_neither : (i d : Bool) (x y : ℕ) → (if i then Itcm x else (if d then Dtcm y else Past)) ≡ Past → (i ≡ false) × (d ≡ false)
unfolding is_past
in_neither true d x y e = absurd (true≢false (sym (ap is_past e)))
in_neither false true x y e = absurd (true≢false (sym (ap is_past e)))
in_neither false false x y e = (refl, refl)

-- where its first address is in neither, ITCM doesn't reach it; where DTCM covers none up to an address, it ends below or begins past that
itcm_ends : (on : Bool) (cov : ℕ) → (on && nat_lt main_first cov) ≡ false → (if on then cov else 0) ≤ main_first
itcm_ends false cov e = omega arith
itcm_ends true cov e = grind (arith, e)

le_or : (x y : ℕ) → (x ≤ y) ⊎ (y < x)
le_or x y = grind arith

dtcm_apart : (on : Bool) (cov base at : ℕ) → main_first ≤ at
    → (on && nat_le base main_first && nat_lt main_first (base + cov)) ≡ false
    → (main_first ≤ base → base ≤ at → (on && nat_le base base && nat_lt base (base + cov)) ≡ false)
    → (let d = if on then min cov (2 ^ 32 - base) else 0 in
    (d ≡ 0) ⊎ (main_last < base) ⊎ (base + d ≤ main_first) ⊎ (at - main_first < base - main_first))
dtcm_apart false cov base at low first begin = inl refl
dtcm_apart true cov base at low first begin = elim (le_or base main_first) [
  | inl below ↦ inr (inr (inl (grind (arith, below, first))))
  | inr above ↦ elim (le_or base at) [
    | inl upto ↦ (let e = begin (omega (arith, above)) upto in inl (grind (arith, e)))
    | inr past ↦ inr (inr (inr (omega (arith, low, above, past))))
  ]
]

-- an address's distance from the first one, as a wrapped difference: within main memory it is the plain one
near_first : (at x : ℕ) → at < 2 ^ 32 → x ≡ (at + 4261412864) % 4294967296 → x ≤ main_last - main_first
    → (main_first ≤ at) × (at ≤ main_last) × (x ≡ at - main_first)
near_first at x small e near = omega (arith, small, e, near)

wrapped : (at : ℕ) → main_first ≤ at → at ≤ main_last → (at + 4261412864) % 4294967296 ≡ at - main_first
wrapped at low high = omega (arith, low, high)

in_order : (a at : ℕ) → main_first ≤ a → a ≤ at → a - main_first ≤ at - main_first
in_order a at low upto = omega (arith, low, upto)

below_too : (a at x long : ℕ) → main_first ≤ a → a ≤ at → x ≡ at - main_first → x < long → a - main_first < long
below_too a at x long low upto e h = omega (arith, low, upto, e, h)

highest : (at : ℕ) → at ≤ main_last → at - main_first ≤ main_last - main_first
highest at high = omega (arith, high)

fits : (a at : ℕ) → a ≤ at → at ≤ main_last → a < 2 ^ 32
fits a at upto high = omega (arith, upto, high)

-- for reads and writes, by both memories
data_there : (s : Cp15State) (writing : Bool) (at : ℕ) → at < 2 ^ 32 → nat_lt ((at + 4261412864) % 4294967296) (main_long (itcm_long s writing) (dtcm_base s.dtcm) (dtcm_long s writing)) ≡ true → IsMainPast s at writing false
data_there s writing at small h =
    let it : ℕ = itcm_long s writing in
    let base : ℕ = dtcm_base s.dtcm in
    let on_i : Bool = answers (bit 18 s.control) (bit 19 s.control) writing in
    let d : ℕ = dtcm_long s writing in
    let on_d : Bool = answers (bit 16 s.control) (bit 17 s.control) writing in
    let x : ℕ = (at + 4261412864) % 4294967296 in
    let less : x < main_long it base d = lt_of x (main_long it base d) h in
    let only = long_only it base d x less in
    let near = near_first at x small refl only.1 in
    record {
      from = near.0;
      upto = near.1;
      past = λ a low upto.
          (let less_too = below_too a at x (main_long it base d) low upto near.2 less in
          rw (not_itcm on_i (covered s.itcm) base d a low less_too, not_dtcm on_d (covered s.dtcm) base it a (fits a at upto near.1) low less_too) refl);
    }

data_back : (s : Cp15State) (writing : Bool) (at : ℕ) → IsMainPast s at writing false → nat_lt ((at + 4261412864) % 4294967296) (main_long (itcm_long s writing) (dtcm_base s.dtcm) (dtcm_long s writing)) ≡ true
data_back s writing at h =
    let it : ℕ = itcm_long s writing in
    let base : ℕ = dtcm_base s.dtcm in
    let on_i : Bool = answers (bit 18 s.control) (bit 19 s.control) writing in
    let d : ℕ = dtcm_long s writing in
    let on_d : Bool = answers (bit 16 s.control) (bit 17 s.control) writing in
    let first = in_neither (in_itcm s main_first writing) (in_dtcm s main_first writing) (main_first % 0x8000) ((main_first - base) % 0x4000)
    (h.past main_first (omega arith) h.from) in
    let begin : main_first ≤ base → base ≤ at → in_dtcm s base writing ≡ false = λ low upto.
    (in_neither (in_itcm s base writing) (in_dtcm s base writing) (base % 0x8000) ((base - base) % 0x4000) (h.past base low upto)).1 in
    let less = long_from it base d (at - main_first) (itcm_ends on_i (covered s.itcm) first.0) (highest at h.upto)
    (dtcm_apart on_d (covered s.dtcm) base at h.from first.1 begin) in
    rw (wrapped at h.from h.upto) (is_lt (at - main_first) (main_long it base d) less)

pub data_past : (s : Cp15State) (writing : Bool) (at : ℕ) → at < 2 ^ 32 → (nat_lt ((at + 4261412864) % 4294967296) (main_long (itcm_long s writing) (dtcm_base s.dtcm) (dtcm_long s writing)) ≡ true) ↔ IsMainPast s at writing false
data_past s writing at small = (data_there s writing at small, data_back s writing at)

-- for fetches, by ITCM
fetch_there : (s : Cp15State) (at : ℕ) → at < 2 ^ 32 → nat_lt ((at + 4261412864) % 4294967296) (main_long (itcm_long s false) (dtcm_base s.dtcm) 0) ≡ true → IsMainPast s at false true
fetch_there s at small h =
    let it : ℕ = itcm_long s false in
    let base : ℕ = dtcm_base s.dtcm in
    let on_i : Bool = answers (bit 18 s.control) (bit 19 s.control) false in
    let x : ℕ = (at + 4261412864) % 4294967296 in
    let less : x < main_long it base 0 = lt_of x (main_long it base 0) h in
    let only = long_only it base 0 x less in
    let near = near_first at x small refl only.1 in
    record {
      from = near.0;
      upto = near.1;
      past = λ a low upto.
          (let less_too = below_too a at x (main_long it base 0) low upto near.2 less in
          rw (not_itcm on_i (covered s.itcm) base 0 a low less_too) refl);
    }

fetch_back : (s : Cp15State) (at : ℕ) → IsMainPast s at false true → nat_lt ((at + 4261412864) % 4294967296) (main_long (itcm_long s false) (dtcm_base s.dtcm) 0) ≡ true
fetch_back s at h =
    let it : ℕ = itcm_long s false in
    let base : ℕ = dtcm_base s.dtcm in
    let on_i : Bool = answers (bit 18 s.control) (bit 19 s.control) false in
    let first = in_neither (in_itcm s main_first false) false (main_first % 0x8000) 0 (h.past main_first (omega arith) h.from) in
    let less = long_from it base 0 (at - main_first) (itcm_ends on_i (covered s.itcm) first.0) (highest at h.upto) (inl refl) in
    rw (wrapped at h.from h.upto) (is_lt (at - main_first) (main_long it base 0) less)

pub fetch_past : (s : Cp15State) (at : ℕ) → at < 2 ^ 32 → (nat_lt ((at + 4261412864) % 4294967296) (main_long (itcm_long s false) (dtcm_base s.dtcm) 0) ≡ true) ↔ IsMainPast s at false true
fetch_past s at small = (fetch_there s at small, fetch_back s at)
