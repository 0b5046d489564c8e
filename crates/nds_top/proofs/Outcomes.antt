use Rattle.nds_top.proofs.Words.{AreKeys, BadState, Bool, Done, IsCart, IsFileRead, IsFirstBad, IsListing, KeyLine, List, MachineState, Named}
use Rattle.nds_top.proofs.Words.{NoMemory, None, Option, Refuses, RefusesCart, RefusesRun, RefusesScript, Some, Status, Usage, [], ap, arith}
use Rattle.nds_top.proofs.Words.{cartridge, false, file_of, if◌then◌else◌, inl, inr, length, machine_booted, most_bytes, most_script, nat_lt}
use Rattle.nds_top.proofs.Words.{none-some, option_map, refl, same_Some, script, status_number, subst, sym, true, ℕ, ◌<◌, ◌∙◌, ◌≡◌, ◌≢◌, ◌≤◌, ◌⊎◌}
use Rattle.nds_answers.specs.declared.statuses.Status.TheVariants.{NoFile, ReadFault, WriteFault, TooLong, BadHeader, BadScript, LeftOut, BadText}
use Rattle.ds_header.specs.Rules.{fault_of}
use Rattle.ds_header.specs.declared.faults.HeaderFault.{HeaderFault}
use Rattle.nds_words.specs.Scripts.{IsFirstBadAt, IsScript}

-- What comes of the files that are asked for, by what they are: a refusal, or their bytes.

-- ---- statuses are told apart by their numbers

pub other_number : (a b : Status) → status_number a ≢ status_number b → a ≢ b
other_number a b ne e = ne (ap status_number e)

memory_by : (s : Status) → (status_number s ≡ 12 → s ≡ NoMemory) → (s ≡ NoMemory) ⊎ (s ≢ NoMemory)
memory_by s h = elim (either (status_number s)) [ inl is ↦ inl (h is) | inr ne ↦ inr (other_number s NoMemory ne) ] where
  either : (n : ℕ) → (n ≡ 12) ⊎ (n ≢ 12)
  either n = grind arith

pub memory_or_not : (s : Status) → (s ≡ NoMemory) ⊎ (s ≢ NoMemory)
memory_or_not NoMemory = inl refl
memory_or_not Done = memory_by Done (λ e. absurd (omega (arith, e)))
memory_or_not Usage = memory_by Usage (λ e. absurd (omega (arith, e)))
memory_or_not NoFile = memory_by NoFile (λ e. absurd (omega (arith, e)))
memory_or_not ReadFault = memory_by ReadFault (λ e. absurd (omega (arith, e)))
memory_or_not WriteFault = memory_by WriteFault (λ e. absurd (omega (arith, e)))
memory_or_not TooLong = memory_by TooLong (λ e. absurd (omega (arith, e)))
memory_or_not (BadHeader fault) = memory_by (BadHeader fault) (λ e. absurd (omega (arith, e)))
memory_or_not (BadScript line column) = memory_by (BadScript line column) (λ e. absurd (omega (arith, e)))
memory_or_not (LeftOut left) = memory_by (LeftOut left) (λ e. absurd (omega (arith, e)))
memory_or_not (BadText line) = memory_by (BadText line) (λ e. absurd (omega (arith, e)))
memory_or_not (BadState offset) = memory_by (BadState offset) (λ e. absurd (omega (arith, e)))

-- ---- a file

-- why the file of a name is refused, by what is there
pub refusal : ℕ → Option (List ℕ) → Option Status
refusal limit None = Some NoFile
refusal limit (Some bytes) = if nat_lt limit (length bytes) then Some TooLong else None

pub cart_refusal : Option (List ℕ) → Option Status
cart_refusal None = Some NoFile
cart_refusal (Some bytes) = if nat_lt most_bytes (length bytes) then Some TooLong else option_map BadHeader (fault_of bytes)

is_long : (limit n : ℕ) → limit < n → nat_lt limit n ≡ true
is_long limit n lt = grind (arith, lt)

is_short : (limit n : ℕ) → n ≤ limit → nat_lt limit n ≡ false
is_short limit n le = grind (arith, le)

abbrev pub ScriptRefused : List Named → List ℕ → Status → Type 0
ScriptRefused files name s = (refusal most_script (file_of files name) ≡ Some s)
    ⊎ ((line : ℕ) × (column : ℕ) × (s ≡ BadScript line column) × ((text : List ℕ) × IsFileRead (Some files) name most_script text × IsFirstBadAt text line column))

module _ (files : List Named) (rose : Type 0) (none_rose : rose → ⊥) where
  pub refused : (name : List ℕ) (limit : ℕ) (s : Status) → s ≢ NoMemory → Refuses (Some files) rose name limit s → refusal limit (file_of files name) ≡ Some s
  unfolding refusal
  refused name limit NoFile ne h = ap (refusal limit) h
  refused name limit ReadFault ne h = absurd (none_rose h)
  refused name limit TooLong ne h = ap (refusal limit) h.1 ∙ ap (λ (b : Bool). if b then Some TooLong else None) (is_long limit (length h.0) h.2)
  refused name limit NoMemory ne h = absurd (ne refl)
  refused name limit Done ne h = absurd h
  refused name limit Usage ne h = absurd h
  refused name limit WriteFault ne h = absurd h
  refused name limit (BadHeader fault) ne h = absurd h
  refused name limit (BadScript line column) ne h = absurd h
  refused name limit (LeftOut left) ne h = absurd h
  refused name limit (BadText line) ne h = absurd h
  refused name limit (BadState offset) ne h = absurd h

  short_refusal : (bytes : List ℕ) → length bytes ≤ most_bytes → cart_refusal (Some bytes) ≡ option_map BadHeader (fault_of bytes)
  unfolding cart_refusal
  short_refusal bytes short = ap (λ (b : Bool). if b then Some TooLong else option_map BadHeader (fault_of bytes)) (is_short most_bytes (length bytes) short)

  pub cart_refused : (name : List ℕ) (s : Status) → s ≢ NoMemory → RefusesCart (Some files) rose name s → cart_refusal (file_of files name) ≡ Some s
  unfolding cart_refusal
  cart_refused name (BadHeader fault) ne h =
      ap cart_refusal h.1.read ∙ short_refusal h.0 h.1.short ∙ ap (λ (o : Option HeaderFault). option_map BadHeader o) h.2
  cart_refused name NoFile ne h = ap cart_refusal h
  cart_refused name ReadFault ne h = absurd (none_rose h)
  cart_refused name TooLong ne h =
      ap cart_refusal h.1 ∙ ap (λ (b : Bool). if b then Some TooLong else option_map BadHeader (fault_of h.0)) (is_long most_bytes (length h.0) h.2)
  cart_refused name NoMemory ne h = absurd (ne refl)
  cart_refused name Done ne h = absurd h
  cart_refused name Usage ne h = absurd h
  cart_refused name WriteFault ne h = absurd h
  cart_refused name (BadScript line column) ne h = absurd h
  cart_refused name (LeftOut left) ne h = absurd h
  cart_refused name (BadText line) ne h = absurd h
  cart_refused name (BadState offset) ne h = absurd h

  -- of a key script: its first bad line, or the file's refusal
  pub script_refused : (name : List ℕ) (s : Status) → s ≢ NoMemory → RefusesScript (Some files) rose name s → ScriptRefused files name s
  script_refused name (BadScript line column) ne h = inr (line, column, refl, h)
  script_refused name NoFile ne h = inl (refused name most_script NoFile ne h)
  script_refused name ReadFault ne h = inl (refused name most_script ReadFault ne h)
  script_refused name TooLong ne h = inl (refused name most_script TooLong ne h)
  script_refused name NoMemory ne h = absurd (ne refl)
  script_refused name Done ne h = absurd h
  script_refused name Usage ne h = absurd h
  script_refused name WriteFault ne h = absurd h
  script_refused name (BadHeader fault) ne h = absurd h
  script_refused name (LeftOut left) ne h = absurd h
  script_refused name (BadText line) ne h = absurd h
  script_refused name (BadState offset) ne h = absurd h

-- what is read isn't refused
pub read_fine : (files : List Named) (name : List ℕ) (limit : ℕ) (bytes : List ℕ) → IsFileRead (Some files) name limit bytes → refusal limit (file_of files name) ≡ None
unfolding refusal
read_fine files name limit bytes h = ap (refusal limit) h.read ∙ ap (λ (b : Bool). if b then Some TooLong else None) (is_short limit (length bytes) h.short)

pub cart_fine : (files : List Named) (name file : List ℕ) → IsCart (Some files) name file → cart_refusal (file_of files name) ≡ None
unfolding cart_refusal
cart_fine files name file h =
    ap cart_refusal h.whole.read
    ∙ ap (λ (b : Bool). if b then Some TooLong else option_map BadHeader (fault_of file)) (is_short most_bytes (length file) h.whole.short)
    ∙ ap (λ (o : Option HeaderFault). option_map BadHeader o) h.accepted

pub not_both : (o : Option Status) (s : Status) → o ≡ None → o ≡ Some s → ⊥
not_both o s none some = none-some s (sym none ∙ some)

-- it is one file
pub same_file : (files : List Named) (name : List ℕ) (limit : ℕ) (a b : List ℕ) → IsFileRead (Some files) name limit a → IsFileRead (Some files) name limit b → a ≡ b
same_file files name limit a b first second = same_Some a b (sym first.read ∙ second.read)

-- ---- the files of a run

-- what they come to, by what a run from a machine at boot comes to: its status and the bytes that are written
pub data RunComes (files : List Named) (cart : List ℕ) (keys : Option (List ℕ)) (Came : MachineState → Status → List ℕ → Type 0) (s : Status) (bytes : List ℕ) : Type 0 where
  loaded : (file : List ℕ) (lines : List KeyLine) → IsCart (Some files) cart file → AreKeys (Some files) keys lines → Came (machine_booted file lines) s bytes
      → RunComes files cart keys Came s bytes
  no_cart : cart_refusal (file_of files cart) ≡ Some s → bytes ≡ [] → RunComes files cart keys Came s bytes
  no_script : (file name : List ℕ) → IsCart (Some files) cart file → keys ≡ Some name → ScriptRefused files name s → bytes ≡ [] → RunComes files cart keys Came s bytes

pub run_refused : (files : List Named) (rose : Type 0) (cart : List ℕ) (keys : Option (List ℕ)) (Came : MachineState → Status → List ℕ → Type 0) (s : Status) (named : List ℕ) → (rose → ⊥)
    → s ≢ NoMemory → RefusesRun (Some files) rose cart keys s named → RunComes files cart keys Came s []
run_refused files rose cart keys Came s named none_rose ne (cartridge h is) = no_cart (cart_refused files rose none_rose cart s ne h) refl
run_refused files rose cart keys Came s named none_rose ne (script file accepted is h) = no_script file named accepted is (script_refused files rose none_rose named s ne h) refl

-- what comes is one
abbrev pub IsOne : (Status → List ℕ → Type 0) → Type 0
IsOne Came = (s t : Status) (xs ys : List ℕ) → Came s xs → Came t ys → (s ≡ t) × (xs ≡ ys)

-- the laws of what is read
pub record ReadLaws : Type 0 where
  pub script_one : (text : List ℕ) (a b : List KeyLine) → IsScript text a → IsScript text b → a ≡ b
  pub script_good : (text : List ℕ) (lines : List KeyLine) (line column : ℕ) → IsScript text lines → IsFirstBadAt text line column → ⊥
  pub script_first : (text : List ℕ) (l c m d : ℕ) → IsFirstBadAt text l c → IsFirstBadAt text m d → (l ≡ m) × (c ≡ d)
  pub listing_one : (text a b : List ℕ) → IsListing text a → IsListing text b → a ≡ b
  pub listing_good : (text a : List ℕ) (line : ℕ) → IsListing text a → IsFirstBad text line → ⊥
  pub listing_first : (text : List ℕ) (a b : ℕ) → IsFirstBad text a → IsFirstBad text b → a ≡ b

module _ (laws : ReadLaws) (files : List Named) where
  scripts_refused_one : (name : List ℕ) (s t : Status) → ScriptRefused files name s → ScriptRefused files name t → s ≡ t
  scripts_refused_one name s t (inl a) (inl b) = same_Some s t (sym a ∙ b)
  scripts_refused_one name s t (inl a) (inr b) = absurd (not_both (refusal most_script (file_of files name)) s (read_fine files name most_script b.3.0 b.3.1) a)
  scripts_refused_one name s t (inr a) (inl b) = absurd (not_both (refusal most_script (file_of files name)) t (read_fine files name most_script a.3.0 a.3.1) b)
  scripts_refused_one name s t (inr a) (inr b) =
      let same = same_file files name most_script a.3.0 b.3.0 a.3.1 b.3.1 in
      let k = laws.script_first b.3.0 a.0 a.1 b.0 b.1 (subst (λ (text : List ℕ). IsFirstBadAt text a.0 a.1) same a.3.2) b.3.2 in
      a.2 ∙ ap (λ (line : ℕ). (let st : Status = BadScript line a.1 in st)) k.0 ∙ ap (λ (column : ℕ). (let st : Status = BadScript b.0 column in st)) k.1 ∙ sym b.2

  keys_or_refused : (name : List ℕ) (lines : List KeyLine) (s : Status) → AreKeys (Some files) (Some name) lines → ScriptRefused files name s → ⊥
  keys_or_refused name lines s keys (inl a) = not_both (refusal most_script (file_of files name)) s (read_fine files name most_script keys.0 keys.1) a
  keys_or_refused name lines s keys (inr a) =
      let same = same_file files name most_script a.3.0 keys.0 a.3.1 keys.1 in
      laws.script_good keys.0 lines a.0 a.1 keys.2 (subst (λ (text : List ℕ). IsFirstBadAt text a.0 a.1) same a.3.2)

  pub keys_one : (keys : Option (List ℕ)) (a b : List KeyLine) → AreKeys (Some files) keys a → AreKeys (Some files) keys b → a ≡ b
  keys_one None a b first second = first ∙ sym second
  keys_one (Some name) a b first second =
      let same = same_file files name most_script first.0 second.0 first.1 second.1 in
      laws.script_one second.0 a b (subst (λ (text : List ℕ). IsScript text a) same first.2) second.2

  pub cart_one : (cart a b : List ℕ) → IsCart (Some files) cart a → IsCart (Some files) cart b → a ≡ b
  cart_one cart a b first second = same_file files cart most_bytes a b first.whole second.whole

  -- where they are read, what comes of them is what comes of the run
  pub loaded_comes : (cart : List ℕ) (keys : Option (List ℕ)) (Came : MachineState → Status → List ℕ → Type 0) (s : Status) (bytes file : List ℕ) (lines : List KeyLine)
      → IsCart (Some files) cart file → AreKeys (Some files) keys lines → RunComes files cart keys Came s bytes → Came (machine_booted file lines) s bytes
  loaded_comes cart keys Came s bytes file lines accepted read (loaded file₂ lines₂ accepted₂ read₂ came) =
      let f = cart_one cart file₂ file accepted₂ accepted in
      let l = keys_one keys lines₂ lines read₂ read in
      subst (λ (x : List KeyLine). Came (machine_booted file x) s bytes) l (subst (λ (x : List ℕ). Came (machine_booted x lines₂) s bytes) f came)
  loaded_comes cart keys Came s bytes file lines accepted read (no_cart h e) = absurd (not_both (cart_refusal (file_of files cart)) s (cart_fine files cart file accepted) h)
  loaded_comes cart keys Came s bytes file lines accepted read (no_script file₂ name accepted₂ is h e) =
      absurd (keys_or_refused name lines s (subst (λ (o : Option (List ℕ)). AreKeys (Some files) o lines) is read) h)

  -- and what comes of them is one, where it is so of a run
  pub run_comes_one : (cart : List ℕ) (keys : Option (List ℕ)) (Came : MachineState → Status → List ℕ → Type 0) → ((boot : MachineState) → IsOne (Came boot))
      → IsOne (RunComes files cart keys Came)
  run_comes_one cart keys Came one s t xs ys (loaded file lines accepted read came) second =
      one (machine_booted file lines) s t xs ys came (loaded_comes cart keys Came t ys file lines accepted read second)
  run_comes_one cart keys Came one s t xs ys first (loaded file lines accepted read came) =
      one (machine_booted file lines) s t xs ys (loaded_comes cart keys Came s xs file lines accepted read first) came
  run_comes_one cart keys Came one s t xs ys (no_cart a e) (no_cart b e₂) = (same_Some s t (sym a ∙ b), e ∙ sym e₂)
  run_comes_one cart keys Came one s t xs ys (no_cart a e) (no_script file name accepted is b e₂) = absurd (not_both (cart_refusal (file_of files cart)) s (cart_fine files cart file accepted) a)
  run_comes_one cart keys Came one s t xs ys (no_script file name accepted is a e) (no_cart b e₂) = absurd (not_both (cart_refusal (file_of files cart)) t (cart_fine files cart file accepted) b)
  run_comes_one cart keys Came one s t xs ys (no_script file name accepted is a e) (no_script file₂ name₂ accepted₂ is₂ b e₂) =
      (scripts_refused_one name s t a (subst (λ (n : List ℕ). ScriptRefused files n t) (same_Some name₂ name (sym is₂ ∙ is)) b), e ∙ sym e₂)
