use Rattle.std.proofs.Common.{ℕ, ◌≡◌, ◌≤◌, ◌<◌, List, [], length, true, false, Bool, Option, Some, None, is_some, unwrap_or, refl, sym, ◌∙◌, ap, subst, if◌then◌else◌}
use Rattle.std.proofs.lemmas.Option.{same_Some, none-some}
use Rattle.std.specs.Prelude.{IfSome}
use Rattle.ds_io.specs.Faults.{Rose}
use Rattle.ds_io.specs.Shelves.{Named, Told, file_of, files_of, found_in, left_of, Finds, TookAll, TookTooMany}
use Rattle.ds_io.proofs.Putting.{rose_within}
use Rattle.nds_answers.specs.Loads.{IsCart, RefusesCart, RefusesRun, RefusesScript, cartridge, script}
use Rattle.nds_answers.specs.declared.statuses.Status.{Status}
use Rattle.nds_answers.specs.declared.statuses.Status.TheVariants.{Done, Usage, NoFile, ReadFault, WriteFault, TooLong, BadHeader, BadScript, LeftOut, BadText, BadState, NoMemory}

some_is : (o : Option (List ℕ)) → true ≡ is_some o → o ≡ Some (unwrap_or o [])
some_is None e = cc
some_is (Some x) e = refl

-- what is left of a file that was found is the file
found_left : (s : Told) (name : List ℕ) (o : Option (List ℕ)) → true ≡ is_some o → left_of (if is_some o then record s { left = o } else s) ≡ unwrap_or o []
found_left s name None e = cc
found_left s name (Some x) e = refl

-- a file that was found and read whole
pub all_is_file : (told mid new : Option Told) (name bytes : List ℕ) → Finds told name true mid → TookAll mid bytes new
    → IfSome (files_of told) (λ fs. file_of fs name ≡ Some bytes)
all_is_file None mid new name bytes found took = tt
all_is_file (Some s) None new name bytes found took = absurd (none-some _ found.1)
all_is_file (Some s) (Some m) new name bytes found took =
    let e : m ≡ found_in s name = same_Some m _ found.1 in
    let all : bytes ≡ unwrap_or (file_of s.files name) [] = took.0 ∙ ap left_of e ∙ found_left s name (file_of s.files name) found.0 in
    rw (sym all) at (some_is (file_of s.files name) found.0)

-- a file that was found and is too long
pub long_is_file : (told mid new : Option Told) (name : List ℕ) (limit : ℕ) → Finds told name true mid → TookTooMany mid limit new
    → IfSome (files_of told) (λ fs. (bytes : List ℕ) × (file_of fs name ≡ Some bytes) × (limit < length bytes))
long_is_file None mid new name limit found took = tt
long_is_file (Some s) None new name limit found took = absurd (none-some _ found.1)
long_is_file (Some s) (Some m) new name limit found took =
    let e : m ≡ found_in s name = same_Some m _ found.1 in
    let P : List ℕ → Type 0 = λ x. limit < length x in
    (unwrap_or (file_of s.files name) [], some_is (file_of s.files name) found.0, subst P (ap left_of e ∙ found_left s name (file_of s.files name) found.0) took.0)

-- looking for a file leaves the files
files_found : (s : Told) (name : List ℕ) (b : Bool) → (if b then record s { left = file_of s.files name } else s).files ≡ s.files
files_found s name true = refl
files_found s name false = refl

pub finding_keeps : (told new : Option Told) (name : List ℕ) (found : Bool) → Finds told name found new → files_of new ≡ files_of told
finding_keeps None new name found finds = ap files_of finds
finding_keeps (Some s) new name found finds = ap files_of finds.1 ∙ ap Some (files_found s name (is_some (file_of s.files name)))

-- the refusal of a script where the shelf stood as it was when the call began
pub script_refused : (old mid : Option (List Named)) (a b c : ℕ) (name : List ℕ) (status : Status) → mid ≡ old → a ≤ b → RefusesScript mid (Rose b c) name status → RefusesScript old (Rose a c) name status
script_refused old mid a b c name status same le refused =
    let P : Option (List Named) → Type 0 = λ x. RefusesScript x (Rose b c) name status in
    rises old (Rose b c) (Rose a c) name status (rose_within a b c le) (subst P same refused)
  where
    rises : (files : Option (List Named)) (r s : Type 0) (name : List ℕ) (status : Status) → (r → s) → RefusesScript files r name status → RefusesScript files s name status
    rises files r s name Done f h = h
    rises files r s name Usage f h = h
    rises files r s name NoFile f h = h
    rises files r s name ReadFault f h = f h
    rises files r s name WriteFault f h = h
    rises files r s name TooLong f h = h
    rises files r s name (BadHeader fault) f h = h
    rises files r s name (BadScript line column) f h = h
    rises files r s name (LeftOut left) f h = h
    rises files r s name (BadText line) f h = h
    rises files r s name (BadState offset) f h = h
    rises files r s name NoMemory f h = h

-- and that of a cartridge
cart_refused : (old mid : Option (List Named)) (a b c : ℕ) (name : List ℕ) (status : Status) → mid ≡ old → a ≤ b → RefusesCart mid (Rose b c) name status → RefusesCart old (Rose a c) name status
cart_refused old mid a b c name status same le refused =
    let P : Option (List Named) → Type 0 = λ x. RefusesCart x (Rose b c) name status in
    rises old (Rose b c) (Rose a c) name status (rose_within a b c le) (subst P same refused)
  where
    rises : (files : Option (List Named)) (r s : Type 0) (name : List ℕ) (status : Status) → (r → s) → RefusesCart files r name status → RefusesCart files s name status
    rises files r s name Done f h = h
    rises files r s name Usage f h = h
    rises files r s name NoFile f h = h
    rises files r s name ReadFault f h = f h
    rises files r s name WriteFault f h = h
    rises files r s name TooLong f h = h
    rises files r s name (BadHeader fault) f h = h
    rises files r s name (BadScript line column) f h = h
    rises files r s name (LeftOut left) f h = h
    rises files r s name (BadText line) f h = h
    rises files r s name (BadState offset) f h = h
    rises files r s name NoMemory f h = h

-- and that of a run's files
pub run_refused : (old mid : Option (List Named)) (a b c : ℕ) (cart : List ℕ) (keys : Option (List ℕ)) (status : Status) (named : List ℕ) → mid ≡ old → a ≤ b
    → RefusesRun mid (Rose b c) cart keys status named → RefusesRun old (Rose a c) cart keys status named
run_refused old mid a b c cart keys status named same le (cartridge refused is) = cartridge (cart_refused old mid a b c cart status same le refused) is
run_refused old mid a b c cart keys status named same le (script file accepted is refused) =
    let P : Option (List Named) → Type 0 = λ x. IsCart x cart file in
    script file (subst P same accepted) is (script_refused old mid a b c named status same le refused)
