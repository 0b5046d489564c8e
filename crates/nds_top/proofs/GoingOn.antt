use Rattle.nds_top.proofs.Words.{AreKeys, At, Call, ComesBack, CommandGives, ConsoleState, Done, Ending, FromBoot, Gives, GivesBy, HadNoFault, IsCart}
use Rattle.nds_top.proofs.Words.{IsSomeAnd, IsState, Keep, KeyLine, List, MachineState, MachineStep, Named, NoMemory, None, Ok, Option, Runs, SavedBy}
use Rattle.nds_top.proofs.Words.{Shown, Some, StatesAreShort, Status, TurnsToEnd, [], ap, arith, cartridge, command, file_of, inl, inr, latest_of}
use Rattle.nds_top.proofs.Words.{machine_booted, more, nat_lt, none-some, nothing, option_map, output_of, over, read_state, reference, reference_step}
use Rattle.nds_top.proofs.Words.{refl, same_Some, saved_state, script, sha256, stops, subst, switched_on, sym, ℕ, ◌+◌, ◌<◌, ◌∙◌, ◌∷◌, ◌≡◌, ◌≢◌}
use Rattle.ds_machine.specs.Sound.{HasSoundParts}
use Rattle.nds_words.specs.Words.{Asked, AskResume, AskRun, AskSave, Asks}
use Rattle.ds_base.specs.declared.left_out.LeftOut.{LeftOut}
use Rattle.ds_runs.specs.Runs as runs
use Rattle.ds_machine.specs.Saved.{script_from}
use Rattle.ds_machine.specs.Statuses.{left_by}
use Rattle.ds_machine.specs.Touched.{StepsKeepFile}
use Rattle.ds_machine.specs.WithinLaws.{RunsKeepScript}
use Rattle.nds_plays.specs.Cuts.{RunsAreCut}
use Rattle.nds_top.specs.Resumes.{HaveSameFiles, WroteTheRest}
use Rattle.nds_top.proofs.OneAnswer.{Comes, ResumeWrites, TopLaws, WroteSo, command_told, status_at}
use Rattle.ds_machine.proofs.AtBoot.{booted_parts}
use Rattle.ds_machine.proofs.Booting.{booted_stays, from_start}
use Rattle.nds_top.proofs.KeyScripts.{keys_rise}
use Rattle.nds_top.proofs.Outcomes.{loaded_comes}
use Rattle.nds_top.proofs.ResumeOutcomes.{state_comes}

-- A run that goes on from a saved console, and the whole run.

-- ---- the cartridge's file over a run

abbrev EndsWithFile : List ℕ → Ending MachineState LeftOut → Type 0
EndsWithFile file (At s) = s.file ≡ file
EndsWithFile file (runs.Stopped left) = Unit {0}

run_file : StepsKeepFile → (limit : ℕ) (end : Ending MachineState LeftOut) (s : MachineState) (outs : List Shown) → Runs reference limit end s outs → EndsWithFile s.file end
run_file keep limit end s all (over s0 none) = refl
run_file keep limit end s all (stops s0 after tick rank stop least below halts) = tt
run_file keep limit end s all (more e0 s0 next tick rank outs rest least below goes run) =
    let came : left_by (reference_step rank s0) ≡ next = ap (λ (x : MachineStep MachineState Shown LeftOut). left_by x) goes in
    let same : next.file ≡ s0.file = ap (λ (m : MachineState). m.file) (sym came) ∙ keep rank s0 in
    subst (λ (f : List ℕ). EndsWithFile f e0) same (run_file keep limit e0 next rest run)

-- ---- the files of two calls

cart_there : (files files₂ : List Named) (cart cart₂ file : List ℕ) → file_of files cart ≡ file_of files₂ cart₂ → IsCart (Some files) cart file → IsCart (Some files₂) cart₂ file
cart_there files files₂ cart cart₂ file same is =
    record { whole = record { read = sym same ∙ is.whole.read; short = is.whole.short }; accepted = is.accepted }

keys_there : (files files₂ : List Named) (keys keys₂ : Option (List ℕ)) (lines : List KeyLine) → option_map (file_of files) keys ≡ option_map (file_of files₂) keys₂
    → AreKeys (Some files) keys lines → AreKeys (Some files₂) keys₂ lines
keys_there files files₂ None None lines same are = are
keys_there files files₂ None (Some name) lines same are = absurd (none-some (file_of files₂ name) same)
keys_there files files₂ (Some name) None lines same are = absurd (none-some (file_of files name) (sym same))
keys_there files files₂ (Some name) (Some name₂) lines same are =
    (are.0, record { read = sym (same_Some (file_of files name) (file_of files₂ name₂) same) ∙ are.1.read; short = are.1.short }, are.2)

-- ---- what was saved

pub record SavedAt (c : Call) (files : List Named) (cart : List ℕ) (keys : Option (List ℕ)) (first : ℕ) : Type 0 where
  pub file : List ℕ
  pub lines : List KeyLine
  pub is_cart : IsCart (Some files) cart file
  pub are_keys : AreKeys (Some files) keys lines
  pub console : ConsoleState
  pub outs : List Shown
  pub ran : Runs reference first (At console.machine) (machine_booted file lines) outs
  pub limit : console.limit ≡ first
  pub parts : HasSoundParts (machine_booted file lines)
  pub back : ComesBack console
  pub wrote : c.wrote (saved_state console)

both_seated : (seat : Option ConsoleState) (P Q : ConsoleState → Type 0) → IsSomeAnd seat P → IsSomeAnd seat Q → (k : ConsoleState) × P k × Q k
both_seated None P Q p q = absurd p
both_seated (Some k) P Q p q = (k, p, q)

saved_by : (c : Call) (files : List Named) (cart : List ℕ) (keys : Option (List ℕ)) (first : ℕ) (named : List ℕ) → c.files ≡ Some files
    → GivesBy c cart keys (SavedBy c first Done) named Done → SavedAt c files cart keys first
saved_by c files cart keys first named told (inr (still, cartridge refused is)) = absurd refused
saved_by c files cart keys first named told (inr (still, script file accepted is refused)) = absurd refused
saved_by c files cart keys first named told (inl h) =
    let did = h.4 in
    let k = both_seated c.seat _ ComesBack did.0 (did.1 refl) in
    let w = k.1.1 in
    let is_cart = subst (λ (f : Option (List Named)). IsCart f cart h.0) told h.2 in
    let are_keys = subst (λ (f : Option (List Named)). AreKeys f keys h.1) told h.3 in
    record {
      file = h.0;
      lines = h.1;
      is_cart = is_cart;
      are_keys = are_keys;
      console = k.0;
      outs = w.0.0;
      ran = w.0.1;
      limit = w.1;
      parts = booted_parts h.0 h.1 is_cart.accepted (keys_rise (Some files) keys h.1 are_keys) (booted_stays h.0 h.1).keys;
      back = k.2;
      wrote = w.0.2;
    }

pub saved_at : TopLaws → (c : Call) (files : List Named) (words : List (List ℕ)) (cart : List ℕ) (keys : Option (List ℕ)) (first : ℕ) (named : List ℕ) → c.files ≡ Some files
    → Asks words (AskSave cart keys first) → Gives c words named Done → SavedAt c files cart keys first
saved_at laws c files words cart keys first named told asks (nothing never is still) = absurd (never (AskSave cart keys first) asks)
saved_at laws c files words cart keys first named told asks (command asked asks₂ given) =
    let h = subst (λ (a : Asked). CommandGives c a named Done) (laws.words words asked (AskSave cart keys first) asks₂ asks) given in
    saved_by c files cart keys first named told h

-- ---- with the laws of the machine

module _ (laws : TopLaws) (cuts : RunsAreCut) (scripts : RunsKeepScript) (kept : StepsKeepFile) (shorts : StatesAreShort) where
  -- with the same cartridge and key script what was saved is read as the console, where the run is to go on to a later tick
  read_there : (c : Call) (files : List Named) (cart : List ℕ) (keys : Option (List ℕ)) (first later : ℕ) (w : SavedAt c files cart keys first) → first < later
      → read_state (sha256 w.file) later w.file w.lines (saved_state w.console) ≡ Ok w.console
  read_there c files cart keys first later w lt =
      let k = w.console in
      let boot = machine_booted w.file w.lines in
      let limit = w.limit in
      let file : k.machine.file ≡ w.file = run_file kept first (At k.machine) boot w.outs w.ran ∙ (booted_stays w.file w.lines).file in
      let lines : k.machine.keys ≡ script_from first w.lines =
      scripts 0 first w.lines boot k.machine w.outs w.ran w.parts (omega arith) ((booted_stays w.file w.lines).keys ∙ sym (from_start w.lines)) in
      let here = subst (λ (n : ℕ). k.machine.keys ≡ script_from n w.lines) (sym limit) lines in
      subst (λ (f : List ℕ). read_state (sha256 f) later f w.lines (saved_state k) ≡ Ok k) file (w.back later w.lines (omega (arith, limit, lt)) here)

  -- what is given to what is asked for
  told_of : (c : Call) (files : List Named) (words : List (List ℕ)) (asked : Asked) (named : List ℕ) (s : Status) (told : c.files ≡ Some files) (none : HadNoFault c) (kept : c.still → c.wrote [])
      → Asks words asked → s ≢ NoMemory → Gives c words named s → WroteSo c files told none kept (Comes files asked s)
  told_of c files words asked named s told none kept asks ne (nothing never is still) = absurd (never asked asks)
  told_of c files words asked named s told none kept asks ne (command asked₂ asks₂ given) =
      command_told c files told none kept asked named s ne (subst (λ (a : Asked). CommandGives c a named s) (laws.words words asked₂ asked asks₂ asks) given)

  pub goes_on : (c d e : Call) (files files₂ files₃ : List Named) (words words₂ : List (List ℕ)) (cart state cart₂ cart₃ : List ℕ) (keys keys₂ keys₃ : Option (List ℕ))
      (first later : ℕ) (keep : Keep) (named named₂ : List ℕ) (s t : Status) (w : SavedAt c files cart keys first) → d.files ≡ Some files₂ → e.files ≡ Some files₃
      → HadNoFault d → HadNoFault e → (d.still → d.wrote []) → (e.still → e.wrote []) → Asks words (AskResume state cart₂ keys₂ later keep) → Asks words₂ (AskRun cart₃ keys₃ later keep) → first < later
      → file_of files₂ state ≡ Some (saved_state w.console) → HaveSameFiles files cart keys files₂ cart₂ keys₂ → HaveSameFiles files cart keys files₃ cart₃ keys₃ → s ≢ NoMemory → t ≢ NoMemory
      → Gives d words named s → Gives e words₂ named₂ t → (s ≡ t) × FromBoot e cart₃ keys₃ (WroteTheRest d e first later keep (saved_state w.console))
  goes_on c d e files files₂ files₃ words words₂ cart state cart₂ cart₃ keys keys₂ keys₃ first later keep named named₂ s t w told told₂ none none₂ kept kept₂ asks asks₂ lt there same same₂ ne ne₂ given given₂ =
      let k = w.console in
      let boot = machine_booted w.file w.lines in
      let saved = saved_state k in
      let x = told_of d files₂ words (AskResume state cart₂ keys₂ later keep) named s told none kept asks ne given in
      let y = told_of e files₃ words₂ (AskRun cart₃ keys₃ later keep) named₂ t told₂ none₂ kept₂ asks₂ ne₂ given₂ in
      let reads = read_there c files cart keys first later w lt in
      let state_is : IsState (Some files₂) state cart₂ keys₂ later k = (
        saved,
        w.file,
        w.lines,
        record { read = there; short = shorts (sha256 w.file) later w.file w.lines saved k reads },
        cart_there files files₂ cart cart₂ w.file same.same_cart w.is_cart,
        keys_there files files₂ keys keys₂ w.lines same.same_keys w.are_keys,
        reads,
      ) in
      let cart_is = cart_there files files₃ cart cart₃ w.file same₂.same_cart w.is_cart in
      let keys_are = keys_there files files₃ keys keys₃ w.lines same₂.same_keys w.are_keys in
      let r : ResumeWrites keep later k s x.0 = state_comes laws.reads files₂ state cart₂ keys₂ later (ResumeWrites keep later) s x.0 k state_is x.1 in
      let a : ResumeWrites keep later (switched_on boot) t y.0 = loaded_comes laws.reads files₃ cart₃ keys₃ (λ (m : MachineState). ResumeWrites keep later (switched_on m)) t y.0 w.file w.lines cart_is keys_are y.1 in
      let cut = cuts first later boot k.machine a.end w.outs a.outs w.parts (omega (arith, lt)) w.ran a.ran in
      let one = laws.runs later k.machine r.end a.end r.outs cut.rest r.ran cut.ran in (
        r.status ∙ ap status_at one.0 ∙ sym a.status,
        (
          w.file,
          w.lines,
          subst (λ (f : Option (List Named)). IsCart f cart₃ w.file) (sym told₂) cart_is,
          subst (λ (f : Option (List Named)). AreKeys f keys₃ w.lines) (sym told₂) keys_are,
          record {
            middle = k;
            is = refl;
            front = w.outs;
            came = w.ran;
            end = a.end;
            rest = cut.rest;
            ran = cut.ran;
            resumed = r.last;
            whole = a.last;
            turns = subst (λ (en : Ending MachineState LeftOut). TurnsToEnd later k en r.last) one.0 r.turns;
            all_turns = a.turns;
            wrote_rest = subst (λ (bytes : List ℕ). d.wrote bytes)
                (r.is ∙ ap (λ (en : Ending MachineState LeftOut). output_of later r.last.turns keep (latest_of k.machine) en r.outs) one.0
                ∙ ap (λ (os : List Shown). output_of later r.last.turns keep (latest_of k.machine) a.end os) one.1) x.2;
            wrote_whole = subst (λ (bytes : List ℕ). e.wrote bytes) (a.is ∙ cut.written a.last.turns keep) y.2;
          },
        ),
      )
