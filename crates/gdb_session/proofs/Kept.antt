use Rattle.gdb_session.proofs.Words.{All, ComesFrom, ComesFromBoot, ConsoleState, Contains, IsOfOneRun, IsSaveOf, List, MachineState, TapeState, ap}
use Rattle.gdb_session.proofs.Words.{arith, boot_of, dues_of, machine_booted, reference, remove, subst, sym, take, ℕ, ◌∙◌, ◌≡◌}
use Rattle.std.proofs.Common.{zero, suc, ◌<◌, [], ◌∷◌, ◌++◌, length, Err, Ok, Result, None, get_or, drop, refl}
use Rattle.std.proofs.lemmas.List.{get_or_default, length-append}
use Rattle.std.proofs.Math.ListN.{get_or-append}
use Rattle.std.proofs.Math.Seq.{get_or-append_seam}
use Rattle.std.proofs.lemmas.List.Elements.{All-append, All-drop, All-take}
use Rattle.ds_base.specs.declared.keys.KeyLine.{KeyLine}
use Rattle.ds_runs.specs.Runs.{At, IsOver, Runs, over}
use Rattle.ds_machine.specs.Saved.{script_from}
use Rattle.ds_machine.specs.Sound.{HasSoundParts, IsSound}
use Rattle.ds_machine.specs.WithinLaws.{IsWithinTick, RunsKeepScript, RunsStayWithinTick}
use Rattle.ds_machine.proofs.Booting.{booted_stays, from_start}
use Rattle.run_ahead.specs.Saved.{IsReadBack, read_state}
use Rattle.run_ahead.specs.ToEndLaws.{TurnsKeepRuns}
use Rattle.gdb_session.specs.declared.saves.Save.{Save}
use Rattle.gdb_session.proofs.Coming.{came_file, comes_on, stays}

-- A tape whose console goes on, keeps what it is, and comes back.

-- ---- what is kept

pub all_there : (saves : List Save) → All (Contains saves) saves
all_there saves i d lt = (i, lt, get_or_default saves i (get_or saves i d) d lt)

pub all_but : (P : Save → Type 0) (old new : List Save) (place : ℕ) → All P old → new ≡ remove old place → All P new
all_but P old new place all is =
    subst (All P) (sym is) (All-append P (take place old) (drop (suc place) old) (All-take P place old all) (All-drop P (suc place) old all))

all_one : (P : Save → Type 0) (save : Save) → P save → All P (save ∷ [])
all_one P save p zero d lt = p
all_one P save p (suc i) d lt = absurd (omega (arith, lt))

last_fits : (old : List Save) (save : Save) → length old < length (old ++ save ∷ [])
last_fits old save = subst (λ (n : ℕ). length old < n) (sym (length-append old (save ∷ []))) (omega arith)

there_first : (old more : List Save) (x : Save) → Contains old x → Contains (old ++ more) x
there_first old more x h =
    (h.0, subst (λ (n : ℕ). h.0 < n) (sym (length-append old more)) (omega (arith, h)), get_or-append old more x h.0 h.1 ∙ h.2)

pub there_before : (old new : List Save) (save : Save) → All (Contains old) new → All (Contains (old ++ save ∷ [])) new
there_before old new save all i d lt = there_first old (save ∷ []) (get_or new i d) (all i d lt)

pub there_now : (old kept new : List Save) (save : Save) → new ≡ kept ++ save ∷ [] → All (Contains old) kept → All (Contains (old ++ save ∷ [])) new
there_now old kept new save is all =
    subst (All (Contains (old ++ save ∷ []))) (sym is)
    (All-append (Contains (old ++ save ∷ [])) kept (save ∷ []) (there_before old kept save all)
    (all_one (Contains (old ++ save ∷ [])) save (length old, last_fits old save, get_or-append_seam old save [] save)))

all_of : (P : Save → Type 0) (old new : List Save) → All P old → All (Contains old) new → All P new
all_of P old new all among i d lt =
    let h = among i d lt in subst P h.2 (all h.0 (get_or new i d) h.1)

pub kept_more : (P : Save → Type 0) (old new : List Save) (save : Save) → All P old → P save → All (Contains (old ++ save ∷ [])) new → All P new
kept_more P old new save all p among = all_of P (old ++ save ∷ []) new (All-append P old (save ∷ []) all (all_one P save p)) among

pub one_of : (P : Save → Type 0) (saves : List Save) (save : Save) → All P saves → Contains saves save → P save
one_of P saves save all h = subst P h.2 (all h.0 save h.1)

-- ---- the console begins, and goes on

module _ (file : List ℕ) (keys script : List KeyLine) (c : ConsoleState) (same : script ≡ keys)
    (is : c ≡ record { machine = machine_booted file keys; limit = 0; stopped = None; turns = 0 }) where
  pub begins_boot : machine_booted c.machine.file script ≡ machine_booted file keys
  begins_boot =
      ap (λ (f : List ℕ). machine_booted f script) (ap (λ (k : ConsoleState). k.machine.file) is ∙ (booted_stays file keys).file)
      ∙ ap (machine_booted file) same

  pub begins : (digest : List ℕ) (saves : List Save) → saves ≡ [] → IsSound c.machine → HasSoundParts c.machine → IsWithinTick 0 c.machine
      → IsOfOneRun (machine_booted c.machine.file script) script digest c saves
  begins digest saves none sound parts within =
      let machine = ap (λ (k : ConsoleState). k.machine) is in
      let boot = begins_boot ∙ sym machine in
      let start = is ∙ ap (λ (m : MachineState). record { machine = m; limit = 0; stopped = None; turns = 0 }) (sym begins_boot) in record {
        sound = subst IsSound (sym boot) sound;
        parts = subst HasSoundParts (sym boot) parts;
        within = subst (IsWithinTick 0) (sym boot) within;
        came = subst (λ (k : ConsoleState). ComesFrom k c) start (stays c);
        kept = subst (All (IsSaveOf c.machine.file script digest)) (sym none) (λ i d lt. absurd (omega (arith, lt)));
      }

module _ (keys : List KeyLine) (digest : List ℕ) (old new : ConsoleState) (saves : List Save)
    (h : IsOfOneRun (machine_booted old.machine.file keys) keys digest old saves) where
  pub comes_again : new.machine.file ≡ old.machine.file → ComesFromBoot (machine_booted old.machine.file keys) new
      → IsOfOneRun (machine_booted new.machine.file keys) keys digest new saves
  comes_again same came =
      let file = sym same in record {
        sound = subst (λ (f : List ℕ). IsSound (machine_booted f keys)) file h.sound;
        parts = subst (λ (f : List ℕ). HasSoundParts (machine_booted f keys)) file h.parts;
        within = subst (λ (f : List ℕ). IsWithinTick 0 (machine_booted f keys)) file h.within;
        came = subst (λ (f : List ℕ). ComesFromBoot (machine_booted f keys) new) file came;
        kept = subst (λ (f : List ℕ). All (IsSaveOf f keys digest) saves) file h.kept;
      }

  pub goes_on : ComesFrom old new → IsOfOneRun (machine_booted new.machine.file keys) keys digest new saves
  goes_on comes = comes_again (came_file old new comes.0 comes.1) (comes_on _ old new h.came.0 comes.0 h.came.1 comes.1)

pub same_boot : (t : TapeState) (new : ConsoleState) → ComesFrom t.console new → machine_booted new.machine.file t.keys ≡ boot_of t
same_boot t new comes = ap (λ (f : List ℕ). machine_booted f t.keys) (came_file t.console new comes.0 comes.1)

-- ---- the console is kept

module _ (runs : TurnsKeepRuns) (stay : RunsStayWithinTick) (scripts : RunsKeepScript)
    (keys : List KeyLine) (digest : List ℕ) (c : ConsoleState) (saves : List Save)
    (h : IsOfOneRun (machine_booted c.machine.file keys) keys digest c saves) (still : c.stopped ≡ None)
    (done : IsOver (dues_of c.machine) c.limit) where
  abbrev boot : MachineState
  boot = machine_booted c.machine.file keys

  run : Runs reference c.limit (At c.machine) boot (h.came.0 ++ [])
  run = runs _ c h.came.0 refl h.sound h.came.1 still c.limit (omega arith) (At c.machine) [] (over c.machine done)

  within_its_limit : IsWithinTick c.limit c.machine
  within_its_limit = stay 0 c.limit boot c.machine (h.came.0 ++ []) run h.parts (omega arith) h.within

  lines_to_come : c.machine.keys ≡ script_from c.limit keys
  lines_to_come =
      scripts 0 c.limit keys boot c.machine (h.came.0 ++ []) run h.parts (omega arith)
      ((booted_stays c.machine.file keys).keys ∙ sym (from_start keys))

  pub is_kept : (save : Save) → save.at ≡ c.limit → (IsWithinTick c.limit c.machine → IsReadBack digest c save.bytes.items)
      → IsSaveOf c.machine.file keys digest save
  is_kept save at back = record { console = c; came = h.came; at = sym at; lines = lines_to_come; back = back within_its_limit }

-- ---- the way back

ok_or : ConsoleState → Result ConsoleState ℕ → ConsoleState
ok_or other (Ok c) = c
ok_or other (Err place) = other

module _ (keys : List KeyLine) (digest : List ℕ) (old : ConsoleState) (saves : List Save)
    (h : IsOfOneRun (machine_booted old.machine.file keys) keys digest old saves) (save : Save) (there : Contains saves save) where
  kept : IsSaveOf old.machine.file keys digest save
  kept = one_of (IsSaveOf old.machine.file keys digest) saves save h.kept there

  its_file : kept.console.machine.file ≡ old.machine.file
  its_file = came_file _ kept.console kept.came.0 kept.came.1 ∙ (booted_stays old.machine.file keys).file

  reads_back : (until : ℕ) → save.at < until → read_state digest until old.machine.file keys save.bytes.items ≡ Ok kept.console
  reads_back until lt =
      subst (λ (f : List ℕ). read_state digest until f keys save.bytes.items ≡ Ok kept.console) its_file
      (kept.back until keys (subst (λ (n : ℕ). n < until) (sym kept.at) lt) kept.lines)

  module _ (until : ℕ) (copy : List KeyLine) (bytes : List ℕ) (new : ConsoleState) (lt : save.at < until) (keys_are : copy ≡ keys)
      (bytes_are : bytes ≡ save.bytes.items) (read : read_state digest until old.machine.file copy bytes ≡ Ok new) where
    is_that : kept.console ≡ new
    unfolding kept ok_or
    is_that =
        ap (ok_or new)
        (sym (reads_back until lt) ∙ ap (λ (b : List ℕ). read_state digest until old.machine.file keys b) (sym bytes_are)
        ∙ ap (λ (k : List KeyLine). read_state digest until old.machine.file k bytes) (sym keys_are) ∙ read)

    pub back_file : new.machine.file ≡ old.machine.file
    back_file = ap (λ (k : ConsoleState). k.machine.file) (sym is_that) ∙ its_file

    pub back_at : new.limit ≡ save.at
    back_at = ap (λ (k : ConsoleState). k.limit) (sym is_that) ∙ kept.at

    pub comes_back : IsOfOneRun (machine_booted new.machine.file keys) keys digest new saves
    comes_back =
        comes_again keys digest old new saves h back_file (subst (λ (k : ConsoleState). ComesFromBoot (machine_booted old.machine.file keys) k) is_that kept.came)
