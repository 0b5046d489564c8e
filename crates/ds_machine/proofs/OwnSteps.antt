use Rattle.ds_machine.proofs.Words.{Bool, Cp15State, Dtcm, Instr, Itcm, Moved, NineReach, None, Option, Outcome, Past, RegisterState, SevenReach}
use Rattle.ds_machine.proofs.Words.{Some, Tcm, V4, V5, Width, ap, arm7, arm9, enters, executed_or_moved, executed_word, false, fetched, fetched_half}
use Rattle.ds_machine.proofs.Words.{fetched_word, if◌then◌else◌, is_thumb, move_of, nine_executed, nine_memory, nine_side, refl, seven_memory}
use Rattle.ds_machine.proofs.Words.{seven_side, side_taken, step7_of, step9_of, sym, tcm_of, tcm_read, tcm_written, true, ℕ, ◌∙◌, ◌≡◌}
use Rattle.ds_machine.specs.OwnSteps.{IsStep7, IsStep9, with_cp15}
use Rattle.ds_machine.proofs.Keeps.{Follows, word_follows}
use Rattle.ds_machine.proofs.Taken.{taken_entered, taken_executed}

-- ---- a fetch leaves what a processor reaches

nine_fetch_stays : (s : RegisterState) (r : NineReach) → (fetched nine_memory V5 s r).state ≡ r
nine_fetch_stays s r = by_state (is_thumb s) where
  by_state : (thumb : Bool) → (if thumb then fetched_half nine_memory V5 s r else fetched_word nine_memory V5 s r).state ≡ r
  by_state true = refl
  by_state false = refl

seven_fetch_stays : (s : RegisterState) (r : SevenReach) → (fetched seven_memory V4 s r).state ≡ r
seven_fetch_stays s r = by_state (is_thumb s) where
  by_state : (thumb : Bool) → (if thumb then fetched_half seven_memory V4 s r else fetched_word seven_memory V4 s r).state ≡ r
  by_state true = refl
  by_state false = refl

-- ---- no access changes CP15

tcm_reads : (t : Tcm) (r : NineReach) (at : ℕ) (width : Width) → (tcm_read t r at width).cp15 ≡ r.cp15
tcm_reads (Itcm place) r at width = refl
tcm_reads (Dtcm place) r at width = refl
tcm_reads Past r at width = refl

tcm_writes : (t : Tcm) (r : NineReach) (at : ℕ) (width : Width) (value : ℕ) → (tcm_written t r at width value).cp15 ≡ r.cp15
tcm_writes (Itcm place) r at width value = refl
tcm_writes (Dtcm place) r at width value = refl
tcm_writes Past r at width value = refl

cp15_follows : Follows nine_memory (λ (r : NineReach). Unit {0}) (λ (r t : NineReach). t.cp15 ≡ r.cp15)
cp15_follows = record {
  stays = λ r i. refl;
  joins = λ r t u one two. two ∙ one;
  ends = λ r t one. tt;
  fetches = λ r at width i. refl;
  reads = λ r at width i. tcm_reads (tcm_of r.cp15 at false false) r at width;
  writes = λ r at width value i. tcm_writes (tcm_of r.cp15 at true false) r at width value;
}

same_cp15 : (o : Outcome NineReach) (r : NineReach) → o.state.cp15 ≡ r.cp15 → o ≡ record o { state = record o.state { cp15 = r.cp15 } }
same_cp15 o r e = ap (λ (c : Cp15State). (let t : Outcome NineReach = record o { state = record o.state { cp15 = c } } in t)) e

executed_by : (s : RegisterState) (r : NineReach) (number : ℕ) (instr : Option Instr) (move : Option Moved)
    → nine_executed s r number instr move ≡ with_cp15 (executed_or_moved nine_memory s r.cp15 (record { number = number; instr = instr; state = r }) move)
executed_by s r number instr None =
    same_cp15 (executed_word nine_memory (arm9 r.cp15) s r number instr) r
    (word_follows nine_memory (λ (r : NineReach). Unit {0}) (λ (r t : NineReach). t.cp15 ≡ r.cp15) cp15_follows (arm9 r.cp15) s r number instr tt)
executed_by s r number instr (Some move) = refl

-- ---- the steps

nine_by : (line : Bool) (s : RegisterState) (r : NineReach) (b : Bool) → enters line s ≡ b
    → side_taken nine_memory nine_side line s r ≡ with_cp15 (step9_of nine_memory line s r.cp15 r)
nine_by line s r true e = taken_entered nine_memory nine_side line s r e ∙ rw e refl
nine_by line s r false e =
    let f = fetched nine_memory V5 s r in
    taken_executed nine_memory nine_side line s r f.number f.instr e refl refl
    ∙ executed_by s r f.number f.instr (move_of f.instr)
    ∙ rw e (ap (λ (x : NineReach). with_cp15 (executed_or_moved nine_memory s r.cp15 (record { number = f.number; instr = f.instr; state = x }) (move_of f.instr))) (sym (nine_fetch_stays s r)))

seven_by : (line : Bool) (s : RegisterState) (r : SevenReach) (b : Bool) → enters line s ≡ b
    → side_taken seven_memory seven_side line s r ≡ step7_of seven_memory line s r
seven_by line s r true e = taken_entered seven_memory seven_side line s r e ∙ rw e refl
seven_by line s r false e =
    let f = fetched seven_memory V4 s r in
    taken_executed seven_memory seven_side line s r f.number f.instr e refl refl
    ∙ rw e (ap (λ (x : SevenReach). executed_word seven_memory arm7 s x f.number f.instr) (sym (seven_fetch_stays s r)))

pub is_step9 : IsStep9
is_step9 line s r = nine_by line s r (enters line s) refl

pub is_step7 : IsStep7
is_step7 line s r = seven_by line s r (enters line s) refl
