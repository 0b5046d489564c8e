use Rattle.ds_machine.proofs.Words.{Dtcm, Goes, HasOnlyLaterEvents, Instr, IoState, IsProcessorIo, Itcm, MachineState, Moved, Nine, NineReach, None}
use Rattle.ds_machine.proofs.Words.{Option, Past, Proc, RegisterState, Seven, SevenReach, Some, Tcm, Tick, Width, arm7, arm9, false, io_of, line_of}
use Rattle.ds_machine.proofs.Words.{map_read_goes, map_write_goes, move_of, nine_executed, nine_memory, nine_reach, nine_side, outcome_of, refl}
use Rattle.ds_machine.proofs.Words.{seven_memory, seven_reach, seven_side, subst, sym, tcm_of, tcm_read, tcm_written, true, ℕ, ◌∙◌, ◌≡◌}
use Rattle.ds_ports.proofs.Later.{goes_nowhere, goes_on}
use Rattle.ds_machine.proofs.Keeps.{Follows, taken_follows, word_follows}

-- What a processor's step at a tick makes of the units behind the ports.

-- what holds of a processor's own where it makes an access
abbrev pub IsReady : Proc → Tick → IoState → Type 0
IsReady proc now u = IsProcessorIo (io_of u proc) × HasOnlyLaterEvents now (io_of u proc)

-- the accesses are made at the same tick
abbrev pub Leads : Proc → (now : Tick) (old : IoState) (later : Tick) (new : IoState) → Type 0
Leads proc now old later new = (later ≡ now) × Goes proc now old new

leads_on : (proc : Proc) (t u v : Tick) (a b c : IoState) → Leads proc t a u b → Leads proc u b v c → Leads proc t a v c
leads_on proc t u v a b c one two =
    (two.0 ∙ one.0, goes_on proc t a b c one.1 (subst (λ (x : Tick). Goes proc x b c) one.0 two.1))

pub leads_ready : (proc : Proc) (t u : Tick) (a b : IoState) → Leads proc t a u b → IsReady proc u b
leads_ready proc t u a b one = (one.1.is, subst (λ (x : Tick). HasOnlyLaterEvents x (io_of b proc)) (sym one.0) one.1.quiet)

seven_follows : Follows seven_memory (λ (r : SevenReach). IsReady Seven r.now r.map.io) (λ (r t : SevenReach). Leads Seven r.now r.map.io t.now t.map.io)
seven_follows = record {
  stays = λ r i. (refl, goes_nowhere Seven r.now r.map.io i.0 i.1);
  joins = λ r t u one two. leads_on Seven r.now t.now u.now r.map.io t.map.io u.map.io one two;
  ends = λ r t one. leads_ready Seven r.now t.now r.map.io t.map.io one;
  fetches = λ r at width i. (refl, goes_nowhere Seven r.now r.map.io i.0 i.1);
  reads = λ r at width i. (refl, map_read_goes Seven r.now r.map i.0 i.1 at width);
  writes = λ r at width value i. (refl, map_write_goes Seven r.now r.map i.0 i.1 at width value);
}

pub nine_reads : (t : Tcm) (r : NineReach) (at : ℕ) (width : Width) → IsReady Nine r.now r.map.io
    → Leads Nine r.now r.map.io (tcm_read t r at width).now (tcm_read t r at width).map.io
nine_reads (Itcm place) r at width i = (refl, goes_nowhere Nine r.now r.map.io i.0 i.1)
nine_reads (Dtcm place) r at width i = (refl, goes_nowhere Nine r.now r.map.io i.0 i.1)
nine_reads Past r at width i = (refl, map_read_goes Nine r.now r.map i.0 i.1 at width)

pub nine_writes : (t : Tcm) (r : NineReach) (at : ℕ) (width : Width) (value : ℕ) → IsReady Nine r.now r.map.io
    → Leads Nine r.now r.map.io (tcm_written t r at width value).now (tcm_written t r at width value).map.io
nine_writes (Itcm place) r at width value i = (refl, goes_nowhere Nine r.now r.map.io i.0 i.1)
nine_writes (Dtcm place) r at width value i = (refl, goes_nowhere Nine r.now r.map.io i.0 i.1)
nine_writes Past r at width value i = (refl, map_write_goes Nine r.now r.map i.0 i.1 at width value)

nine_follows : Follows nine_memory (λ (r : NineReach). IsReady Nine r.now r.map.io) (λ (r t : NineReach). Leads Nine r.now r.map.io t.now t.map.io)
nine_follows = record {
  stays = λ r i. (refl, goes_nowhere Nine r.now r.map.io i.0 i.1);
  joins = λ r t u one two. leads_on Nine r.now t.now u.now r.map.io t.map.io u.map.io one two;
  ends = λ r t one. leads_ready Nine r.now t.now r.map.io t.map.io one;
  fetches = λ r at width i. (refl, goes_nowhere Nine r.now r.map.io i.0 i.1);
  reads = λ r at width i. nine_reads (tcm_of r.cp15 at false false) r at width i;
  writes = λ r at width value i. nine_writes (tcm_of r.cp15 at true false) r at width value i;
}

nine_executes : (s : RegisterState) (r : NineReach) (number : ℕ) (instr : Option Instr) (move : Option Moved) → IsReady Nine r.now r.map.io
    → (let t : NineReach = (nine_executed s r number instr move).state in Leads Nine r.now r.map.io t.now t.map.io)
nine_executes s r number instr None i =
    word_follows nine_memory (λ (r : NineReach). IsReady Nine r.now r.map.io) (λ (r t : NineReach). Leads Nine r.now r.map.io t.now t.map.io)
    nine_follows (arm9 r.cp15) s r number instr i
nine_executes s r number instr (Some move) i = (refl, goes_nowhere Nine r.now r.map.io i.0 i.1)

nine_goes : (now : Tick) (s : MachineState) → IsReady Nine now s.io → Goes Nine now s.io (outcome_of Nine now s).machine.io
nine_goes now s i =
    (taken_follows nine_memory (λ (r : NineReach). IsReady Nine r.now r.map.io) (λ (r t : NineReach). Leads Nine r.now r.map.io t.now t.map.io)
    nine_follows nine_side (λ old r number instr i. nine_executes old r number instr (move_of instr) i) (line_of s Nine) s.nine.processor.registers (nine_reach now s) i).1

seven_goes : (now : Tick) (s : MachineState) → IsReady Seven now s.io → Goes Seven now s.io (outcome_of Seven now s).machine.io
seven_goes now s i =
    (taken_follows seven_memory (λ (r : SevenReach). IsReady Seven r.now r.map.io) (λ (r t : SevenReach). Leads Seven r.now r.map.io t.now t.map.io)
    seven_follows seven_side
    (λ old r number instr i. word_follows seven_memory (λ (r : SevenReach). IsReady Seven r.now r.map.io)
    (λ (r t : SevenReach). Leads Seven r.now r.map.io t.now t.map.io) seven_follows arm7 old r number instr i)
    (line_of s Seven) s.seven.processor.registers (seven_reach now s) i).1

pub step_goes : (proc : Proc) (now : Tick) (s : MachineState) → IsProcessorIo (io_of s.io proc) → HasOnlyLaterEvents now (io_of s.io proc)
    → Goes proc now s.io (outcome_of proc now s).machine.io
step_goes Nine now s is quiet = nine_goes now s (is, quiet)
step_goes Seven now s is quiet = seven_goes now s (is, quiet)
