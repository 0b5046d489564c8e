use Rattle.std.specs.Prelude.{option_map}
use Rattle.nds_words.specs.Words.{Asked, AskRun, AskList, AskAsm, AskTrace, AskPeek, AskDemo, AskSave, AskResume}
use Rattle.nds_words.specs.declared.commands.Command.{Command}
use Rattle.nds_words.specs.declared.commands.Command.TheVariants.{Run, List, Asm, Trace, Peek, Demo, Save, Resume}

-- What the code's commands stand for.

-- what a command asks for
abbrev pub asked_by : Command → Asked
asked_by (Run files ticks keep) = AskRun files.cart.now (option_map (λ name. name.now) files.keys) ticks keep
asked_by (List cart proc set) = AskList cart.now proc set
asked_by (Asm file) = AskAsm file.now
asked_by (Trace files ticks proc count) = AskTrace files.cart.now (option_map (λ name. name.now) files.keys) ticks proc count
asked_by (Peek files ticks memory place count) = AskPeek files.cart.now (option_map (λ name. name.now) files.keys) ticks memory place count
asked_by (Demo number ticks) = AskDemo number ticks
asked_by (Save files ticks) = AskSave files.cart.now (option_map (λ name. name.now) files.keys) ticks
asked_by (Resume state files ticks keep) = AskResume state.now files.cart.now (option_map (λ name. name.now) files.keys) ticks keep
