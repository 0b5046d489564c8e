use Rattle.std.specs.Prelude.{ℕ, List, [], ◌∷◌, ◌++◌, map, flat_map, codes, Option, option_to_list}
use Rattle.std.specs.List.{concat, last_or}
use Rattle.ds_base.specs.declared.left_out.LeftOut.{LeftOut}
use Rattle.ds_base.specs.declared.left_out.LeftKind.{LeftKind}
use Rattle.ds_base.specs.declared.left_out.LeftKind.TheVariants.{NotYet, Swi, BigEndian, HaltMode, DmaStart, CardTransfer, DisplayMode, BgMode, Capture, Mosaic, ExtendedBackground, BitmapObject}
use Rattle.ds_base.specs.declared.memories.Memory.{Memory}
use Rattle.ds_base.specs.declared.memories.Memory.TheVariants.{Main, Shared, Own7, Itcm, Dtcm, Palette, Vram, Oam}
use Rattle.ds_base.specs.declared.processors.Proc.TheVariants.{Nine, Seven}
use Rattle.ds_runs.specs.Runs.{Ending, At, Stopped}
use Rattle.ds_machine.specs.Frames.{WholeFrame, frame_shown, frames_shown, last_frame, last_lists, lists_shown}
use Rattle.ds_machine.specs.States.{MachineState}
use Rattle.ds_machine.specs.Inspections.{memory_of, registers_of}
use Rattle.ds_machine.specs.Reference.{Shown}
use Rattle.gx_geometry.specs.States.{Swapped}
use Rattle.nds_records.specs.Lists.{lists_records}
use Rattle.nds_records.specs.Numbers.{longs, words, halves}
use Rattle.nds_words.specs.declared.commands.Keep.{Keep}
use Rattle.nds_words.specs.declared.commands.Keep.TheVariants.{All, Last, Nothing}

-- What a run writes (our choice of records), each record by its parts. All numbers are little-endian.

-- the record of a frame: 'F', the tick at which it became whole, and its pixels: the upper screen's 192 rows of 256, and then the lower's
abbrev pub frame_record : WholeFrame → List (List ℕ)
frame_record frame = codes "F" ∷ longs (frame.tick ∷ []) ∷ halves frame.pixels ∷ []

-- the memories, in the order in which they are written
abbrev pub all_memories : List Memory
all_memories = Main ∷ Shared ∷ Own7 ∷ Itcm ∷ Dtcm ∷ Palette ∷ Vram ∷ Oam ∷ []

-- the record of memories: 'M', the eight memories, ARM9's registers, ARM7's registers
abbrev pub memory_record : MachineState → List (List ℕ)
memory_record s = codes "M" ∷ map (memory_of s) all_memories ++ (words (registers_of s Nine) ∷ words (registers_of s Seven) ∷ [])

-- the record of the end: 'E', the tick run to, how many steps ARM9, ARM7 and the other actors took, and how many turns counted
abbrev pub end_record : (until turns : ℕ) → MachineState → List (List ℕ)
end_record until turns s =
    codes "E" ∷ longs (until ∷ s.nine.processor.steps ∷ s.seven.processor.steps ∷ s.events ∷ turns ∷ []) ∷ []

-- the number of each kind of stop
abbrev pub kind_number : LeftKind → ℕ
kind_number NotYet = 1
kind_number Swi = 2
kind_number BigEndian = 3
kind_number HaltMode = 4
kind_number DmaStart = 5
kind_number CardTransfer = 6
kind_number DisplayMode = 7
kind_number BgMode = 8
kind_number Capture = 9
kind_number Mosaic = 10
kind_number ExtendedBackground = 11
kind_number BitmapObject = 12

-- the record of a stop: 'X', the tick, the actor's rank, the kind, the value
abbrev pub stop_record : LeftOut → List (List ℕ)
stop_record left = codes "X" ∷ longs (left.tick.0 ∷ []) ∷ (left.rank ∷ kind_number left.kind ∷ []) ∷ words (left.value ∷ []) ∷ []

-- the records of frames, one after another
abbrev pub frame_records : List WholeFrame → List ℕ
frame_records frames = flat_map (λ (frame : WholeFrame). concat (frame_record frame)) frames

-- the last frame that is whole, and the lists of the last swap, where there are any
pub record Latest : Type 0 where
  pub frame : Option WholeFrame
  pub lists : Option Swapped

-- those of a machine
abbrev pub latest_of : MachineState → Latest
latest_of s = record { frame = last_frame s; lists = last_lists s }

-- those after what a run put out, by those before it
abbrev pub latest_after : Latest → List Shown → Latest
latest_after before outs = record { frame = last_or before.frame (frames_shown outs); lists = last_or before.lists (lists_shown outs) }

-- their records: that of the frame, and then that of the lists
abbrev pub latest_records : Latest → List ℕ
latest_records latest = frame_records (option_to_list latest.frame) ++ lists_records (option_to_list latest.lists)

-- the records of what one step put out: that of the frame that it made whole, and then, where waiting lists were swapped there, that of those
abbrev pub shown_records : Shown → List ℕ
shown_records shown = frame_records (frame_shown shown ∷ []) ++ lists_records (lists_shown (shown ∷ []))

-- what is written of a run's frames and lists, by what there was before it and what it put out: all of them, the last frame and then the last lists,
-- or none. Where it makes no frame whole the one before it is the last, and so it is with lists
abbrev pub kept_records : Keep → Latest → List Shown → List ℕ
kept_records All before outs = flat_map shown_records outs
kept_records Last before outs = latest_records (latest_after before outs)
kept_records Nothing before outs = []

-- what is written of them while the run puts them out
abbrev pub shown_while : Keep → List Shown → List ℕ
shown_while All outs = flat_map shown_records outs
shown_while Last outs = []
shown_while Nothing outs = []

-- what comes after them
abbrev pub last_records : (until turns : ℕ) → Ending MachineState LeftOut → List ℕ
last_records until turns (At s) = concat (memory_record s ++ end_record until turns s)
last_records until turns (Stopped left) = concat (stop_record left)

-- what a run to a tick writes, by how many turns counted
abbrev pub output_of : (until turns : ℕ) → Keep → Latest → Ending MachineState LeftOut → List Shown → List ℕ
output_of until turns keep before end outs = kept_records keep before outs ++ last_records until turns end
