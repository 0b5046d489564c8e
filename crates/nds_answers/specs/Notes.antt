use Rattle.std.specs.Prelude.{ℕ, Bool, List, [], ◌∷◌, ◌++◌, Result, codes}
use Rattle.std.specs.List.{concat}
use Rattle.std.specs.Fmt.{decimal}
use Rattle.ds_base.specs.Digits.{hex_digits}
use Rattle.ds_base.specs.declared.left_out.LeftOut.{LeftOut}
use Rattle.ds_base.specs.declared.left_out.LeftKind.{LeftKind}
use Rattle.ds_base.specs.declared.left_out.LeftKind.TheVariants.{NotYet, Swi, BigEndian, HaltMode, DmaStart, CardTransfer, DisplayMode, BgMode, Capture, Mosaic, ExtendedBackground, BitmapObject}
use Rattle.ds_header.specs.declared.faults.HeaderFault.{HeaderFault}
use Rattle.ds_header.specs.declared.faults.HeaderField.{HeaderField}
use Rattle.ds_header.specs.declared.faults.HeaderField.TheVariants.{Short, UnitCode, Arm9Rom, Arm9Place, Arm9Entry, Arm7Rom, Arm7Place, Arm7Entry}
use Rattle.ds_io.specs.declared.faults.Failed.{Failed}
use Rattle.ds_io.specs.Puts.{Puts}
use Rattle.nds_answers.specs.declared.statuses.Status as status
use Rattle.nds_answers.specs.declared.statuses.Status.TheVariants as statuses

-- The line that tells a status to a person (our choice). VALUE and V are eight hexadecimal digits after `0x`.

abbrev pub line_feed : List ℕ
line_feed = 10 ∷ []

abbrev pub field_word : HeaderField → List ℕ
field_word Short = codes "Short"
field_word UnitCode = codes "UnitCode"
field_word Arm9Rom = codes "Arm9Rom"
field_word Arm9Place = codes "Arm9Place"
field_word Arm9Entry = codes "Arm9Entry"
field_word Arm7Rom = codes "Arm7Rom"
field_word Arm7Place = codes "Arm7Place"
field_word Arm7Entry = codes "Arm7Entry"

abbrev pub kind_word : LeftKind → List ℕ
kind_word NotYet = codes "NotYet"
kind_word Swi = codes "Swi"
kind_word BigEndian = codes "BigEndian"
kind_word HaltMode = codes "HaltMode"
kind_word DmaStart = codes "DmaStart"
kind_word CardTransfer = codes "CardTransfer"
kind_word DisplayMode = codes "DisplayMode"
kind_word BgMode = codes "BgMode"
kind_word Capture = codes "Capture"
kind_word Mosaic = codes "Mosaic"
kind_word ExtendedBackground = codes "ExtendedBackground"
kind_word BitmapObject = codes "BitmapObject"

-- `bad header: FIELD VALUE`
abbrev pub header_line : HeaderFault → List ℕ
header_line fault = concat (codes "bad header: " ∷ field_word fault.field ∷ codes " 0x" ∷ hex_digits 8 fault.value ∷ line_feed ∷ [])

-- `bad script: line L column C`
abbrev pub script_line : ℕ → ℕ → List ℕ
script_line line column = concat (codes "bad script: line " ∷ decimal line ∷ codes " column " ∷ decimal column ∷ line_feed ∷ [])

-- `left out: KIND tick T actor R value V`
abbrev pub stop_line : LeftOut → List ℕ
stop_line left = concat (codes "left out: " ∷ kind_word left.kind ∷ codes " tick " ∷ decimal left.tick.0 ∷ codes " actor " ∷ decimal left.rank
    ∷ codes " value 0x" ∷ hex_digits 8 left.value ∷ line_feed ∷ [])

-- `bad text: line L`
abbrev pub text_line : ℕ → List ℕ
text_line line = concat (codes "bad text: line " ∷ decimal line ∷ line_feed ∷ [])

-- `bad state: offset N`
abbrev pub state_line : ℕ → List ℕ
state_line offset = concat (codes "bad state: offset " ∷ decimal offset ∷ line_feed ∷ [])

-- the line of a status, with the name of the file that it speaks of
abbrev pub note_of : status.Status → List ℕ → List ℕ
note_of statuses.Done name = []
note_of statuses.Usage name = codes "usage: nds run|list|asm|trace|peek|demo|save|resume" ++ line_feed
note_of statuses.NoFile name = concat (codes "no file: " ∷ name ∷ line_feed ∷ [])
note_of statuses.ReadFault name = concat (codes "read fault: " ∷ name ∷ line_feed ∷ [])
note_of statuses.WriteFault name = codes "write fault" ++ line_feed
note_of statuses.TooLong name = concat (codes "too long: " ∷ name ∷ line_feed ∷ [])
note_of (statuses.BadHeader fault) name = header_line fault
note_of (statuses.BadScript line column) name = script_line line column
note_of (statuses.LeftOut left) name = stop_line left
note_of (statuses.BadText line) name = text_line line
note_of (statuses.BadState offset) name = state_line offset
note_of statuses.NoMemory name = codes "out of memory" ++ line_feed

-- a sink was to take a line: it took it, or a front of it where its count of faults rose
pub data Noted {S : Type 0} (tells : S → Bool) (taken : S → List ℕ → Type 0) (faults : S → ℕ) (line : List ℕ) (before after : S) : Type 0 where
  noted : (written : Result (Unit {0}) Failed) → Puts tells taken faults line written before after → Noted tells taken faults line before after
