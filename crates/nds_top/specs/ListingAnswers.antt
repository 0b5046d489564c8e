use Rattle.std.specs.Prelude.{ℕ, ◌≡◌, ◌⊎◌, List, Option, None}
use Rattle.ds_base.specs.Processors.{architecture_of}
use Rattle.ds_base.specs.declared.processors.Proc.{Proc}
use Rattle.ds_header.specs.Fields.{image_of, image_place}
use Rattle.ds_io.specs.Shelves.{Named}
use Rattle.asm_text.specs.declared.sets.Set.{Set}
use Rattle.asm_files.specs.Listings.{listing, IsListing, IsFirstBad}
use Rattle.nds_answers.specs.declared.statuses.Status.{Status}
use Rattle.nds_answers.specs.declared.statuses.Status.TheVariants.{BadText}
use Rattle.nds_plays.specs.Calls.{Call, IsUntouched, Written}
use Rattle.nds_answers.specs.Loads.{IsCart, IsFileRead, Refuses, RefusesCart, most_text}

-- When each answer to `list` and to `asm` comes, and what it leaves. Want of memory is free.

-- the listing of a processor's image in a cartridge's file, by the processor's architecture and from the image's address on
abbrev pub listing_of : List ℕ → Proc → Set → List ℕ
listing_of file proc set = listing (architecture_of proc) set (image_place file proc) (image_of file proc)

-- when each answer to `list` comes: the listing was written; or the cartridge is refused, and nothing was done
abbrev pub ListGives : Call → List ℕ → Proc → Set → Status → Type 0
ListGives c name proc set status =
    ((file : List ℕ) × IsCart c.files name file × Written c status (listing_of file proc set) × (c.seat ≡ None))
    ⊎ (IsUntouched c × RefusesCart c.files c.shelf_rose name status)

-- when each refusal of a listing's file comes: the text is no listing, and this is its first bad line; or the file is refused
abbrev pub RefusesListing : Option (List Named) → Type 0 → List ℕ → Status → Type 0
RefusesListing files rose name (BadText line) = (text : List ℕ) × IsFileRead files name most_text text × IsFirstBad text line
RefusesListing files rose name other = Refuses files rose name most_text other

-- when each answer to `asm` comes: the text is a listing, and the image was written whose listing it is; or it is refused, and nothing was done
abbrev pub AsmGives : Call → List ℕ → Status → Type 0
AsmGives c name status =
    ((text : List ℕ) × (image : List ℕ) × IsFileRead c.files name most_text text × IsListing text image × Written c status image × (c.seat ≡ None))
    ⊎ (IsUntouched c × RefusesListing c.files c.shelf_rose name status)
