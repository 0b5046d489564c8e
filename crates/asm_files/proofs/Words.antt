-- The words of lower crates and of this one that its proofs speak in, from one place.
pub use Rattle.std.proofs.Common.{Bool, List, [], ap, append_assoc, arith, drop, false, get_or, inl, inr, length, length-drop, length-take, map, refl}
pub use Rattle.std.proofs.Common.{subst, suc, sym, take, true, zero, ℕ, ◌%◌, ◌++◌, ◌+◌, ◌-◌, ◌/◌, ◌<◌, ◌^◌, ◌∙◌, ◌∷◌, ◌≡◌, ◌≢◌, ◌≤◌, ◌⊎◌}
pub use Rattle.std.proofs.lemmas.List.{append-nil, drop-drop, take-append-drop, take-take, take_all, take_rest}
pub use Rattle.std.proofs.lemmas.Result.{err_from_is_err_and}
pub use Rattle.arm_words.specs.declared.spellings.Spelling.TheVariants.{Half, Word}
pub use Rattle.asm_text.proofs.StartLaws.{byte_plain, one_byte, one_start, start_plain}
pub use Rattle.asm_text.specs.Listed.{listed, number_in, spelling}
pub use Rattle.asm_text.specs.Starts.{raw_byte, start}
pub use Rattle.asm_text.specs.StatementLaws.{StatementLaws}
pub use Rattle.asm_text.specs.declared.sets.Set.{Set}
pub use Rattle.asm_text.specs.declared.sets.Set.TheVariants.{Arm, Thumb}
pub use Rattle.ds_base.specs.Texts.{HasNoFeed, text_of}
pub use Rattle.ds_base.specs.declared.processors.Arch.{Arch}
pub use Rattle.asm_files.specs.Listings.{AllBytes, IsFirstBad, IsFront, IsListing, arm_lines, half_from, lines_in, lines_of, listing, listing_lines}
pub use Rattle.asm_files.specs.Listings.{tail, tail_in, thumb_lines, whole_lines, word_from}
pub use Rattle.asm_files.specs.Reader.Lines.{EndsAt, HasPath, IsByteLine, IsStatement, Leads, Path, first_place, piece_bytes, size}
unfoldable pub use Rattle.asm_files.specs.Reader.Lines.{spelling_bytes}
pub use Rattle.asm_files.specs.Writer.Pages.{Passed, Passing}
pub use Rattle.asm_files.specs.declared.places.LinePlace.{LinePlace}
