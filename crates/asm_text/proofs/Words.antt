-- The words of lower crates and of this one that its proofs speak in, from one place.
pub use Rattle.std.proofs.Common.{Bool, List, None, Option, Some, [], ap, append_assoc, arith, bit_and, false, inl, inr, length, refl, subst, suc}
pub use Rattle.std.proofs.Common.{sym, true, zero, ℕ, ◌%◌, ◌*◌, ◌++◌, ◌+◌, ◌-◌, ◌/◌, ◌<◌, ◌^◌, ◌∙◌, ◌∷◌, ◌≡◌, ◌≢◌, ◌≤◌, ◌⊎◌}
pub use Rattle.std.proofs.lemmas.List.{append-nil}
pub use Rattle.std.specs.Prelude.{codes, drop, if◌then◌else◌, nat_le, nat_lt, not, slice_index, ◌&&◌, ◌==◌}
pub use Rattle.arm_words.proofs.Digits.{arm, unconditional}
pub use Rattle.arm_words.proofs.Halves.{thumb}
pub use Rattle.arm_words.proofs.Masks.{masked, part, under}
pub use Rattle.arm_words.proofs.Names.{flag_again}
pub use Rattle.arm_words.proofs.Stages.{Kind}
pub use Rattle.arm_words.specs.ArmTable.{branch_rows, coprocessor_rows, data_rows, double_rows, half_multiply_rows, half_product_rows}
pub use Rattle.arm_words.specs.ArmTable.{half_transfer_rows, immediate_status_rows, multiple_rows, multiply_rows, status_register_rows, transfer_rows}
pub use Rattle.arm_words.specs.ArmTable.{unconditional_rows}
pub use Rattle.arm_words.specs.Canonical.{canonical, canonical_form, if_canonical, immediate, same_spelling, turned_back}
pub use Rattle.arm_words.specs.Fields.{HasFields, HasShortOffset}
pub use Rattle.arm_words.specs.Rows.{InstructionRow}
pub use Rattle.arm_words.specs.Spellings.{IsInRange, decoded, spelled}
pub use Rattle.arm_words.specs.ThumbTable.{thumb_branch_rows, thumb_literal_rows, thumb_multiple_rows, thumb_offset_rows, thumb_register_rows}
pub use Rattle.arm_words.specs.ThumbTable.{thumb_stack_rows, thumb_sum_rows}
pub use Rattle.arm_words.specs.declared.instructions.Instr.{Instr}
pub use Rattle.arm_words.specs.declared.instructions.Instr.TheVariants.{Bkpt, BlxRegister, BlxTarget, Branch, Bx, Clz, Compare, Coprocessor, Data}
pub use Rattle.arm_words.specs.declared.instructions.Instr.TheVariants.{DoubleTransfer, HalfTransfer, LongMultiply, Mla, Move, Mrs, Msr, MsrImmediate}
pub use Rattle.arm_words.specs.declared.instructions.Instr.TheVariants.{Mul, Multiple, Never, Pld, Saturating, Smla, Smlal, Smlaw, Smul, Smulw, Swap}
pub use Rattle.arm_words.specs.declared.instructions.Instr.TheVariants.{Swi, ThumbAddSub, ThumbAddress, ThumbAdjustStack, ThumbBkpt, ThumbBlPrefix}
pub use Rattle.arm_words.specs.declared.instructions.Instr.TheVariants.{ThumbBlSuffix, ThumbBlxRegister, ThumbBlxSuffix, ThumbBranch, ThumbBranchIf}
pub use Rattle.arm_words.specs.declared.instructions.Instr.TheVariants.{ThumbBx, ThumbData, ThumbHalfOffset, ThumbHigh, ThumbImmediate}
pub use Rattle.arm_words.specs.declared.instructions.Instr.TheVariants.{ThumbImmediateOffset, ThumbLoadLiteral, ThumbMultiple, ThumbPushPop}
pub use Rattle.arm_words.specs.declared.instructions.Instr.TheVariants.{ThumbRegisterOffset, ThumbShift, ThumbStackOffset, ThumbSwi, Transfer}
pub use Rattle.arm_words.specs.declared.operations.CompareOp.{CompareOp}
pub use Rattle.arm_words.specs.declared.operations.DataOp.{DataOp}
pub use Rattle.arm_words.specs.declared.operations.HalfOp.{HalfOp}
pub use Rattle.arm_words.specs.declared.operations.HighOp.{HighOp}
pub use Rattle.arm_words.specs.declared.operations.MoveOp.{MoveOp}
pub use Rattle.arm_words.specs.declared.operations.ThumbDataOp.{ThumbDataOp}
pub use Rattle.arm_words.specs.declared.operations.ThumbImmediateOp.{ThumbImmediateOp}
pub use Rattle.arm_words.specs.declared.operations.ThumbTransferOp.{ThumbTransferOp}
pub use Rattle.arm_words.specs.declared.parts.Condition.{Condition}
pub use Rattle.arm_words.specs.declared.parts.Condition.TheVariants.{Al}
pub use Rattle.arm_words.specs.declared.parts.FieldMask.{FieldMask}
pub use Rattle.arm_words.specs.declared.parts.Offset.{Offset}
pub use Rattle.arm_words.specs.declared.parts.Offset.TheVariants.{Number, Register}
pub use Rattle.arm_words.specs.declared.parts.Operand.{Operand}
pub use Rattle.arm_words.specs.declared.parts.Operand.TheVariants.{Immediate, Shifted, ShiftedByRegister}
pub use Rattle.arm_words.specs.declared.parts.Shift.{Shift}
pub use Rattle.arm_words.specs.declared.parts.Shift.TheVariants.{Lsl}
pub use Rattle.arm_words.specs.declared.parts.ShortOffset.{ShortOffset}
pub use Rattle.arm_words.specs.declared.parts.ShortOffset.TheVariants.{ShortNumber, ShortRegister}
pub use Rattle.arm_words.specs.declared.parts.ThumbOperand.{ThumbOperand}
pub use Rattle.arm_words.specs.declared.parts.ThumbOperand.TheVariants.{LowRegister, Small}
pub use Rattle.arm_words.specs.declared.spellings.Spelling.{Spelling}
pub use Rattle.arm_words.specs.declared.spellings.Spelling.TheVariants.{Half, Word}
pub use Rattle.ds_base.proofs.Choices.{both, equal, lt_of, true_or_false}
pub use Rattle.ds_base.specs.Digits.{hex_digit, hex_digits}
pub use Rattle.ds_base.specs.Texts.{HasNoFeed}
pub use Rattle.ds_base.specs.declared.processors.Arch.{Arch}
pub use Rattle.asm_text.specs.Addresses.{arm_target, half_target, thumb_target}
pub use Rattle.asm_text.specs.Canonical.{unread_of}
pub use Rattle.asm_text.specs.Listed.{listed, raw, spelling, stated}
pub use Rattle.asm_text.specs.Names.{block_mode, compare_name, data_name, field_letters, half_letter, half_name, high_name, load_name, long_name}
pub use Rattle.asm_text.specs.Names.{move_name, saturating_name, shift_name, status_name, suffix, thumb_data_name, transfer_name}
pub use Rattle.asm_text.specs.Operands.{address, amount_shown, at_offset, offset, operand, shifted, short_offset}
unfoldable pub use Rattle.asm_text.specs.Reader.ArmRows.{arm_row}
pub use Rattle.asm_text.specs.Reader.Candidates.{candidate}
pub use Rattle.asm_text.specs.Reader.Names.{IsStem, lookup, name}
unfoldable pub use Rattle.asm_text.specs.Reader.Names.{named_stem, read}
pub use Rattle.asm_text.specs.Reader.Parts.{members_from, numeral, one_at, register_at, rotation_from}
unfoldable pub use Rattle.asm_text.specs.Reader.Parts.{address_at, hex_at, marked_at, operand_at, registers_at, rotation_of}
pub use Rattle.asm_text.specs.Reader.Starts.{arch_at, listed_byte_at, set_at, start_address_at}
pub use Rattle.asm_text.specs.Reader.ThumbRows.{shift_named}
pub use Rattle.asm_text.specs.Starts.{raw_byte, start}
pub use Rattle.asm_text.specs.Statements.{on, statement, thumb_amount}
pub use Rattle.asm_text.specs.Text.{decimal, hex, joined, number, preceded, register_list, register_name, register_names, trimmed, where_set}
unfoldable pub use Rattle.asm_text.specs.Text.{members}
pub use Rattle.asm_text.specs.declared.reading.arm_stems.TheConstants.{ARM_STEMS}
pub use Rattle.asm_text.specs.declared.reading.names.Stem.TheVariants.{Raw, Row}
pub use Rattle.asm_text.specs.declared.reading.parts.Address.{Address}
pub use Rattle.asm_text.specs.declared.reading.thumb_stems.TheConstants.{THUMB_STEMS}
pub use Rattle.asm_text.specs.declared.sets.Set.{Set}
pub use Rattle.asm_text.specs.declared.sets.Set.TheVariants.{Arm, Thumb}
