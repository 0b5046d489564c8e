use Rattle.asm_text.proofs.Words.{◌≡◌, refl, Instr, Never, Bx, BlxRegister, Bkpt, Clz, Saturating, Smla, Smlaw, Smulw, Smlal, Smul, Mul, Mla}
use Rattle.asm_text.proofs.Words.{LongMultiply, Swap, HalfTransfer, Mrs, Msr, Compare, Move, Data, DoubleTransfer, Transfer, Multiple, Branch}
use Rattle.asm_text.proofs.Words.{Coprocessor, Swi, Pld, arm_row}
use Rattle.asm_text.proofs.reading.arm_rows.arm_row.Goals as goal

pub returns-in_default-clause-row : goal.returns-in_default-clause-row
unfolding arm_row
returns-in_default-clause-row c =
    let t = c.args.template in
    let d = c.in_default in
    (elim t as (λ (i : Instr). t ≡ i → Never 0 ≡ arm_row c.args.at i c.args.cond c.args.text.now) [
      | Bx a b ↦ λ e. absurd (d.not-Bx a b e)
      | BlxRegister a b ↦ λ e. absurd (d.not-BlxRegister a b e)
      | Bkpt a ↦ λ e. absurd (d.not-Bkpt a e)
      | Clz a b c ↦ λ e. absurd (d.not-Clz a b c e)
      | Saturating a b c f g h ↦ λ e. absurd (d.not-Saturating a b c f g h e)
      | Smla a b c f g h i ↦ λ e. absurd (d.not-Smla a b c f g h i e)
      | Smlaw a b c f g h ↦ λ e. absurd (d.not-Smlaw a b c f g h e)
      | Smulw a b c f g ↦ λ e. absurd (d.not-Smulw a b c f g e)
      | Smlal a b c f g h i ↦ λ e. absurd (d.not-Smlal a b c f g h i e)
      | Smul a b c f g h ↦ λ e. absurd (d.not-Smul a b c f g h e)
      | Mul a b c f g ↦ λ e. absurd (d.not-Mul a b c f g e)
      | Mla a b c f g h ↦ λ e. absurd (d.not-Mla a b c f g h e)
      | LongMultiply a b c f g h i j ↦ λ e. absurd (d.not-LongMultiply a b c f g h i j e)
      | Swap a b c f g ↦ λ e. absurd (d.not-Swap a b c f g e)
      | HalfTransfer a b c f g h i j ↦ λ e. absurd (d.not-HalfTransfer a b c f g h i j e)
      | Mrs a b c ↦ λ e. absurd (d.not-Mrs a b c e)
      | Msr a b c f ↦ λ e. absurd (d.not-Msr a b c f e)
      | Compare a b c f ↦ λ e. absurd (d.not-Compare a b c f e)
      | Move a b c f g ↦ λ e. absurd (d.not-Move a b c f g e)
      | Data a b c f g h ↦ λ e. absurd (d.not-Data a b c f g h e)
      | DoubleTransfer a b c f g h i j ↦ λ e. absurd (d.not-DoubleTransfer a b c f g h i j e)
      | Transfer a b c f g h i j k ↦ λ e. absurd (d.not-Transfer a b c f g h i j k e)
      | Multiple a b c f g h i j ↦ λ e. absurd (d.not-Multiple a b c f g h i j e)
      | Branch a b c ↦ λ e. absurd (d.not-Branch a b c e)
      | Coprocessor a b c f g h i j ↦ λ e. absurd (d.not-Coprocessor a b c f g h i j e)
      | Swi a b ↦ λ e. absurd (d.not-Swi a b e)
      | Pld a b c ↦ λ e. absurd (d.not-Pld a b c e)
      | _ ↦ λ e. refl
    ]) refl
