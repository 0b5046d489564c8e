use Rattle.std.proofs.Common.{ℕ, ◌≡◌, ◌<◌, ◌*◌, ◌^◌, count_ones, sym, subst}
use Rattle.ds_base.specs.Numbers.{aligned_down}
use Rattle.ds_base.specs.declared.memories.Width.TheVariants.{Word}
use Rattle.arm_core.specs.Registers.{register}
use Rattle.arm_core.specs.Addressing.{list_bytes, lowest}
use Rattle.arm_core.specs.Multiples.{multiple_meaning, transferred}
use Rattle.arm_core.specs.FootprintLaws.{AreAsTold, GoesOver, touched_bytes}
use Rattle.arm_core.specs.Footprints.{span}
use Rattle.arm_core.specs.declared.touches.Reach.{Reach}
use Rattle.arm_core.proofs.Data.{multiple_data, multiple_told}
use Rattle.arm_core.proofs.Footprints.{multiple_over}
use Rattle.arm_core.proofs.touches.list_reach.Goals as goal

pub returns-clause-over : goal.returns-clause-over
returns-clause-over c =
    let a = c.args in
    let h : touched_bytes c.words_touch.result
    ≡ span (aligned_down Word (lowest a.pre a.up (register a.s.now a.rn) (list_bytes a.list))) (4 * count_ones (transferred a.arch a.list)) =
    cc (c.words_touch.ensures.bytes, c.lowest-at.ensures, c.get.ensures, c.list_bytes.ensures.bytes, c.transferred.ensures) in
    λ user write_back.
    subst (λ (r : Reach). GoesOver r.touch (multiple_meaning a.arch a.s.now a.pre a.up user write_back a.load a.rn a.list).accesses) (sym c.by_kind.ensures)
    (multiple_over a.arch a.s.now a.pre a.up user write_back a.load a.rn a.list c.words_touch.result c.ranges.list.fits h)

pub returns-clause-told : goal.returns-clause-told
returns-clause-told c =
    let a = c.args in
    λ user write_back.
    subst (λ (r : Reach). AreAsTold r.reads r.writes (multiple_meaning a.arch a.s.now a.pre a.up user write_back a.load a.rn a.list).accesses) (sym c.by_kind.ensures)
    (multiple_told a.arch a.s.now a.pre a.up user write_back a.load a.rn a.list)

pub returns-clause-words : goal.returns-clause-words
returns-clause-words c =
    let a = c.args in
    let e : c.lowest-at.result ≡ lowest a.pre a.up (register a.s.now a.rn) (list_bytes a.list) =
    cc (c.lowest-at.ensures, c.get.ensures, c.list_bytes.ensures.bytes) in
    λ user write_back. multiple_data a.arch a.s.now a.pre a.up user write_back a.load a.rn a.list (subst (λ (n : ℕ). n < 2 ^ 32) e c.lowest-at.type_inv)
