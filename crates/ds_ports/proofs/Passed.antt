use Rattle.ds_ports.proofs.Words.{Bool, CardState, DividerState, DmaNine, DmaState, GxState, IoState, IrqNine, IrqState, List, Nine, Proc, Register}
use Rattle.ds_ports.proofs.Words.{Released, RootState, Seven, Tick, TimerState, UnitPart, VideoState, Width, [], after_write, among, ap, beyond}
use Rattle.ds_ports.proofs.Words.{changes_some, false, if◌then◌else◌, io_graft, is_part, meaning_of, not, not_false, port_read, port_written, refl}
use Rattle.ds_ports.proofs.Words.{sym, touch_of, touches_none, true, true≢false, ℕ, ◌&&◌, ◌++◌, ◌∙◌, ◌∷◌, ◌≡◌}
use Rattle.ds_ipc.specs.Sides.{Side}
use Rattle.ds_base.proofs.Parted.{Apart, Within, blind_stays, changes_by, fewer, inside, not_there}
use Rattle.ds_base.specs.Deeds.{Changes, Done, Parted, pick}
use Rattle.ds_ports.proofs.Covered.{Covers, Of, Passes, ReadTheSame, covers_all, read_leaves, write_leaves}
use Rattle.ds_ports.proofs.Touched as touched
use Rattle.ds_ports.specs.Touches.{Display, VideoMemory, BankControls, WramControl, IpcNine, IpcSeven, Pressed, Fill, Card, Division, SquareRoot, Geometry, IrqSeven, TimersNine, TimersSeven, KeycntNine, KeycntSeven, HaltNine, HaltSeven, DmaSeven, none_of}
use Rattle.ds_ports.proofs.Touched.{read_parts, unchanged, untouched}

-- The units behind the ports have parts; what a register doesn't touch, an access of it passes.

abbrev pub Field : UnitPart → Type 0
Field Display = VideoState
Field VideoMemory = List ℕ
Field BankControls = List ℕ
Field IpcNine = Side
Field IpcSeven = Side
Field Fill = List ℕ
Field Division = DividerState
Field SquareRoot = RootState
Field Geometry = GxState
Field IrqNine = IrqState
Field IrqSeven = IrqState
Field TimersNine = List TimerState
Field TimersSeven = List TimerState
Field HaltNine = Bool
Field HaltSeven = Bool
Field DmaNine = DmaState
Field DmaSeven = DmaState
Field Card = CardState
Field _ = ℕ

abbrev pub io_get : IoState → (p : UnitPart) → Field p
io_get s Display = s.video
io_get s VideoMemory = s.vram.bytes
io_get s BankControls = s.vram.controls
io_get s WramControl = s.wramcnt
io_get s IpcNine = s.ipc.nine
io_get s IpcSeven = s.ipc.seven
io_get s Pressed = s.pressed
io_get s Fill = s.fill
io_get s Card = s.card
io_get s Division = s.divider
io_get s SquareRoot = s.root
io_get s Geometry = s.gx
io_get s Released = s.released
io_get s IrqNine = s.nine.irq
io_get s IrqSeven = s.seven.irq
io_get s TimersNine = s.nine.timers
io_get s TimersSeven = s.seven.timers
io_get s KeycntNine = s.nine.keycnt
io_get s KeycntSeven = s.seven.keycnt
io_get s HaltNine = s.nine.halted
io_get s HaltSeven = s.seven.halted
io_get s DmaNine = s.nine.dma
io_get s DmaSeven = s.seven.dma

pub io_got : (P : UnitPart → Bool) (t s : IoState) (p : UnitPart) → io_get (io_graft P t s) p ≡ pick (P p) (io_get t p) (io_get s p)
io_got P t s Display = refl
io_got P t s _ = refl

pub io_whole : (s t : IoState) → ((p : UnitPart) → io_get s p ≡ io_get t p) → s ≡ t
io_whole s t h = λ i. record {
  video = h Display i;
  vram = record { bytes = h VideoMemory i; controls = h BankControls i };
  wramcnt = h WramControl i;
  ipc = record { nine = h IpcNine i; seven = h IpcSeven i };
  pressed = h Pressed i;
  fill = h Fill i;
  card = h Card i;
  divider = h Division i;
  root = h SquareRoot i;
  gx = h Geometry i;
  released = h Released i;
  nine = record { irq = h IrqNine i; timers = h TimersNine i; keycnt = h KeycntNine i; halted = h HaltNine i; dma = h DmaNine i };
  seven = record { irq = h IrqSeven i; timers = h TimersSeven i; keycnt = h KeycntSeven i; halted = h HaltSeven i; dma = h DmaSeven i };
}

abbrev pub units : Parted Field IoState
units = record { size = λ s. 0; get = io_get; graft = io_graft; sized = λ P t s e. refl; got = λ P t s e. io_got P t s; whole = λ s t e. io_whole s t }

-- ---- what a register doesn't touch, it passes

one_part : (Q : UnitPart → Bool) (p i : UnitPart) → is_part p i ≡ true → Q p ≡ Q i
one_part Q Display Display h = refl
one_part Q VideoMemory VideoMemory h = refl
one_part Q BankControls BankControls h = refl
one_part Q WramControl WramControl h = refl
one_part Q IpcNine IpcNine h = refl
one_part Q IpcSeven IpcSeven h = refl
one_part Q Pressed Pressed h = refl
one_part Q Fill Fill h = refl
one_part Q Card Card h = refl
one_part Q Division Division h = refl
one_part Q SquareRoot SquareRoot h = refl
one_part Q Geometry Geometry h = refl
one_part Q Released Released h = refl
one_part Q IrqNine IrqNine h = refl
one_part Q IrqSeven IrqSeven h = refl
one_part Q TimersNine TimersNine h = refl
one_part Q TimersSeven TimersSeven h = refl
one_part Q KeycntNine KeycntNine h = refl
one_part Q KeycntSeven KeycntSeven h = refl
one_part Q HaltNine HaltNine h = refl
one_part Q HaltSeven HaltSeven h = refl
one_part Q DmaNine DmaNine h = refl
one_part Q DmaSeven DmaSeven h = refl
one_part Q _ _ h = absurd (true≢false (sym h))

pub none_apart : (P : UnitPart → Bool) (ps : List UnitPart) → none_of P ps ≡ true → Apart P (among ps)
none_apart P [] h i e = refl
none_apart P (p ∷ ps) h i e = by_it (P p) (is_part p i) h (λ same. one_part P p i same ∙ e) (λ rest. none_apart P ps rest i e) where
  by_it : (q b : Bool) → (if q then false else none_of P ps) ≡ true → (b ≡ true → q ≡ true) → (none_of P ps ≡ true → among ps i ≡ false) → (if b then true else among ps i) ≡ false
  by_it true b h f g = absurd (true≢false (sym h))
  by_it false true h f g = absurd (true≢false (sym (f refl)))
  by_it false false h f g = g h

-- (what isn't in a list is beyond it, and the other way round)
beyond_so : (b : Bool) → b ≡ false → (if b then false else true) ≡ true
beyond_so b h = ap (λ (x : Bool). if x then false else true) h

not_in : (b : Bool) → (if b then false else true) ≡ true → b ≡ false
not_in true h = absurd (true≢false (sym h))
not_in false h = refl

-- so it passes them, from any other units
module _ (P : UnitPart → Bool) (t : IoState) (proc : Proc) where
  abbrev parts_of : Register → List UnitPart
  parts_of r = (touch_of proc r).shows ++ (touch_of proc r).changes

  module _ (r : Register) (h : touches_none P proc r ≡ true) where
    within : Within P (untouched proc r)
    within i e = beyond_so (among (parts_of r) i) (none_apart P (parts_of r) h i e)

    leaves_so : (f : IoState → IoState) (u : IoState) → ((t : IoState) → f (io_graft (untouched proc r) t u) ≡ io_graft (untouched proc r) t (f u)) → f (io_graft P t u) ≡ io_graft P t (f u)
    leaves_so f u row =
        let deed : IoState → Done Bool IoState = λ x. record { gave = true; left = f x } in
        ap (λ (d : Done Bool IoState). d.left)
        (fewer units (untouched proc r) P deed u within refl (λ x e. ap (λ (y : IoState). (let d : Done Bool IoState = record { gave = true; left = y } in d)) (row x)) t refl)

    tells_so : {V : Type 0} (f : IoState → V) (u : IoState) → ((t : IoState) → f (io_graft (untouched proc r) t u) ≡ f u) → f (io_graft P t u) ≡ f u
    tells_so {V} f u row = ap f (sym (inside units (untouched proc r) P t u refl within)) ∙ row (io_graft P t u)

  pub passes : Passes (touches_none P proc) proc (io_graft P t)
  passes = record {
    kept = λ u r n h. tells_so r h (λ x. (meaning_of r).kept proc x n) u (λ x. touched.kept x u (record { 0 = 0 }) n 0 proc r);
    refusal = λ u r n word h. tells_so r h (λ x. (meaning_of r).refusal proc x n word) u (λ x. touched.refusal x u (record { 0 = 0 }) n word proc r);
    after_read = λ now u r h. leaves_so r h (λ x. (meaning_of r).after_read proc now x) u (λ x. touched.after_read x u now 0 0 proc r);
    written = λ now u r n word h. leaves_so r h (λ x. after_write proc now x r n word) u (λ x. touched.written x u now n word proc r);
  }

  pub reads : (now : Tick) (u : IoState) → ReadTheSame (touches_none P proc) proc now u (io_graft P t u)
  reads now u r n h = tells_so r h (λ x. (meaning_of r).value proc now x n) u (λ x. touched.value x u now n 0 proc r)

-- ---- what a register doesn't change, an access leaves

module _ (proc : Proc) (now : Tick) (u : IoState) (r : Register) (n word : ℕ) where
  pub row_changes : Changes units (among (touch_of proc r).changes) u (after_write proc now u r n word)
  row_changes = changes_by units (among (touch_of proc r).changes) u (after_write proc now u r n word) refl (touched.left u now n word proc r)

  -- what depends on some parts alone stays where none of them is changed
  pub stays_by_row : {V : Type 0} (parts : List UnitPart) (v : IoState → V) → ((t x : IoState) → v (io_graft (beyond parts) t x) ≡ v x) → changes_some (among parts) proc r ≡ false
      → v (after_write proc now u r n word) ≡ v u
  stays_by_row {V} parts v blind h =
      let apart = none_apart (among parts) (touch_of proc r).changes (not_false (none_of (among parts) (touch_of proc r).changes) h) in
      blind_stays units (among (touch_of proc r).changes) (beyond parts) u (after_write proc now u r n word) v row_changes
      (λ i e. beyond_so (among parts i) (not_there (among parts) (among (touch_of proc r).changes) i apart e)) (λ t. blind t u)

-- (the first is false where it doesn't hold without the second, and that is false)
pub first_false : (a b : Bool) → (a && not b) ≡ false → b ≡ false → a ≡ false
first_false true b h k = sym (ap not k) ∙ h
first_false false b h k = refl

-- a register leaves a part
abbrev pub keeps_part : UnitPart → Proc → Register → Bool
keeps_part p proc r = unchanged proc r p

module _ (p : UnitPart) (proc : Proc) where
  pub row_leaves : (now : Tick) (u : IoState) (r : Register) (n word : ℕ) → keeps_part p proc r ≡ true → io_get (after_write proc now u r n word) p ≡ io_get u p
  row_leaves now u r n word h = (row_changes proc now u r n word).others p (not_in (among (touch_of proc r).changes p) h)

  pub write_left : (now : Tick) (u : IoState) (at : ℕ) (width : Width) (value : ℕ) → Covers (keeps_part p proc) proc at width → io_get (port_written proc now u at width value) p ≡ io_get u p
  write_left now u at width value h =
      write_leaves (Of (keeps_part p proc)) proc now (λ x y. io_get y p ≡ io_get x p) (λ x. refl) (λ x y z k l. l ∙ k) (λ x slot word k. row_leaves now x slot.register slot.number word k) u at width value h

  read_row : (now : Tick) (u : IoState) (r : Register) → among read_parts p ≡ false → io_get ((meaning_of r).after_read proc now u) p ≡ io_get u p
  read_row now u r h = (changes_by units (among read_parts) u ((meaning_of r).after_read proc now u) refl (touched.read_left u now 0 0 proc r)).others p h

-- and a read leaves all but the card and what passes between the processors
abbrev pub any_register : Register → Bool
any_register r = true

pub any_covered : (proc : Proc) (at : ℕ) (width : Width) → Covers any_register proc at width
any_covered Nine at width = covers_all any_register Nine at width refl
any_covered Seven at width = covers_all any_register Seven at width refl

pub read_left : (p : UnitPart) (proc : Proc) (now : Tick) (u : IoState) (at : ℕ) (width : Width) → among read_parts p ≡ false
    → io_get (port_read proc now u at width) p ≡ io_get u p
read_left p proc now u at width h =
    read_leaves any_register proc now (λ x y. io_get y p ≡ io_get x p) (λ x. refl) (λ x r k. read_row p proc now x r h) u at width (any_covered proc at width)
