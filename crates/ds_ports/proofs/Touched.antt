use Rattle.ds_ports.proofs.Words.{Bool, Haltcnt, Ie, IoState, Keycnt, Keys, List, Nine, Proc, ProcessorIoState, Register, Seven, Tick, UnitPart}
use Rattle.ds_ports.proofs.Words.{after_write, beyond, bits, false, if◌then◌else◌, interrupt_bit, io_graft, io_of, kept_keycnt, keys_hold, meaning_of}
use Rattle.ds_ports.proofs.Words.{processor_io_raised, refl, touch_of, true, with_io_of, ℕ, ◌%◌, ◌++◌, ◌==◌, ◌^◌, ◌∷◌, ◌≡◌}
use Rattle.ds_ports.specs.Touches.{Card, both_sides}

-- Each row of the table of what registers touch is true: by computing, but for two that choose all that a processor has of its own.

-- it doesn't depend on other parts
abbrev pub untouched : Proc → Register → UnitPart → Bool
untouched proc r = beyond ((touch_of proc r).shows ++ (touch_of proc r).changes)

module _ (t u : IoState) (now : Tick) (n word : ℕ) where
  -- the two that choose what a processor has by more than a part: by cases
  abbrev key_set : Proc → Bool → IoState → IoState
  key_set proc b v = with_io_of proc v (let own : ProcessorIoState = record (io_of v proc) { keycnt = kept_keycnt (word % 2 ^ 16) } in if b then processor_io_raised own (interrupt_bit Keys) else own)

  key_row : (proc : Proc) (b : Bool) → key_set proc b (io_graft (untouched proc Keycnt) t u) ≡ io_graft (untouched proc Keycnt) t (key_set proc b u)
  key_row Nine true = refl
  key_row Nine false = refl
  key_row Seven true = refl
  key_row Seven false = refl

  abbrev halt_set : Proc → Bool → IoState → IoState
  halt_set proc b v = with_io_of proc v (if b then record (io_of v proc) { halted = true } else io_of v proc)

  halt_row : (proc : Proc) (b : Bool) → halt_set proc b (io_graft (untouched proc Haltcnt) t u) ≡ io_graft (untouched proc Haltcnt) t (halt_set proc b u)
  halt_row Nine true = refl
  halt_row Nine false = refl
  halt_row Seven true = refl
  halt_row Seven false = refl

  pub written : (proc : Proc) (r : Register) → after_write proc now (io_graft (untouched proc r) t u) r n word ≡ io_graft (untouched proc r) t (after_write proc now u r n word)
  written Nine Keycnt = key_row Nine (keys_hold (kept_keycnt (word % 2 ^ 16)) u.pressed)
  written Seven Keycnt = key_row Seven (keys_hold (kept_keycnt (word % 2 ^ 16)) u.pressed)
  written Nine Haltcnt = halt_row Nine (bits 6 2 (word % 2 ^ 8) == 2)
  written Seven Haltcnt = halt_row Seven (bits 6 2 (word % 2 ^ 8) == 2)
  written Nine _ = refl
  written Seven _ = refl

  pub value : (proc : Proc) (r : Register) → (meaning_of r).value proc now (io_graft (untouched proc r) t u) n ≡ (meaning_of r).value proc now u n
  value Nine Ie = refl
  value Seven Ie = refl
  value Nine _ = refl
  value Seven _ = refl

  pub kept : (proc : Proc) (r : Register) → (meaning_of r).kept proc (io_graft (untouched proc r) t u) n ≡ (meaning_of r).kept proc u n
  kept Nine Ie = refl
  kept Seven Ie = refl
  kept Nine _ = refl
  kept Seven _ = refl

  pub refusal : (proc : Proc) (r : Register) → (meaning_of r).refusal proc (io_graft (untouched proc r) t u) n word ≡ (meaning_of r).refusal proc u n word
  refusal Nine Ie = refl
  refusal Seven Ie = refl
  refusal Nine _ = refl
  refusal Seven _ = refl

  pub after_read : (proc : Proc) (r : Register)
      → (meaning_of r).after_read proc now (io_graft (untouched proc r) t u) ≡ io_graft (untouched proc r) t ((meaning_of r).after_read proc now u)
  after_read Nine Ie = refl
  after_read Seven Ie = refl
  after_read Nine _ = refl
  after_read Seven _ = refl

abbrev pub read_parts : List UnitPart
read_parts = Card ∷ both_sides

-- and it changes no more
abbrev pub unchanged : Proc → Register → UnitPart → Bool
unchanged proc r = beyond (touch_of proc r).changes

module _ (u : IoState) (now : Tick) (n word : ℕ) where
  key_left : (proc : Proc) (b : Bool) → io_graft (unchanged proc Keycnt) u (key_set u u now n word proc b u) ≡ key_set u u now n word proc b u
  key_left Nine true = refl
  key_left Nine false = refl
  key_left Seven true = refl
  key_left Seven false = refl

  halt_left : (proc : Proc) (b : Bool) → io_graft (unchanged proc Haltcnt) u (halt_set u u now n word proc b u) ≡ halt_set u u now n word proc b u
  halt_left Nine true = refl
  halt_left Nine false = refl
  halt_left Seven true = refl
  halt_left Seven false = refl

  pub left : (proc : Proc) (r : Register) → io_graft (unchanged proc r) u (after_write proc now u r n word) ≡ after_write proc now u r n word
  left Nine Keycnt = key_left Nine (keys_hold (kept_keycnt (word % 2 ^ 16)) u.pressed)
  left Seven Keycnt = key_left Seven (keys_hold (kept_keycnt (word % 2 ^ 16)) u.pressed)
  left Nine Haltcnt = halt_left Nine (bits 6 2 (word % 2 ^ 8) == 2)
  left Seven Haltcnt = halt_left Seven (bits 6 2 (word % 2 ^ 8) == 2)
  left Nine _ = refl
  left Seven _ = refl

  -- a read changes nothing but the card and what passes between the processors
  pub read_left : (proc : Proc) (r : Register) → io_graft (beyond read_parts) u ((meaning_of r).after_read proc now u) ≡ (meaning_of r).after_read proc now u
  read_left Nine Ie = refl
  read_left Seven Ie = refl
  read_left Nine _ = refl
  read_left Seven _ = refl
