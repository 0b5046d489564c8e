use Rattle.video2d.proofs.Words.{Bool, ScanState, ScansFollow, ap, arith, either_by, false, if◌then◌else◌, nat_le, refl, scan_after, scan_before}
use Rattle.video2d.proofs.Words.{scan_due, true, ℕ, ◌%◌, ◌*◌, ◌+◌, ◌-◌, ◌/◌, ◌<◌, ◌==◌, ◌∙◌, ◌≡◌, ◌≤◌}

-- Where the display is at each tick.

-- the scan into which a tick falls
abbrev pub scan_of : ℕ → ScanState
scan_of n = record { frame = n / 1120380; line = n % 1120380 / 4260; blanked = nat_le 3212 (n % 1120380 % 4260) }

pub line_small : (n : ℕ) → n % 1120380 / 4260 ≤ 262
line_small n = omega arith

scan_is : (n f l q : ℕ) → l ≤ 262 → q < 4260 → n ≡ 1120380 * f + 4260 * l + q
    → scan_of n ≡ record { frame = f; line = l; blanked = nat_le 3212 q }
scan_is n f l q le lt e =
    let frame : n / 1120380 ≡ f = omega (arith, le, lt, e) in
    let line : n % 1120380 / 4260 ≡ l = omega (arith, le, lt, e) in
    let rest : n % 1120380 % 4260 ≡ q = omega (arith, le, lt, e) in
    rw (frame, line, rest) refl

-- a tick is in its scan until the next event is due
waits_by : (at later f l q : ℕ) (b : Bool) → nat_le 3212 q ≡ b → l ≤ 262 → q < 4260 → at - 1 ≡ 1120380 * f + 4260 * l + q → at ≤ later
    → later ≤ 1120380 * f + 4260 * l + (if b then 4260 else 3212) → scan_of (later - 1) ≡ record { frame = f; line = l; blanked = b }
waits_by at later f l q true h le lt e from to =
    let past : 3212 ≤ q = grind (arith, h) in
    let r = (later - 1) - (1120380 * f + 4260 * l) in
    let small : r < 4260 = omega (arith, e, from, to) in
    let still : nat_le 3212 r ≡ true = (let le : 3212 ≤ r = omega (arith, e, from, to, past) in grind (arith, le)) in
    scan_is (later - 1) f l r le small (omega (arith, e, from, to))
    ∙ ap (λ (b : Bool). (let s : ScanState = record { frame = f; line = l; blanked = b } in s)) still
waits_by at later f l q false h le lt e from to =
    let before : q < 3212 = grind (arith, h) in
    let r = (later - 1) - (1120380 * f + 4260 * l) in
    let few : r < 3212 = omega (arith, e, from, to, before) in
    let still : nat_le 3212 r ≡ false = grind (arith, few) in
    scan_is (later - 1) f l r le (omega (arith, few)) (omega (arith, e, from, to))
    ∙ ap (λ (b : Bool). (let s : ScanState = record { frame = f; line = l; blanked = b } in s)) still

waits : (at later : ℕ) → at ≤ later → later ≤ scan_due (scan_before at) → scan_before later ≡ scan_before at
waits at later from to =
    waits_by at later ((at - 1) / 1120380) ((at - 1) % 1120380 / 4260) ((at - 1) % 1120380 % 4260) (nat_le 3212 ((at - 1) % 1120380 % 4260)) refl
    (line_small (at - 1)) (omega arith) (omega arith) from to

-- and the event leads on
event_by : (f l : ℕ) (b : Bool) → l ≤ 262
    → scan_of (1120380 * f + 4260 * l + (if b then 4260 else 3212)) ≡ scan_after (record { frame = f; line = l; blanked = b })
event_by f l false le = scan_is _ f l 3212 le (omega arith) refl
event_by f l true le =
    either_by (λ (s : ScanState). scan_of (1120380 * f + 4260 * l + 4260) ≡ s) (l == 262)
    (record { frame = f + 1; line = 0; blanked = false }) (record { frame = f; line = l + 1; blanked = false }) last next
    ∙ same (l == 262) where
      last : (l == 262) ≡ true → scan_of (1120380 * f + 4260 * l + 4260) ≡ record { frame = f + 1; line = 0; blanked = false }
      last h = (let is : l ≡ 262 = grind (arith, h) in scan_is _ (f + 1) 0 0 (omega arith) (omega arith) (omega (arith, is)))

      next : (l == 262) ≡ false → scan_of (1120380 * f + 4260 * l + 4260) ≡ record { frame = f; line = l + 1; blanked = false }
      next h = (let few : l < 262 = grind (arith, h, le) in scan_is _ f (l + 1) 0 (omega (arith, few)) (omega arith) (omega arith))

      same : (b : Bool)
          → ◌≡◌ {A = ScanState} (if b then (record { frame = f + 1; line = 0; blanked = false }) else (record { frame = f; line = l + 1; blanked = false }))
          (record { frame = if b then f + 1 else f; line = if b then 0 else l + 1; blanked = false })
      same true = refl
      same false = refl

event : (at : ℕ) → scan_before (scan_due (scan_before at) + 1) ≡ scan_after (scan_before at)
event at =
    let s = scan_before at in
    let e : scan_due s + 1 - 1 ≡ scan_due s = omega arith in
    ap scan_of e ∙ event_by s.frame s.line s.blanked (line_small (at - 1))

due_by : (at f l q : ℕ) (b : Bool) → nat_le 3212 q ≡ b → q < 4260 → at - 1 ≡ 1120380 * f + 4260 * l + q
    → (at ≤ 1120380 * f + 4260 * l + (if b then 4260 else 3212)) × (1120380 * f + 4260 * l + (if b then 4260 else 3212) ≤ at + 3212)
due_by at f l q true h lt e = (let past : 3212 ≤ q = grind (arith, h) in (omega (arith, lt, e), omega (arith, e, past)))
due_by at f l q false h lt e = (let before : q < 3212 = grind (arith, h) in (omega (arith, e, before), omega (arith, e)))

due : (at : ℕ) → (at ≤ scan_due (scan_before at)) × (scan_due (scan_before at) ≤ at + 3212)
due at =
    due_by at ((at - 1) / 1120380) ((at - 1) % 1120380 / 4260) ((at - 1) % 1120380 % 4260) (nat_le 3212 ((at - 1) % 1120380 % 4260)) refl
    (omega arith) (omega arith)

pub scans_follow : ScansFollow
scans_follow = record { boot = refl; due = due; waits = waits; event = event }
