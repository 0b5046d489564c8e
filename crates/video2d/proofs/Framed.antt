use Rattle.video2d.proofs.Words.{ScanState, Some, arith, false, framed_by, scan_after, scan_due_tick, starts_vblank, true, ◌≡◌}

-- The last whole frame's tick goes on by the event that makes one whole, and by no other.

pub made_whole : (s : ScanState) → starts_vblank s ≡ true → framed_by (scan_after s) ≡ Some (scan_due_tick s)
made_whole s h = grind (arith, h)

pub stays_whole : (s : ScanState) → starts_vblank s ≡ false → framed_by (scan_after s) ≡ framed_by s
stays_whole s h = grind (arith, h)
