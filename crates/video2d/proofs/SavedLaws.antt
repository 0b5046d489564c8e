use Rattle.video2d.proofs.Words.{A, AllByRecursion, B, Bool, Dispstat, Engine, EngineState, IsColour, IsDispstat, IsEngine, IsExact, IsFrame, IsPoint}
use Rattle.video2d.proofs.Words.{IsSavedVideo, Keeps, Left, List, Ok, PointState, ScanState, StandsFor, VideoIsSaved, [], and_le_r, and_mask, ap}
use Rattle.video2d.proofs.Words.{arith, bit, bit_and, display_row, equal, false, flag, frame_format, frame_pixels, is_equal, kept_twice, length, made}
use Rattle.video2d.proofs.Words.{pixel_format, point_format, read_format, refl, rules, scan_before, slice_index, status_bits, status_of_bits, subst}
use Rattle.video2d.proofs.Words.{suc, sym, true, video_format, zero, ℕ, ◌%◌, ◌*◌, ◌+◌, ◌-◌, ◌/◌, ◌<◌, ◌==◌, ◌^◌, ◌∙◌, ◌∷◌, ◌≡◌, ◌≤◌}
use Rattle.video2d.specs.Statuses.{StatusState, status_word}
use Rattle.video2d.specs.Videos.{VideoState}
use Rattle.std.specs.Cmp.{booleans_Decides}
use Rattle.ds_state.proofs.Exact.{one_spelling, reads_exactly, round_trips}
use Rattle.ds_state.proofs.Masks.{kept_top}
use Rattle.video2d.proofs.SavedKept.{ports_kept}
use Rattle.video2d.proofs.SavedPorts.{ArePorts, ports_exact, ports_stand}
use Rattle.video2d.proofs.SavedScans.{line_small, scans_follow}

-- What the display owes of its format.

-- ---- DISPSTAT

-- its bits by two masks: those that are used, and those that are kept
used_bits : (w : ℕ) → bit_and w status_bits ≡ w / 128 % 512 * 128 + w % 64
used_bits w = kept_top w 7 9 0x3F (omega arith) ∙ ap (λ (n : ℕ). w / 128 % 512 * 128 + n) (and_mask w 6)

kept_bits : (w : ℕ) → bit_and w (display_row Dispstat).kept ≡ w / 128 % 512 * 128 + w / 8 % 8 * 8
kept_bits w =
    kept_top w 7 9 0x38 (omega arith)
    ∙ ap (λ (n : ℕ). w / 128 % 512 * 128 + n) (kept_top w 3 3 0 (omega arith) ∙ (let le = and_le_r w 0 in omega (arith, le)))

flag_of_bit : (at n : ℕ) → n < 2 → flag at (n == 1) ≡ 2 ^ at * n
flag_of_bit at zero lt = omega arith
flag_of_bit at (suc zero) lt = omega arith
flag_of_bit at (suc (suc n)) lt = absurd (omega (arith, lt))

word_of_parts : (w kept : ℕ) → w ≡ w / 128 % 512 * 128 + w % 64 → kept ≡ w / 128 % 512 * 128 + w / 8 % 8 * 8
    → 1 * (w / 1 % 2) + 2 * (w / 2 % 2) + 4 * (w / 4 % 2) + 8 * (kept / 8 % 8192) ≡ w
word_of_parts w kept used is =
    let top : kept / 8 % 8192 ≡ w / 128 % 512 * 16 + w / 8 % 8 = omega (arith, is) in
    omega (arith, used, top)

status_again : (w : ℕ) → (bit_and w status_bits == w) ≡ true → status_word (status_of_bits w) ≡ w
status_again w rule =
    let used = sym (equal _ _ rule) ∙ used_bits w in
    let kept = kept_bits w in
    let a = flag_of_bit 0 (w / 1 % 2) (omega arith) in let b = flag_of_bit 1 (w / 2 % 2) (omega arith) in
    let c = flag_of_bit 2 (w / 4 % 2) (omega arith) in
    rw (a, b, c) (word_of_parts w (bit_and w (display_row Dispstat).kept) used kept)

record Flags (a b c : Bool) (n : ℕ) : Type 0 where
  first : bit 0 (flag 0 a + flag 1 b + flag 2 c + 8 * n) ≡ a
  second : bit 1 (flag 0 a + flag 1 b + flag 2 c + 8 * n) ≡ b
  third : bit 2 (flag 0 a + flag 1 b + flag 2 c + 8 * n) ≡ c
  rest : (flag 0 a + flag 1 b + flag 2 c + 8 * n) / 8 ≡ n

flags : (a b c : Bool) (n : ℕ) → Flags a b c n
flags false false false n = record { first = grind arith; second = grind arith; third = grind arith; rest = omega arith }
flags false false true n = record { first = grind arith; second = grind arith; third = grind arith; rest = omega arith }
flags false true false n = record { first = grind arith; second = grind arith; third = grind arith; rest = omega arith }
flags false true true n = record { first = grind arith; second = grind arith; third = grind arith; rest = omega arith }
flags true false false n = record { first = grind arith; second = grind arith; third = grind arith; rest = omega arith }
flags true false true n = record { first = grind arith; second = grind arith; third = grind arith; rest = omega arith }
flags true true false n = record { first = grind arith; second = grind arith; third = grind arith; rest = omega arith }
flags true true true n = record { first = grind arith; second = grind arith; third = grind arith; rest = omega arith }

record StatusStands (s : StatusState) : Type 0 where
  fits : status_word s < 2 ^ 16
  rule : (bit_and (status_word s) status_bits == status_word s) ≡ true
  again : status_of_bits (status_word s) ≡ s

status_stands : (s : StatusState) → IsDispstat s → StatusStands s
status_stands s is =
    let k = s.kept in
    let w = status_word s in
    let f = flags s.vblank s.hblank s.vcount (k / 8 % 8192) in
    let own : k ≡ k / 128 % 512 * 128 + k / 8 % 8 * 8 = sym is.kept ∙ kept_bits k in
    let rest = f.rest in
    let small : w < 2 ^ 16 = omega (arith, rest) in
    let used : w / 128 % 512 * 128 + w % 64 ≡ w = (let whole : w ≡ w / 8 * 8 + w % 8 = omega arith in omega (arith, rest, own, whole, small)) in
    let kept : w / 128 % 512 * 128 + w / 8 % 8 * 8 ≡ k = omega (arith, rest, own) in
    record {
      fits = small;
      rule = is_equal _ _ (used_bits w ∙ used);
      again =
          ap (λ (n : ℕ). (let t : StatusState = record { kept = n; vblank = bit 0 w; hblank = bit 1 w; vcount = bit 2 w } in t)) (kept_bits w ∙ kept)
          ∙ ap (λ (b : Bool). (let t : StatusState = record { kept = k; vblank = b; hblank = bit 1 w; vcount = bit 2 w } in t)) f.first
          ∙ ap (λ (b : Bool). (let t : StatusState = record { kept = k; vblank = s.vblank; hblank = b; vcount = bit 2 w } in t)) f.second
          ∙ ap (λ (b : Bool). (let t : StatusState = record { kept = k; vblank = s.vblank; hblank = s.hblank; vcount = b } in t)) f.third;
    }

-- ---- points and frames

point_exact : (at : ℕ) → IsExact point_format at
unfolding point_format
point_exact at = λ x _ _ y _ _. search rules

point_stands : (at : ℕ) (p : PointState) → IsPoint p → StandsFor point_format at p
unfolding point_format
point_stands at p is = let x = is.x in let y = is.y in (search rules, refl)

pixel_exact : (at : ℕ) → IsExact pixel_format at
pixel_exact at = λ pixel _ _. (refl, tt)

frame_exact : (at : ℕ) → IsExact frame_format at
unfolding frame_format
frame_exact at = (pixel_exact at, λ pixels long _. (refl, tt))

pixels_stand : (at : ℕ) (pixels : List ℕ) → AllByRecursion IsColour pixels → AllByRecursion (StandsFor pixel_format at) pixels
pixels_stand at [] all = tt
pixels_stand at (pixel ∷ pixels) all =
    let small = all.0 in (((omega (arith, small), grind (arith, small), tt), refl), pixels_stand at pixels all.1)

so_many : (pixels : List ℕ) → length pixels ≡ 98304 → length pixels ≡ frame_pixels
unfolding frame_pixels
so_many pixels long = long

frame_stands : (at : ℕ) (pixels : List ℕ) → IsFrame pixels → StandsFor frame_format at pixels
unfolding frame_format
frame_stands at pixels is = ((so_many pixels is.long, pixels_stand at pixels is.colours, tt), refl)

-- ---- the whole

pub video_exact : (at : ℕ) → IsExact (video_format at) at
unfolding video_format
video_exact at = λ line _ is_line blanked _ is_phase nine _ is_nine seven _ is_seven. (
  ports_exact A at,
  λ ports_of_a _. (
    ports_exact B at,
    λ ports_of_b _ power _ _. (
      point_exact at,
      λ two_of_a _. (
        point_exact at,
        λ three_of_a _. (
          point_exact at,
          λ two_of_b _. (
            point_exact at,
            λ three_of_b _. (
              frame_exact at,
              λ drawn _. (
                frame_exact at,
                λ whole _.
                    let a : (scan_before at).line ≡ line = sym (equal line _ is_line) in
                    let b : (scan_before at).blanked ≡ blanked = sym ((booleans_Decides blanked (scan_before at).blanked).0 is_phase) in
                    let c = status_again nine is_nine in
                    let d = status_again seven is_seven in
                    search rules,
              ),
            ),
          ),
        ),
      ),
    ),
  ),
)

ports_are : (which : Engine) (e : EngineState) → IsEngine which e → ArePorts which e.ports
ports_are which e is = record { long = is.long; kept = is.kept }

pub video_stands : (at : ℕ) (v : VideoState) → IsSavedVideo at v → StandsFor (video_format at) at v
unfolding video_format
video_stands at v saved =
    let is = saved.is in
    let scan = saved.scan in
    let line : (v.scan.line == (scan_before at).line) ≡ true = is_equal _ _ (ap (λ (s : ScanState). s.line) scan) in
    let le = is.line in
    let small : v.scan.line < 256 ^ 2 = omega (arith, le) in
    let phase = (booleans_Decides v.scan.blanked (scan_before at).blanked).1 (ap (λ (s : ScanState). s.blanked) scan) in
    let nine = status_stands v.nine is.nine in
    let seven = status_stands v.seven is.seven in
    let nine_fits = nine.fits in let nine_rule = nine.rule in let seven_fits = seven.fits in let seven_rule = seven.rule in
    let nine_again = nine.again in let seven_again = seven.again in
    let ports_of_a = ports_stand A at v.a.ports (ports_are A v.a is.a) in
    let ports_of_b = ports_stand B at v.b.ports (ports_are B v.b is.b) in
    let power = is.power in
    let two_of_a = point_stands at v.a.two is.a.two in
    let three_of_a = point_stands at v.a.three is.a.three in
    let two_of_b = point_stands at v.b.two is.b.two in
    let three_of_b = point_stands at v.b.three is.b.three in
    let drawn = frame_stands at v.drawn is.drawn in
    let whole = frame_stands at v.whole is.whole in
    (search rules, rw (nine_again, seven_again, ← scan) refl)

-- ---- what is read is a display at that tick

-- what is made of DISPSTAT's bits has those that are kept
status_kept : (s : StatusState) (w : ℕ) → status_of_bits w ≡ s → IsDispstat s
status_kept s w e = record {
  kept = subst (λ (k : ℕ). bit_and k (display_row Dispstat).kept ≡ k) (ap (λ (t : StatusState). t.kept) e) (kept_twice w (display_row Dispstat).kept);
}

point_kept : (at : ℕ) (p : PointState) → Keeps point_format at p → IsPoint p
unfolding point_format
point_kept at p keeps = (let x = keeps.0 in let y = keeps.2.0 in record { x = omega (arith, x); y = omega (arith, y) })

colours_kept : (at : ℕ) (pixels : List ℕ) → AllByRecursion (StandsFor pixel_format at) pixels → AllByRecursion IsColour pixels
colours_kept at [] all = tt
colours_kept at (pixel ∷ pixels) all = (let rule = all.0.0.1 in grind (arith, rule), colours_kept at pixels all.1)

all_pixels : (pixels : List ℕ) → length pixels ≡ frame_pixels → length pixels ≡ 98304
unfolding frame_pixels
all_pixels pixels long = long

frame_kept : (at : ℕ) (pixels : List ℕ) → Keeps frame_format at pixels → IsFrame pixels
unfolding frame_format
frame_kept at pixels keeps = record { long = all_pixels pixels keeps.0; colours = colours_kept at pixels keeps.1 }

engine_kept : (which : Engine) (e : EngineState) → ArePorts which e.ports → IsPoint e.two → IsPoint e.three → IsEngine which e
engine_kept which e are two three = record { long = are.long; kept = are.kept; two = two; three = three }

video_kept : (at : ℕ) (v : VideoState) → Keeps (video_format at) at v → made (video_format at) v ≡ v → IsSavedVideo at v
unfolding video_format
video_kept at v keeps again =
    let scan : scan_before at ≡ v.scan = ap (λ (x : VideoState). x.scan) again in
    let le = line_small (at - 1) in
    let line : v.scan.line ≤ 262 = subst (λ (s : ScanState). s.line ≤ 262) scan le in
    let ports = keeps.2.2.2.2 in
    let power = ports.1.1 in
    let points = power.2 in
    let frames = points.1.1.1.1 in
    let small = power.0 in
    record {
      is = record {
        line = line;
        nine = status_kept v.nine (status_word v.nine) (ap (λ (x : VideoState). x.nine) again);
        seven = status_kept v.seven (status_word v.seven) (ap (λ (x : VideoState). x.seven) again);
        a =
            engine_kept A v.a (ports_kept A at v.a.ports ports.0.0 ports.0.1) (point_kept at v.a.two points.0.0)
            (point_kept at v.a.three points.1.0.0);
        b =
            engine_kept B v.b (ports_kept B at v.b.ports ports.1.0.0 ports.1.0.1) (point_kept at v.b.two points.1.1.0.0)
            (point_kept at v.b.three points.1.1.1.0.0);
        power = omega (arith, small);
        drawn = frame_kept at v.drawn frames.0.0;
        whole = frame_kept at v.whole frames.1.0.0;
      };
      scan = sym scan;
    }

accepted : (at place : ℕ) (bytes : List ℕ) (v : VideoState) (left : Left) → ((i : ℕ) → slice_index bytes i < 256)
    → read_format (video_format at) at (record { place = place; bytes = bytes }) ≡ Ok (v, left) → IsSavedVideo at v
accepted at place bytes v left are read =
    let was = (reads_exactly (λ (x : VideoState). x) (video_format at) at (λ (x : VideoState). Unit {0}) (record { place = place; bytes = bytes })
    (v, left) (video_exact at) are read).0 in
    video_kept at v was.keeps was.again

pub video_saved : VideoIsSaved
video_saved = record {
  follow = scans_follow;
  back = λ at v saved. round_trips (video_format at) at v (video_stands at v saved);
  spelling = λ at. one_spelling (video_format at) at (video_exact at);
  accepted = accepted;
}
