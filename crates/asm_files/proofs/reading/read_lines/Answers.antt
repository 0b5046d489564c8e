use Rattle.asm_files.proofs.Words.{List, Path, [], ap, arith, drop, drop-drop, first_place, length, length-drop, length-take, piece_bytes, refl}
use Rattle.asm_files.proofs.Words.{subst, sym, tail, take, take_rest, whole_lines, ℕ, ◌++◌, ◌+◌, ◌-◌, ◌∙◌, ◌∷◌, ◌≡◌, ◌≢◌, ◌≤◌}
use Rattle.asm_files.proofs.LoopLaws.{stops, ends, whole, goes_on, next_of, kept_on}
use Rattle.asm_files.proofs.reading.read_lines.Goals as goal

pub returns-in_default-read_line-clause-bad : goal.returns-in_default-read_line-clause-bad
returns-in_default-read_line-clause-bad c =
    let i = c.loop-end.invariant in
    let lines = rw (take_rest c.loop-end.text c.loop-end.pos) at c.in-Some.ensures.lines in
    let k : c.loop-end.pos + c.in-Some.end - c.loop-end.pos ≡ c.in-Some.end = omega arith in
    let never = rw k at c.in_default-read_line.ensures.none in
    (c.loop-end.count, refl, stops _ _ _ _ c.loop-end.count _ c.loop-end.place c.statement_laws.ensures _ _ _ (omega arith) i.path (sym i.lines ∙ lines) never)

pub returns-then-pos-text-clause-bad : goal.returns-then-pos-text-clause-bad
returns-then-pos-text-clause-bad c =
    let i = c.loop-end.invariant in
    let none = rw (take_rest c.loop-end.text c.loop-end.pos) at c.in_default.ensures.none in
    let all = rw (take_rest c.loop-end.text c.loop-end.pos) at c.in_default.ensures.all in
    let t : tail (drop c.args.from c.args.text.now) ≢ [] = λ e. absurd (let d = ap length (sym all ∙ i.end ∙ e) in omega (arith, d, length-drop c.loop-end.pos c.loop-end.text)) in
    (c.loop-end.count, refl, ends _ _ _ _ c.loop-end.count _ c.loop-end.place _ i.path i.some (sym i.lines ∙ none) t)

pub returns-else-pos-text-clause-ok : goal.returns-else-pos-text-clause-ok
returns-else-pos-text-clause-ok c =
    let i = c.loop-end.invariant in
    let none = rw (take_rest c.loop-end.text c.loop-end.pos) at c.in_default.ensures.none in
    whole _ _ _ _ c.loop-end.count _ c.loop-end.place i.path (sym i.lines ∙ none)

pub loop-end-preserved : goal.loop-end-preserved
loop-end-preserved c =
    let i = c.loop-end.invariant in
    let text = c.loop-end.text in
    let pos = c.loop-end.pos in
    let end = c.in-Some.end in
    let n = c.loop-end.n in
    let bytes = piece_bytes c.in-Some-read_line.piece in
    let ls = whole_lines (drop c.args.from c.args.text.now) in
    let line : List ℕ = take end (drop pos text) in
    let k : pos + end - pos ≡ end = omega arith in
    let lines = rw (take_rest text pos) at c.in-Some.ensures.lines in
    let tails = rw (take_rest text pos) at c.in-Some.ensures.tail in
    let within = rw (take_rest text pos) at c.in-Some.ensures.within in
    let found = rw k at c.in-Some-read_line.ensures.found in
    let short = rw k at c.in-Some-read_line.ensures.short in
    let long : length line ≤ end = omega (arith, length-take end (drop pos text)) in
    let inside : pos + (end + 1) ≤ length text = omega (arith, within, length-drop pos text) in
    let at : n + length bytes ≤ pos + (end + 1) = omega (arith, short, long) in
    let kept : drop (pos + (end + 1)) c.put-n.new.text ≡ drop (pos + (end + 1)) text = c.put-n.ensures.rest (pos + (end + 1)) (omega (arith, at, c.put-n.ensures.at)) in
    let first : drop c.loop-end.count ls ≡ line ∷ whole_lines (drop (end + 1) (drop pos text)) = sym i.lines ∙ lines in
    let next = next_of ls c.loop-end.count line (whole_lines (drop (end + 1) (drop pos text))) first in
    let after : drop (end + 1) (drop pos text) ≡ drop (pos + (end + 1)) c.put-n.new.text = drop-drop (end + 1) pos text ∙ sym kept in
    let path : Path c.args.arch c.args.set (first_place c.args.start) (take (c.loop-end.count + 1) ls) (take n text ++ bytes) c.in-Some-read_line.next = goes_on _ _ _ _ c.loop-end.count _ c.loop-end.place line _ bytes c.in-Some-read_line.next i.path first found in
    let P : List ℕ → Type 0 = λ x. Path c.args.arch c.args.set (first_place c.args.start) (take (c.loop-end.count + 1) ls) x c.in-Some-read_line.next in
    record {
      same = omega (arith, c.put-n.auto.text);
      before = omega (arith, at, c.put-n.ensures.at);
      within = omega (arith, inside, c.put-n.auto.text);
      kept = kept_on c.args.text.now text c.put-n.new.text pos (end + 1) i.kept kept;
      lines = ap whole_lines (sym after) ∙ sym next.dropped;
      end = ap tail (sym after) ∙ sym tails ∙ i.end;
      few = omega arith;
      some = omega (arith, next.within);
      path = subst P (sym c.put-n.ensures.front) path;
    }
