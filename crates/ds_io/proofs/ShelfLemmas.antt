use Rattle.std.proofs.Common.{ℕ, ◌≡◌, ◌≤◌, ◌<◌, ◌+◌, ◌-◌, List, [], ◌++◌, length, take, drop, Option, Some, None, option_map, unwrap_or, arith, refl, sym, ◌∙◌, ap, subst, length-append, map, get_or, true, false, suc}
use Rattle.std.specs.String.{string_bytes}
use Rattle.ds_io.specs.Entries.{entry_file}
use Rattle.ds_io.specs.declared.files.Entry.{Entry}
use Rattle.std.specs.Str.{bytes_eq}
use Rattle.std.proofs.Math.Seq.{take-add, drop-cons}
use Rattle.std.proofs.Math.ListN.{length-map}
use Rattle.std.proofs.lemmas.List.{drop-drop, length-drop, length-take-le, take-append-le, take-take, drop_all, get_or-map}
use Rattle.std.proofs.lemmas.Option.{same_Some, none-some}
use Rattle.ds_io.specs.Shelves.{Named, Told, file_of, left_of, moved, Reads, TookSome}

-- these bytes were taken off the front of what was left
abbrev pub Took : Option Told → List ℕ → Option Told → Type 0
Took None bytes new = new ≡ None
Took (Some s) bytes new = (length bytes ≤ length (left_of s)) × (bytes ≡ take (length bytes) (left_of s)) × (new ≡ Some (moved s (length bytes)))

moved_by : (f : List Named) (l : Option (List ℕ)) (k n : ℕ) → option_map (drop n) (option_map (drop k) l) ≡ option_map (drop (k + n)) l
moved_by f None k n = refl
moved_by f (Some xs) k n = rw (drop-drop n k xs) refl

left_moved : (l : Option (List ℕ)) (k : ℕ) → unwrap_or (option_map (drop k) l) [] ≡ drop k (unwrap_or l [])
left_moved None k = sym (drop_all k [] (omega arith))
left_moved (Some xs) k = refl

-- the same where the shelf's place is known
more_at : (s : Told) (new : Option Told) (all into put : List ℕ) (n : ℕ) → length all ≤ length (left_of s) → all ≡ take (length all) (left_of s) →
    Reads (Some (moved s (length all))) into n put new → Took (Some s) (all ++ take n put) new
more_at s new all into put n within same second =
    let left = left_moved s.left (length all) in
    let room : n ≤ length (drop (length all) (left_of s)) = rw left at second.0 in
    let put_is : put ≡ take n (drop (length all) (left_of s)) ++ drop n into = rw left at second.1 in
    let long : length (take n (drop (length all) (left_of s))) ≡ n = length-take-le n (drop (length all) (left_of s)) room in
    let front : take n put ≡ take n (drop (length all) (left_of s)) =
    ap (take n) put_is ∙ take-append-le n (take n (drop (length all) (left_of s))) (drop n into) (omega (arith, long)) ∙ take-take n n (drop (length all) (left_of s)) (omega arith) in
    let long_put : length (take n put) ≡ n = ap length front ∙ long in
    let whole : length (all ++ take n put) ≡ length all + n = length-append all (take n put) ∙ ap (λ (x : ℕ). length all + x) long_put in
    let rest : length (drop (length all) (left_of s)) ≡ length (left_of s) - length all = length-drop (length all) (left_of s) in (
      rw whole (omega (arith, room, rest)),
      rw whole (ap (λ (x : List ℕ). x ++ take n put) same ∙ ap (λ (x : List ℕ). take (length all) (left_of s) ++ x) front ∙ sym (take-add (length all) n (left_of s))),
      rw whole (second.2 ∙ ap (λ (x : Option (List ℕ)). (let y : Option Told = Some (record s { left = x }) in y)) (moved_by s.files s.left (length all) n)),
    )

-- and then n bytes more
pub took_more : (old mid new : Option Told) (all into put : List ℕ) (n : ℕ) → Took old all mid → Reads mid into n put new → Took old (all ++ take n put) new
took_more None None new all into put n first second = second
took_more None (Some m) new all into put n first second = absurd (none-some m (sym first))
took_more (Some s) None new all into put n first second = absurd (none-some _ first.2)
took_more (Some s) (Some m) new all into put n first second =
    let P : Told → Type 0 = λ x. Reads (Some x) into n put new in
    more_at s new all into put n first.0 first.1 (subst P (same_Some m _ first.2) second)

-- an entry of another name is passed
pub file_skip : (es : List Entry) (i : ℕ) (name : List ℕ) (e : Entry) → i < length es → e ≡ get_or es i e → false ≡ bytes_eq (string_bytes e.name) name → file_of (drop (i + 1) (map entry_file es)) name ≡ file_of (drop i (map entry_file es)) name
file_skip es i name e h at miss =
    let long : length (map entry_file es) ≡ length es = length-map es entry_file in
    let is : get_or (map entry_file es) i (entry_file e) ≡ entry_file e = get_or-map entry_file es i e (entry_file e) h ∙ ap entry_file (sym at) in
    let next : suc i ≡ i + 1 = omega arith in
    let split = rw next at (drop-cons (map entry_file es) i (entry_file e) (omega (arith, long))) in
    rw (split, is, sym miss) refl

-- an entry of the name is the file, where none before has it
pub file_hit : (es : List Entry) (i : ℕ) (name : List ℕ) (e : Entry) (d : Named) → i < length es → e ≡ get_or es i e → true ≡ bytes_eq (string_bytes e.name) name → file_of (drop i (map entry_file es)) name ≡ Some (get_or (map entry_file es) i d).bytes
file_hit es i name e d h at hit =
    let long : length (map entry_file es) ≡ length es = length-map es entry_file in
    let is : get_or (map entry_file es) i d ≡ entry_file e = get_or-map entry_file es i e d h ∙ ap entry_file (sym at) in
    rw (drop-cons (map entry_file es) i d (omega (arith, long)), is, sym hit) refl

-- bytes that were taken are some that were left
pub took_some : (old new : Option Told) (bytes : List ℕ) (most : ℕ) → Took old bytes new → length bytes ≤ most → TookSome old most new
took_some None new bytes most took le = took
took_some (Some s) new bytes most took le = (length bytes, le, took.0, took.2)
