use Rattle.std.proofs.Common.{◌++◌, get_or, set, take, drop, sym, ◌∙◌, append_assoc, length-append, ℕ, ◌≡◌, ◌≤◌, ◌<◌, ◌+◌, List, [], ◌∷◌, length, refl, ap, arith}
use Rattle.std.specs.Simd.Lanes.{zip2}
use Rattle.std.proofs.Math.Seq.{take-add, take-append_seam, drop-append_seam}
use Rattle.std.proofs.lemmas.List.{length-take, drop-drop, take_more_set, take_more, drop-set-lt, drop_more}

-- the first `at` elements of a row are done, and the others are as they were
pub record Done (f : ℕ → ℕ → ℕ) (at : ℕ) (old next now : List ℕ) : Type 0 where
  pub front : take at now ≡ zip2 f (take at old) (take at next)
  pub rest : drop at now ≡ drop at old

zip2-append : (f : ℕ → ℕ → ℕ) (xs ys xs' ys' : List ℕ) → length xs ≡ length ys → zip2 f (xs ++ xs') (ys ++ ys') ≡ zip2 f xs ys ++ zip2 f xs' ys'
zip2-append f [] [] xs' ys' h = refl
zip2-append f [] (y ∷ ys) xs' ys' h = absurd (omega (arith, h))
zip2-append f (x ∷ xs) [] xs' ys' h = absurd (omega (arith, h))
zip2-append f (x ∷ xs) (y ∷ ys) xs' ys' h = rw (zip2-append f xs ys xs' ys' (omega (arith, h))) refl

module _ (f : ℕ → ℕ → ℕ) (old next now : List ℕ) (at : ℕ) (long : length old ≡ length next) (same : length now ≡ length old) (done : Done f at old next now) where
  -- a block of k elements more is done
  pub done_block : (new : List ℕ) (k : ℕ) → at + k ≤ length now → length new ≡ k → new ≡ zip2 f (take k (drop at now)) (take k (drop at next)) →
      Done f (at + k) old next (take at now ++ (new ++ drop k (drop at now)))
  done_block new k room ln is =
      let both : length (take at now ++ new) ≡ at + k = simp (length-append, length-take) (omega arith) in
      let whole : take at now ++ (new ++ drop k (drop at now)) ≡ (take at now ++ new) ++ drop k (drop at now) = sym (append_assoc (take at now) new (drop k (drop at now))) in
      record {
        front =
            ap (take (at + k)) whole
            ∙ ap (λ (x : ℕ). take x ((take at now ++ new) ++ drop k (drop at now))) (sym both)
            ∙ take-append_seam (take at now ++ new) (drop k (drop at now))
            ∙ ap (λ (x : List ℕ). x ++ new) done.front
            ∙ ap (λ (x : List ℕ). zip2 f (take at old) (take at next) ++ x) (is ∙ ap (λ (x : List ℕ). zip2 f (take k x) (take k (drop at next))) done.rest)
            ∙ sym (zip2-append f (take at old) (take at next) (take k (drop at old)) (take k (drop at next)) (simp length-take (omega arith)))
            ∙ ap (λ (x : List ℕ). zip2 f x (take at next ++ take k (drop at next))) (sym (take-add at k old))
            ∙ ap (λ (x : List ℕ). zip2 f (take (at + k) old) x) (sym (take-add at k next));
        rest =
            ap (drop (at + k)) whole
            ∙ ap (λ (x : ℕ). drop x ((take at now ++ new) ++ drop k (drop at now))) (sym both)
            ∙ drop-append_seam (take at now ++ new) (drop k (drop at now))
            ∙ ap (drop k) done.rest
            ∙ drop-drop k at old;
      }

  -- one element more is done
  pub done_one : (v : ℕ) → at < length now → v ≡ f (get_or now at 0) (get_or next at 0) → Done f (at + 1) old next (set now at v)
  done_one v room is =
      let below : at < length old = omega arith in
      let a = drop_more now at 0 room in
      let b = drop_more old at 0 below in
      let here : get_or now at 0 ≡ get_or old at 0 = cc (a, b, done.rest) in
      let after : drop (at + 1) now ≡ drop (at + 1) old = cc (a, b, done.rest) in
      let value : v ≡ f (get_or old at 0) (get_or next at 0) = cc (is, here) in
      record {
        front =
            take_more_set now at v room
            ∙ ap (λ (x : List ℕ). x ++ v ∷ []) done.front
            ∙ ap (λ (x : ℕ). zip2 f (take at old) (take at next) ++ x ∷ []) value
            ∙ sym (zip2-append f (take at old) (take at next) (get_or old at 0 ∷ []) (get_or next at 0 ∷ []) (simp length-take (omega arith)))
            ∙ ap (λ (x : List ℕ). zip2 f x (take at next ++ get_or next at 0 ∷ [])) (sym (take_more old at 0 below))
            ∙ ap (λ (x : List ℕ). zip2 f (take (at + 1) old) x) (sym (take_more next at 0 (omega arith)));
        rest = drop-set-lt (at + 1) now at v (omega arith) ∙ after;
      }
