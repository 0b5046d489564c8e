use Rattle.gx_fifo.proofs.Words.{Bool, GxEntry, List, Some, [], ap, arith, cond, drop, false, length, list_any, nat_lt, none-some, refl, slice_get}
use Rattle.gx_fifo.proofs.Words.{sym, true, ℕ, ◌++◌, ◌+◌, ◌||◌, ◌∙◌, ◌∷◌, ◌≡◌, ◌≤◌}
use Rattle.std.specs.Prelude.{count_by}
use Rattle.std.proofs.lemmas.List.Sums.{sum_by_push, sum_by-cons, count_by-le-length}

one_more : (b c : Bool) (n : ℕ) → c ≡ nat_lt 0 n → (b || c) ≡ nat_lt 0 (cond b 1 0 + n)
one_more true c n h = grind arith
one_more false c n h = grind (arith, h)

-- How many entries of a kind there are, with one more and with one less.
module _ (p : GxEntry → Bool) where
  pub counted_last : (xs : List GxEntry) (x : GxEntry) → count_by p (xs ++ x ∷ []) ≡ count_by p xs + cond (p x) 1 0
  counted_last xs x = sum_by_push (λ e. cond (p e) 1 0) xs x

  pub counted_first : (xs : List GxEntry) (x : GxEntry) → slice_get xs 0 ≡ Some x → count_by p xs ≡ cond (p x) 1 0 + count_by p (drop 1 xs)
  counted_first [] x e = absurd (none-some x e)
  counted_first (y ∷ xs) x e = grind (arith, sum_by-cons (λ e. cond (p e) 1 0) y xs, e)

  pub counted_within : (xs : List GxEntry) → count_by p xs ≤ length xs
  counted_within xs = count_by-le-length p xs

  -- and that there is one
  pub some_counted : (xs : List GxEntry) → list_any p xs ≡ nat_lt 0 (count_by p xs)
  some_counted [] = refl
  some_counted (x ∷ xs) = one_more (p x) (list_any p xs) (count_by p xs) (some_counted xs) ∙ ap (λ (n : ℕ). nat_lt 0 n) (sym (sum_by-cons (λ e. cond (p e) 1 0) x xs))
