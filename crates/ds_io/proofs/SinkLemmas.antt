use Rattle.std.proofs.Common.{ℕ, ◌≤◌, ◌+◌, List, [], ◌++◌, length, take, drop, Bool, arith, append_assoc, append-nil, length-append, sym, subst}
use Rattle.std.proofs.Math.Seq.{take-append-add, take-add}
use Rattle.std.proofs.lemmas.List.{take-append-le}
use Rattle.ds_io.specs.Sinks.{Appended, AppendedFront}

module _ {S : Type 0} (tells : S → Bool) (taken : S → List ℕ → Type 0) where
  -- nothing yet
  pub append_none : (old : S) → Appended tells taken old old []
  append_none old = record {
    told = λ h. h;
    after = λ h had is. (let P : List ℕ → Type 0 = λ x. taken old x in subst P (sym (append-nil had)) is);
  }

  -- some bytes, and then more
  pub append_twice : (old mid new : S) (a b : List ℕ) → Appended tells taken old mid a → Appended tells taken mid new b → Appended tells taken old new (a ++ b)
  append_twice old mid new a b first second = record {
    told = λ h. first.told (second.told h);
    after = λ h had is. let P : List ℕ → Type 0 = λ x. taken new x in subst P (append_assoc had a b) (second.after h (had ++ a) (first.after (second.told h) had is));
  }

  -- some bytes, and then a front of more
  pub front_after : (old mid new : S) (a b : List ℕ) → Appended tells taken old mid a → AppendedFront tells taken mid new b → AppendedFront tells taken old new (a ++ b)
  front_after old mid new a b first second = record {
    count = length a + second.count;
    within = (let le : second.count ≤ length b = second.within in simp length-append (omega arith));
    front = rw (take-append-add a b second.count) (append_twice old mid new a (take second.count b) first second.front);
  }

  -- a front of some bytes is a front of more
  pub front_of_more : (old new : S) (a b : List ℕ) → AppendedFront tells taken old new a → AppendedFront tells taken old new (a ++ b)
  front_of_more old new a b part = record {
    count = part.count;
    within = (let le : part.count ≤ length a = part.within in simp length-append (omega arith));
    front = (let le : part.count ≤ length a = part.within in rw take-append-le part.front);
  }

  -- the next n bytes
  pub append_next : (old mid new : S) (xs : List ℕ) (i n : ℕ) → Appended tells taken old mid (take i xs) → Appended tells taken mid new (take n (drop i xs)) → Appended tells taken old new (take (i + n) xs)
  append_next old mid new xs i n first second = rw (take-add i n xs) (append_twice old mid new (take i xs) (take n (drop i xs)) first second)
