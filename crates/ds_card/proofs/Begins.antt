use Rattle.std.proofs.Common.{ℕ, ◌≡◌, ◌⊎◌, inl, inr, Bool, true, false, List, [], ◌∷◌, ◌++◌, Option, Some, None, refl, ap}
use Rattle.ds_card.specs.Cards.{CardState, is_busy}
use Rattle.ds_card.specs.TransferLaws.{BeginsInOrder, CardGoesOn, CardPasses, and_taken}
use Rattle.ds_card.specs.TransferLaws.CardGoesOn.{stays_so, goes_further}
use Rattle.ds_card.specs.TransferLaws.CardPasses.{passed_none, passed_one}
use Rattle.ds_card.proofs.InOrder.{in_order}

-- What a card passes through is first the transfer that is busy, to its end, and then what follows.

record Splits (file : List ℕ) (s last : CardState) (words : List ℕ) : Type 0 where
  middle : CardState
  own : List ℕ
  others : List ℕ
  both : words ≡ own ++ others
  goes : CardGoesOn file s own middle
  ends : ((others ≡ []) × (middle ≡ last)) ⊎ (is_busy middle ≡ false)

and_more : (word : Option ℕ) (words own others : List ℕ) → words ≡ own ++ others → and_taken word words ≡ and_taken word own ++ others
and_more None words own others h = h
and_more (Some w) words own others h = ap (λ (xs : List ℕ). w ∷ xs) h

splits : (file : List ℕ) (s last : CardState) (words : List ℕ) → CardPasses file s words last → Splits file s last words
splits file s last words (passed_none only) =
    record { middle = only; own = []; others = []; both = refl; goes = stays_so only; ends = inl (refl, refl) }
splits file s last words (passed_one only next end word rest happens more) = by_busy (is_busy s) refl (splits file next last rest more) where
  by_busy : (busy : Bool) → is_busy s ≡ busy → Splits file next last rest → Splits file s last (and_taken word rest)
  by_busy false idle on = record { middle = s; own = []; others = and_taken word rest; both = refl; goes = stays_so s; ends = inr idle }
  by_busy true busy on = record {
    middle = on.middle;
    own = and_taken word on.own;
    others = on.others;
    both = and_more word rest on.own on.others on.both;
    goes = goes_further s next on.middle word on.own busy happens on.goes;
    ends = on.ends;
  }

pub begins : BeginsInOrder
begins file s last words proc now is h passes =
    let parts = splits file s last words passes in
    record {
      middle = parts.middle;
      own = parts.own;
      others = parts.others;
      both = parts.both;
      takes = in_order file s parts.middle parts.own proc now is h parts.goes;
      ends = parts.ends;
    }
