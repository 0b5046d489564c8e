use Rattle.std.proofs.Common.{◌≡◌, Bool, true, false, true≢false, if◌then◌else◌, refl, sym, ◌∙◌, ap}
use Rattle.ds_base.specs.Deeds.{pick, Parted, Done, PassesAt, Changes}

-- Laws of deeds, whatever the parts are.

-- a set lies in another; two have no part in common
abbrev pub Within : {I : Type 0} → (I → Bool) → (I → Bool) → Type 0
Within {I} P U = (i : I) → P i ≡ true → U i ≡ true

abbrev pub Apart : {I : Type 0} → (I → Bool) → (I → Bool) → Type 0
Apart {I} P Q = (i : I) → P i ≡ true → Q i ≡ false

pick_within : {A : Type 0} (u p : Bool) (a b : A) → (p ≡ true → u ≡ true) → pick u (pick p a b) b ≡ pick p a b
pick_within true p a b h = refl
pick_within false true a b h = absurd (true≢false (sym (h refl)))
pick_within false false a b h = refl

pub pick_same : {A : Type 0} (p : Bool) (a : A) → pick p a a ≡ a
pick_same true a = refl
pick_same false a = refl

pick_left : {A : Type 0} (u p : Bool) (a b c : A) → (p ≡ true → u ≡ true) → (u ≡ true → c ≡ b) → pick u (pick p a b) c ≡ pick p a c
pick_left true true a b c h k = refl
pick_left true false a b c h k = sym (k refl)
pick_left false true a b c h k = absurd (true≢false (sym (h refl)))
pick_left false false a b c h k = refl

module _ {I : Type 0} {F : I → Type 0} {S : Type 0} (m : Parted F S) where
  -- parts of the state itself change nothing
  pub same : (P : I → Bool) (s : S) → m.graft P s s ≡ s
  same P s = m.whole (m.graft P s s) s (m.sized P s s refl) (λ i. m.got P s s refl i ∙ pick_same (P i) (m.get s i))

  pub inside : (U P : I → Bool) (t s : S) → m.size t ≡ m.size s → Within P U → m.graft U (m.graft P t s) s ≡ m.graft P t s
  inside U P t s e w =
      m.whole (m.graft U (m.graft P t s) s) (m.graft P t s) (m.sized U (m.graft P t s) s (m.sized P t s e) ∙ sym (m.sized P t s e)) (λ i.
      m.got U (m.graft P t s) s (m.sized P t s e) i
      ∙ ap (λ (x : F i). pick (U i) x (m.get s i)) (m.got P t s e i)
      ∙ pick_within (U i) (P i) (m.get t i) (m.get s i) (w i)
      ∙ sym (m.got P t s e i))

  onto : (U P : I → Bool) (t s x : S) → m.size t ≡ m.size s → m.size x ≡ m.size s → Within P U → ((i : I) → U i ≡ true → m.get x i ≡ m.get s i)
      → m.graft U (m.graft P t s) x ≡ m.graft P t x
  onto U P t s x e f w k =
      m.whole (m.graft U (m.graft P t s) x) (m.graft P t x) (m.sized U (m.graft P t s) x (m.sized P t s e ∙ sym f) ∙ sym (m.sized P t x (e ∙ sym f))) (λ i.
      m.got U (m.graft P t s) x (m.sized P t s e ∙ sym f) i
      ∙ ap (λ (y : F i). pick (U i) y (m.get x i)) (m.got P t s e i)
      ∙ pick_left (U i) (P i) (m.get t i) (m.get s i) (m.get x i) (w i) (k i)
      ∙ sym (m.got P t x (e ∙ sym f) i))

  module _ {V : Type 0} where
    -- what passes some parts leaves them
    pub leaves : (U : I → Bool) (deed : S → Done V S) (s : S) → PassesAt m U deed s → m.size (deed s).left ≡ m.size s
        → (i : I) → U i ≡ true → m.get (deed s).left i ≡ m.get s i
    leaves U deed s pass sized i h =
        let so : (deed s).left ≡ m.graft U s (deed s).left = ap (λ (x : S). (deed x).left) (sym (same U s)) ∙ ap (λ (d : Done V S). d.left) (pass s refl) in
        ap (λ (x : S). m.get x i) so ∙ m.got U s (deed s).left (sym sized) i
        ∙ ap (λ (b : Bool). pick b (m.get s i) (m.get (deed s).left i)) h

    -- and it passes fewer
    pub fewer : (U P : I → Bool) (deed : S → Done V S) (s : S) → Within P U → m.size (deed s).left ≡ m.size s → PassesAt m U deed s → PassesAt m P deed s
    fewer U P deed s w sized pass t e =
        ap deed (sym (inside U P t s e w)) ∙ pass (m.graft P t s) (m.sized P t s e)
        ∙ ap (λ (x : S). (let d : Done V S = record (deed s) { left = x } in d)) (onto U P t s (deed s).left e sized w (leaves U deed s pass sized))

-- a part of one set isn't in the other
pub not_there : {I : Type 0} (P Q : I → Bool) (i : I) → Apart P Q → Q i ≡ true → P i ≡ false
not_there P Q i apart h = by_it (P i) refl where
  by_it : (b : Bool) → P i ≡ b → P i ≡ false
  by_it true e = absurd (true≢false (sym h ∙ apart i e))
  by_it false e = e

module _ {I : Type 0} {F : I → Type 0} {S : Type 0} (m : Parted F S) where
  -- with the changed parts in it, it is the state before
  pub grafted : (A : I → Bool) (s x : S) → Changes m A s x → x ≡ m.graft A x s
  grafted A s x c = m.whole x (m.graft A x s) (c.sized ∙ sym (m.sized A x s c.sized)) (λ i. by_set i (A i) refl ∙ sym (m.got A x s c.sized i)) where
    by_set : (i : I) (b : Bool) → A i ≡ b → m.get x i ≡ pick b (m.get x i) (m.get s i)
    by_set i true e = refl
    by_set i false e = c.others i e

  -- what doesn't depend on some parts stays where no others are changed
  pub blind_stays : {V : Type 0} (A U : I → Bool) (s x : S) (v : S → V) → Changes m A s x → Within A U → ((t : S) → v (m.graft U t s) ≡ v s) → v x ≡ v s
  blind_stays {V} A U s x v c w blind =
      ap v (grafted A s x c) ∙ ap v (sym (inside m U A x s c.sized w)) ∙ blind (m.graft A x s)

  -- what is as it was in all parts but some
  pub changes_by : (A : I → Bool) (s x : S) → m.size x ≡ m.size s → m.graft (λ i. if A i then false else true) s x ≡ x → Changes m A s x
  changes_by A s x sized e = record {
    sized = sized;
    others = λ i h. ap (λ (y : S). m.get y i) (sym e) ∙ m.got (λ j. if A j then false else true) s x (sym sized) i
        ∙ ap (λ (b : Bool). pick (if b then false else true) (m.get s i) (m.get x i)) h;
  }
