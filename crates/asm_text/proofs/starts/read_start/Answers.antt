use Rattle.asm_text.proofs.Words.{ℕ, List, ◌≡◌, ◌<◌, ◌^◌, ap, sym, ◌∙◌, Option, Some, true, false, Arch, Set, start, arch_at, set_at}
use Rattle.asm_text.proofs.Words.{start_address_at}
use Rattle.asm_text.proofs.StartLaws.{arch_again, set_again, address_again}
use Rattle.asm_text.proofs.starts.read_start.Goals as goal

-- what is taken from a first line is what it was written for
is_start : (text : List ℕ) (a : Arch) (s : Set) (n : ℕ) (arch : Arch) (set : Set) (at : ℕ) → a ≡ arch_at text → s ≡ set_at text → n ≡ start_address_at text → at < 2 ^ 32 → text ≡ start arch set at → (a ≡ arch) × (s ≡ set) × (n ≡ at)
is_start text a s n arch set at ea es en h e = (ea ∙ ap arch_at e ∙ arch_again arch set at, es ∙ ap set_at e ∙ set_again arch set at, en ∙ ap start_address_at e ∙ address_again arch set at h)

three : (a b : Arch) (s t : Set) (m n : ℕ) → a ≡ b → s ≡ t → m ≡ n → ◌≡◌ {A = Option (Arch × Set × ℕ)} (Some (a, s, m)) (Some (b, t, n))
three a b s t m n ea es en = cc

listed_so : (a b : Arch) (s t : Set) (m n : ℕ) → a ≡ b → s ≡ t → m ≡ n → start a s m ≡ start b t n
listed_so a b s t m n ea es en = ap (λ (x : Arch). start x s m) ea ∙ ap (λ (x : Set). start b x m) es ∙ ap (start b t) en

pub returns-then-same-clause-own : goal.returns-then-same-clause-own
returns-then-same-clause-own c arch set at h e =
    let f = c.start_at-arch.ensures in
    let k = is_start c.args.text.now _ _ _ arch set at f.arch f.set f.at h e in
    three _ _ _ _ _ _ k.0 k.1 k.2

pub returns-else-same-clause-own : goal.returns-else-same-clause-own
returns-else-same-clause-own c arch set at h e =
    let f = c.start_at-arch.ensures in
    let k = is_start c.args.text.now _ _ _ arch set at f.arch f.set f.at h e in
    let same = c.bytes.ensures.text ∙ c.list_start.ensures ∙ listed_so _ _ _ _ _ _ k.0 k.1 k.2 ∙ sym e in
    let g : false ≡ true = c.if-same.ensures.1 same in
    absurd cc
