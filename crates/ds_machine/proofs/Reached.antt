use Rattle.ds_machine.proofs.Words.{Bool, IoState, List, MachineState, MapState, MemoriesState, Nine, Outcome, Proc, ProcessorState, RegisterState}
use Rattle.ds_machine.proofs.Words.{Seven, SevenReach, Tick, [], ap, append-nil, arith, length, line_of, map_of, map_seen, outcome_of, refl}
use Rattle.ds_machine.proofs.Words.{seven_memory, seven_reach, seven_side, side_taken, sym, unreached, with_map, with_seven, ℕ, ◌++◌, ◌∙◌, ◌∷◌, ◌≡◌}

-- The code has all memories in one place, and hands them with the units to each processor: what it left of those that it reaches is what its map has, and
-- the others are as they were.

-- ---- bytes that are told with their length

heads : (x y : ℕ) (xs ys : List ℕ) → x ∷ xs ≡ y ∷ ys → x ≡ y
heads x y xs ys e = ap head_of e where
  head_of : List ℕ → ℕ
  head_of [] = 0
  head_of (x ∷ xs) = x

tails : (x y : ℕ) (xs ys : List ℕ) → x ∷ xs ≡ y ∷ ys → xs ≡ ys
tails x y xs ys e = ap tail_of e where
  tail_of : List ℕ → List ℕ
  tail_of [] = []
  tail_of (x ∷ xs) = xs

parts : (a b c d : List ℕ) → length a ≡ length c → a ++ b ≡ c ++ d → (a ≡ c) × (b ≡ d)
parts [] b [] d l e = (refl, e)
parts [] b (y ∷ c) d l e = absurd (omega (arith, l))
parts (x ∷ a) b [] d l e = absurd (omega (arith, l))
parts (x ∷ a) b (y ∷ c) d l e =
    let rest = parts a b c d (omega (arith, l)) (tails x y (a ++ b) (c ++ d) e) in
    (ap (λ (n : ℕ). n ∷ a) (heads x y (a ++ b) (c ++ d) e) ∙ ap (λ (xs : List ℕ). y ∷ xs) rest.0, rest.1)

-- ---- the machine with other memories and units

abbrev pub memories_of : MachineState → MemoriesState
memories_of s = record { main = s.main; shared = s.shared; wram = s.seven.wram; palette = s.palette; oam = s.oam }

abbrev pub with_memories : MachineState → MemoriesState → IoState → MachineState
with_memories s m io = record s { seven = record s.seven { wram = m.wram }; main = m.main; shared = m.shared; palette = m.palette; oam = m.oam; io = io }

pub left_seen : (proc : Proc) (s : MachineState) (m : MemoriesState) (io : IoState) → unreached proc m ≡ unreached proc (memories_of s)
    → with_memories s m io ≡ with_map proc s (map_seen proc m io)
left_seen Nine s m io e =
    ap (λ (bytes : List ℕ). (let new : MachineState = record (with_memories s m io) { seven = record s.seven { wram = bytes } } in new))
    (tails 0 0 m.wram s.seven.wram e)
left_seen Seven s m io e =
    let new = m.palette ++ m.oam in
    let old = s.palette ++ s.oam in
    let long = heads (length m.palette) (length s.palette) (new ++ []) (old ++ []) e in
    let all = sym (append-nil new) ∙ tails (length m.palette) (length s.palette) (new ++ []) (old ++ []) e ∙ append-nil old in
    let two = parts m.palette m.oam s.palette s.oam long all in
    ap (λ (bytes : List ℕ). (let next : MachineState = record (with_memories s m io) { palette = bytes } in next)) two.0
    ∙ ap (λ (bytes : List ℕ). (let next : MachineState = record (with_memories s m io) { palette = s.palette; oam = bytes } in next)) two.1

pub left_map : (proc : Proc) (s : MachineState) (m : MemoriesState) (io : IoState) (left : MapState) → unreached proc m ≡ unreached proc (memories_of s)
    → map_seen proc m io ≡ left → with_memories s m io ≡ with_map proc s left
left_map proc s m io left e h = left_seen proc s m io e ∙ ap (with_map proc s) h

-- and so with ARM7's part
pub seven_left : (s : MachineState) (m : MemoriesState) (io : IoState) (p : ProcessorState) (left : MapState) → unreached Seven m ≡ unreached Seven (memories_of s)
    → map_seen Seven m io ≡ left
    → (let next : MachineState = record (with_memories s m io) { seven = record { processor = p; wram = m.wram } } in next)
    ≡ record (with_map Seven s left) { seven = record { processor = p; wram = left.memories.wram } }
seven_left s m io p left e h =
    ap (λ (x : MachineState). (let next : MachineState = record x { seven = record { processor = p; wram = m.wram } } in next)) (left_seen Seven s m io e)
    ∙ ap (λ (l : MapState). (let next : MachineState = record (with_map Seven s l) { seven = record { processor = p; wram = l.memories.wram } } in next)) h

-- ---- ARM7's step, as its view left it

pub apart_of : (a b c d : ℕ) (xs ys : List ℕ) → a ∷ b ∷ xs ≡ c ∷ d ∷ ys → xs ≡ ys
apart_of a b c d xs ys e = tails b d xs ys (tails a c (b ∷ xs) (d ∷ ys) e)

abbrev pub seven_next : MachineState → MemoriesState → IoState → RegisterState → MachineState
seven_next s m io registers = record (with_memories s m io) { seven = record { processor = record s.seven.processor { registers = registers }; wram = m.wram } }

pub seven_went : (s : MachineState) (m : MemoriesState) (io : IoState) (registers : RegisterState) (now at : Tick) (line : Bool)
    → unreached Seven m ≡ unreached Seven (memories_of s) → line ≡ line_of s Seven
    → (let reach : SevenReach = record { map = map_seen Seven m io; now = at } in reach)
    ≡ (side_taken seven_memory seven_side line s.seven.processor.registers (seven_reach now s)).state
    → registers ≡ (side_taken seven_memory seven_side line s.seven.processor.registers (seven_reach now s)).registers
    → seven_next s m io registers ≡ (outcome_of Seven now s).machine
seven_went s m io registers now at line apart l state r =
    let o : Bool → Outcome SevenReach = λ b. side_taken seven_memory seven_side b s.seven.processor.registers (seven_reach now s) in
    let p : RegisterState → ProcessorState = λ x. record s.seven.processor { registers = x } in
    seven_left s m io (p registers) (o line).state.map apart (ap (λ (reach : SevenReach). reach.map) state)
    ∙ ap (λ (x : RegisterState). (let next : MachineState = record (with_map Seven s (o line).state.map) { seven = record { processor = p x; wram = (o line).state.map.memories.wram } } in next)) r
    ∙ ap (λ (b : Bool). with_seven s (o b)) l

-- and where it wasn't taken
pub seven_stood : (s : MachineState) (m : MemoriesState) (io : IoState) (registers : RegisterState) (now at : Tick) → unreached Seven m ≡ unreached Seven (memories_of s)
    → (let reach : SevenReach = record { map = map_seen Seven m io; now = at } in reach) ≡ seven_reach now s
    → registers ≡ s.seven.processor.registers → seven_next s m io registers ≡ s
seven_stood s m io registers now at apart state r =
    let p : RegisterState → ProcessorState = λ x. record s.seven.processor { registers = x } in
    seven_left s m io (p registers) (map_of Seven s) apart (ap (λ (reach : SevenReach). reach.map) state)
    ∙ ap (λ (x : RegisterState). (let next : MachineState = record s { seven = record { processor = p x; wram = s.seven.wram } } in next)) r
