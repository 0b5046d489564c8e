use Rattle.ds_machine.proofs.Words.{Access, AllReachPrivate, Arch, Bool, Cost, Fetch, List, Meaning, MemoryMachine, None, Option, Outcome, Performed}
use Rattle.ds_machine.proofs.Words.{Proc, ReachesPrivate, Read, RegisterState, SideOf, Stop, Width, Write, [], ap, carried_out, concluded, cost_of}
use Rattle.ds_machine.proofs.Words.{false, perform, refl, refused_or, some_cost, sym, ticks_per_clock, true, unless_refused, waits_of, with_value, ℕ}
use Rattle.ds_machine.proofs.Words.{◌*◌, ◌+◌, ◌<◌, ◌∙◌, ◌∷◌, ◌≡◌}
use Rattle.ds_machine.proofs.Ticks.{some_ticks, ticked}

-- Private accesses change a processor's own part alone, depend on it alone, and aren't refused. What a processor reaches is a part of its own, put into the rest.

-- the same is private in two states
abbrev pub AsPrivate : {S : Type 0} → SideOf S → S → S → Type 0
AsPrivate side a b = (writing fetching : Bool) (byte : ℕ) → side.is_private a writing fetching byte ≡ side.is_private b writing fetching byte

pub record IsApart {S O : Type 0} (memory : MemoryMachine S) (side : SideOf S) (put : O → S → S) (wrote : O → ℕ → Width → ℕ → O) : Type 0 where
  -- the vectors' base, and what is private, are told by the own part, and no write changes them
  pub base : (own : O) (r t : S) → side.step.base (put own r) ≡ side.step.base (put own t)
  pub moves : (own : O) (r t : S) → AsPrivate side (put own r) (put own t)
  pub keeps : (own : O) (at : ℕ) (width : Width) (value : ℕ) (r : S) → AsPrivate side (put own r) (put (wrote own at width value) r)
  -- so is what is fetched and read
  pub fetched : (own : O) (at : ℕ) (width : Width) (r t : S) → ReachesPrivate side (put own r) (Fetch at width)
      → memory.fetch_value (put own r) at width ≡ memory.fetch_value (put own t) at width
  pub read : (own : O) (at : ℕ) (width : Width) (r t : S) → ReachesPrivate side (put own r) (Read at width)
      → memory.read_value (put own r) at width ≡ memory.read_value (put own t) at width
  -- reads and fetches leave all, and a write, which isn't refused, all but the own part
  pub fetches : (own : O) (at : ℕ) (width : Width) (r : S) → ReachesPrivate side (put own r) (Fetch at width) → memory.fetch_next (put own r) at width ≡ put own r
  pub reads : (own : O) (at : ℕ) (width : Width) (r : S) → ReachesPrivate side (put own r) (Read at width) → memory.read_next (put own r) at width ≡ put own r
  pub refuses : (own : O) (at : ℕ) (width : Width) (value : ℕ) (r : S) → ReachesPrivate side (put own r) (Write at width value)
      → memory.refusal (put own r) at width value ≡ None
  pub writes : (own : O) (at : ℕ) (width : Width) (value : ℕ) (r : S) → ReachesPrivate side (put own r) (Write at width value)
      → memory.write_next (put own r) at width value ≡ put (wrote own at width value) r
  -- how long an access waits is told by the own part too
  pub waits : (own : O) (access : Access) (r t : S) → ReachesPrivate side (put own r) access → side.step.wait (put own r) access ≡ side.step.wait (put own t) access

-- accesses that weren't refused
abbrev pub performed : {S : Type 0} → List ℕ → S → Performed S
performed values state = record { values = values; state = state; stop = None }

-- beside two rests they come to the same own part and the same values
pub record Alike {S O : Type 0} (put : O → S → S) (r t : S) (p q : Performed S) : Type 0 where
  pub own : O
  pub values : List ℕ
  pub here : p ≡ performed values (put own r)
  pub there : q ≡ performed values (put own t)

-- what carrying out comes to that costs
abbrev pub costing : {S : Type 0} → RegisterState → S → ℕ → Outcome S
costing registers state clocks = record { registers = registers; state = state; stepped = Cost clocks }

-- beside two rests a step comes to the same own part, the same registers and the same cost, a clock at least
pub record StepsAlike {S O : Type 0} (put : O → S → S) (r t : S) (a b : Outcome S) : Type 0 where
  pub own : O
  pub registers : RegisterState
  pub clocks : ℕ
  pub some : 0 < clocks
  pub here : a ≡ costing registers (put own r) clocks
  pub there : b ≡ costing registers (put own t) clocks

-- ---- privacy is carried over

pub access_moves : {S : Type 0} (side : SideOf S) (a b : S) → AsPrivate side a b → (access : Access) → ReachesPrivate side a access → ReachesPrivate side b access
access_moves side a b alike (Fetch at width) h = λ byte has. sym (alike false true byte) ∙ h byte has
access_moves side a b alike (Read at width) h = λ byte has. sym (alike false false byte) ∙ h byte has
access_moves side a b alike (Write at width value) h = λ byte has. sym (alike true false byte) ∙ h byte has

pub all_move : {S : Type 0} (side : SideOf S) (a b : S) → AsPrivate side a b → (accesses : List Access) → AllReachPrivate side a accesses → AllReachPrivate side b accesses
all_move side a b alike [] h = h
all_move side a b alike (access ∷ rest) h = (access_moves side a b alike access h.0, all_move side a b alike rest h.1)

-- ---- accesses

module _ {S O : Type 0} (memory : MemoryMachine S) (side : SideOf S) (put : O → S → S) (wrote : O → ℕ → Width → ℕ → O) (apart : IsApart memory side put wrote) where
  pub perform_alike : (own : O) (r t : S) (accesses : List Access) → AllReachPrivate side (put own r) accesses
      → Alike put r t (perform memory (put own r) accesses) (perform memory (put own t) accesses)
  perform_alike own r t [] h = record { own = own; values = []; here = refl; there = refl }
  perform_alike own r t (Fetch at width ∷ rest) h =
      let next = perform_alike own r t rest h.1 in
      let also = access_moves side (put own r) (put own t) (apart.moves own r t) (Fetch at width) h.0 in
      let value = memory.fetch_value (put own r) at width in
      record {
        own = next.own;
        values = value ∷ next.values;
        here = ap (λ (x : S). with_value value (perform memory x rest)) (apart.fetches own at width r h.0) ∙ ap (with_value value) next.here;
        there = ap (λ (x : S). with_value (memory.fetch_value (put own t) at width) (perform memory x rest)) (apart.fetches own at width t also)
            ∙ ap (λ (v : ℕ). with_value v (perform memory (put own t) rest)) (sym (apart.fetched own at width r t h.0)) ∙ ap (with_value value) next.there;
      }
  perform_alike own r t (Read at width ∷ rest) h =
      let next = perform_alike own r t rest h.1 in
      let also = access_moves side (put own r) (put own t) (apart.moves own r t) (Read at width) h.0 in
      let value = memory.read_value (put own r) at width in
      record {
        own = next.own;
        values = value ∷ next.values;
        here = ap (λ (x : S). with_value value (perform memory x rest)) (apart.reads own at width r h.0) ∙ ap (with_value value) next.here;
        there = ap (λ (x : S). with_value (memory.read_value (put own t) at width) (perform memory x rest)) (apart.reads own at width t also)
            ∙ ap (λ (v : ℕ). with_value v (perform memory (put own t) rest)) (sym (apart.read own at width r t h.0)) ∙ ap (with_value value) next.there;
      }
  perform_alike own r t (Write at width value ∷ rest) h =
      let new = wrote own at width value in
      let still = all_move side (put own r) (put new r) (apart.keeps own at width value r) rest h.1 in
      let next = perform_alike new r t rest still in
      let also = access_moves side (put own r) (put own t) (apart.moves own r t) (Write at width value) h.0 in
      record {
        own = next.own;
        values = next.values;
        here = write_done own at width value rest r h.0 ∙ next.here;
        there = write_done own at width value rest t also ∙ next.there;
      } where
        write_done : (own : O) (at : ℕ) (width : Width) (value : ℕ) (rest : List Access) (r : S) → ReachesPrivate side (put own r) (Write at width value)
            → perform memory (put own r) (Write at width value ∷ rest) ≡ perform memory (put (wrote own at width value) r) rest
        write_done own at width value rest r h =
            let left = memory.write_next (put own r) at width value in
            ap (λ (stop : Option Stop). refused_or stop left (perform memory left rest)) (apart.refuses own at width value r h)
            ∙ ap (λ (x : S). perform memory x rest) (apart.writes own at width value r h)

  -- how long the accesses after a write wait
  abbrev waits_after : (own : O) (at : ℕ) (width : Width) (value : ℕ) (rest : List Access) (r : S) → ℕ
  waits_after own at width value rest r =
      unless_refused (memory.refusal (put own r) at width value) (waits_of memory side.step.wait (memory.write_next (put own r) at width value) rest)

  wrote_waits : (own : O) (at : ℕ) (width : Width) (value : ℕ) (rest : List Access) (r : S) → ReachesPrivate side (put own r) (Write at width value)
      → waits_after own at width value rest r ≡ waits_of memory side.step.wait (put (wrote own at width value) r) rest
  wrote_waits own at width value rest r h =
      ap (λ (stop : Option Stop). unless_refused stop (waits_of memory side.step.wait (memory.write_next (put own r) at width value) rest)) (apart.refuses own at width value r h)
      ∙ ap (λ (x : S). waits_of memory side.step.wait x rest) (apart.writes own at width value r h)

  -- they wait as long
  pub waits_alike : (own : O) (r t : S) (accesses : List Access) → AllReachPrivate side (put own r) accesses
      → waits_of memory side.step.wait (put own r) accesses ≡ waits_of memory side.step.wait (put own t) accesses
  waits_alike own r t [] h = refl
  waits_alike own r t (Fetch at width ∷ rest) h =
      let also = access_moves side (put own r) (put own t) (apart.moves own r t) (Fetch at width) h.0 in
      let first = side.step.wait (put own t) (Fetch at width) in
      ap (λ (n : ℕ). n + waits_of memory side.step.wait (memory.fetch_next (put own r) at width) rest) (apart.waits own (Fetch at width) r t h.0)
      ∙ ap (λ (x : S). first + waits_of memory side.step.wait x rest) (apart.fetches own at width r h.0)
      ∙ ap (λ (n : ℕ). first + n) (waits_alike own r t rest h.1)
      ∙ ap (λ (x : S). first + waits_of memory side.step.wait x rest) (sym (apart.fetches own at width t also))
  waits_alike own r t (Read at width ∷ rest) h =
      let also = access_moves side (put own r) (put own t) (apart.moves own r t) (Read at width) h.0 in
      let first = side.step.wait (put own t) (Read at width) in
      ap (λ (n : ℕ). n + waits_of memory side.step.wait (memory.read_next (put own r) at width) rest) (apart.waits own (Read at width) r t h.0)
      ∙ ap (λ (x : S). first + waits_of memory side.step.wait x rest) (apart.reads own at width r h.0)
      ∙ ap (λ (n : ℕ). first + n) (waits_alike own r t rest h.1)
      ∙ ap (λ (x : S). first + waits_of memory side.step.wait x rest) (sym (apart.reads own at width t also))
  waits_alike own r t (Write at width value ∷ rest) h =
      let also = access_moves side (put own r) (put own t) (apart.moves own r t) (Write at width value) h.0 in
      let new = wrote own at width value in
      let still = all_move side (put own r) (put new r) (apart.keeps own at width value r) rest h.1 in
      let first = side.step.wait (put own t) (Write at width value) in
      ap (λ (n : ℕ). n + waits_after own at width value rest r) (apart.waits own (Write at width value) r t h.0)
      ∙ ap (λ (n : ℕ). first + n) (wrote_waits own at width value rest r h.0)
      ∙ ap (λ (n : ℕ). first + n) (waits_alike new r t rest still)
      ∙ ap (λ (n : ℕ). first + n) (sym (wrote_waits own at width value rest t also))

  -- so is what they carry out
  pub carried_alike : (arch : Arch) (s : RegisterState) (m : Meaning) (own : O) (r t : S) → AllReachPrivate side (put own r) m.accesses
      → StepsAlike put r t (carried_out memory arch s (put own r) m) (carried_out memory arch s (put own t) m)
  carried_alike arch s m own r t h =
      let done = perform_alike own r t m.accesses h in
      record {
        own = done.own;
        registers = m.after done.values;
        clocks = cost_of arch m;
        some = some_cost arch m;
        here = ap (λ (p : Performed S). concluded arch s m p p.stop) done.here;
        there = ap (λ (p : Performed S). concluded arch s m p p.stop) done.there;
      }

-- and by ticks, where it waits as long
pub ticked_alike : {S O : Type 0} (put : O → S → S) (r t : S) (a b : Outcome S) (proc : Proc) (v w : ℕ) → v ≡ w → StepsAlike put r t a b
    → StepsAlike put r t (ticked proc v a) (ticked proc w b)
ticked_alike put r t a b proc v w same k = record {
  own = k.own;
  registers = k.registers;
  clocks = ticks_per_clock proc * k.clocks + w;
  some = some_ticks proc k.clocks w k.some;
  here = ap (λ (n : ℕ). ticked proc n a) same ∙ ap (ticked proc w) k.here;
  there = ap (ticked proc w) k.there;
}
