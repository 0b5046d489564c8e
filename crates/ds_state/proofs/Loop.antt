-- The step of a loop that reads a list.
use Rattle.std.proofs.Common.{◌≡◌, ℕ, suc, ◌+◌, ◌-◌, ◌<◌, List, [], ◌∷◌, ◌++◌, Ok, Err, ap, sym, ◌∙◌, refl, append_assoc, arith}
use Rattle.ds_state.specs.declared.unpacker.Unpacked.{Unpacked}
use Rattle.ds_state.specs.declared.unpacker.Unpacked.TheVariants.{NoMemory, Bad}
use Rattle.ds_state.specs.Reading.{Left, ReadAnswer, ◌>>=◌, read_list, Fails, FailsIn}
use Rattle.ds_state.specs.Loops.{with_front}

front_more : {T : Type 0} (front : List T) (x : T) (r : ReadAnswer (List T)) → with_front front (r >>= (λ q. Ok (x ∷ q.0, q.1))) ≡ with_front (front ++ x ∷ []) r
front_more {T = T} front x (Ok q) = ap (λ (ns : List T). Ok (ns, q.1)) (simp append_assoc)
front_more front x (Err e) = refl

-- one more is read
pub goes_on : {T : Type 0} (reader : Left → ReadAnswer T) (front : List T) (count i : ℕ) (l : Left) (x : T) (after : Left) (total : ReadAnswer (List T)) → i < count → reader l ≡ Ok (x, after)
    → with_front front (read_list reader (count - i) l) ≡ total → with_front (front ++ x ∷ []) (read_list reader (count - (i + 1)) after) ≡ total
goes_on reader front count i l x after total lt h so_far =
    let k : count - i ≡ suc (count - (i + 1)) = omega arith in
    let one : with_front front (read_list reader (count - i) l) ≡ with_front (front ++ x ∷ []) (read_list reader (count - (i + 1)) after) = rw (k, h) (front_more front x (read_list reader (count - (i + 1)) after)) in
    sym one ∙ so_far

-- one isn't read
pub ends : {T : Type 0} (e : Unpacked) (reader : Left → ReadAnswer T) (front : List T) (count i : ℕ) (l : Left) (total : ReadAnswer (List T)) → i < count → FailsIn e (reader l)
    → with_front front (read_list reader (count - i) l) ≡ total → FailsIn e total
ends NoMemory reader front count i l total lt h so_far = tt
ends (Bad o) reader front count i l total lt h so_far =
    let k : count - i ≡ suc (count - (i + 1)) = omega arith in
    let one : with_front front (read_list reader (count - i) l) ≡ Err o = rw (k, h) refl in
    sym so_far ∙ one

-- a failure is one where memory may run out, too
pub fails_in : {Y : Type 0} (e : Unpacked) (r : ReadAnswer Y) → Fails e r → FailsIn e r
fails_in NoMemory r h = tt
fails_in (Bad o) r h = h
