-- what a loop over a list has read so far, before what it still reads
use Rattle.std.specs.Prelude.{List, ◌++◌, Ok}
use Rattle.ds_state.specs.Reading.{ReadAnswer, ◌>>=◌}

abbrev pub with_front : {T : Type 0} → List T → ReadAnswer (List T) → ReadAnswer (List T)
with_front front r = r >>= (λ q. Ok (front ++ q.0, q.1))
