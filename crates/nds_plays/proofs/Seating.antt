use Rattle.nds_plays.proofs.Words.{ConsoleState, List, Option, Some, sym, ℕ, ◌∙◌, ◌≡◌}
use Rattle.std.proofs.lemmas.Option.{same_Some}
use Rattle.ds_io.specs.Shelves.{Named}
use Rattle.ds_machine.specs.Booted.{machine_booted}
use Rattle.nds_plays.specs.Calls.{switched_on, IsSwitchedOn}

-- the console of a seat in which one was switched on
pub seated_is : (files : Option (List Named)) (cart : List ℕ) (keys : Option (List ℕ)) (seat : Option ConsoleState) (console : ConsoleState) (on : IsSwitchedOn files cart keys seat) → seat ≡ Some console
    → console ≡ switched_on (machine_booted on.0 on.1)
seated_is files cart keys seat console on is = same_Some console _ (sym is ∙ on.4)
