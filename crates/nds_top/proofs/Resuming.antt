use Rattle.nds_top.proofs.Words.{ConsoleState, IsResumed, IsState, List, Named, Option, Some, same_Some, subst, sym, ℕ, ◌∙◌, ◌≡◌}

-- the console that was seated is the one that the saved file stands for
pub seated_state : (files : Option (List Named)) (state cart : List ℕ) (keys : Option (List ℕ)) (ticks : ℕ) (seat : Option ConsoleState) (start : ConsoleState) → IsResumed files state cart keys ticks seat
    → seat ≡ Some start → IsState files state cart keys ticks start
seated_state files state cart keys ticks seat start on is =
    subst (λ (k : ConsoleState). IsState files state cart keys ticks k) (same_Some on.0 start (sym on.2 ∙ is)) on.1
