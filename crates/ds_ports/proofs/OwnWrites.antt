use Rattle.ds_ports.proofs.Words.{Dmacnt, Dmadad, Dmasad, Haltcnt, Ie, If, Ime, IoState, Keycnt, Proc, Register, Tick, TmcntH, TmcntL, after_write}
use Rattle.ds_ports.proofs.Words.{io_of, is_own, own_written, refl, sym, true, true≢false, with_io_of, ℕ, ◌≡◌}

-- A write of a register that is a processor's own changes that alone.

pub own_is : (register : Register) → is_own register ≡ true → (proc : Proc) (now : Tick) (u : IoState) (n word : ℕ)
    → with_io_of proc u (own_written register proc now u.pressed (io_of u proc) n word) ≡ after_write proc now u register n word
own_is Dmasad own proc now u n word = refl
own_is Dmadad own proc now u n word = refl
own_is Dmacnt own proc now u n word = refl
own_is TmcntL own proc now u n word = refl
own_is TmcntH own proc now u n word = refl
own_is Keycnt own proc now u n word = refl
own_is Ime own proc now u n word = refl
own_is Ie own proc now u n word = refl
own_is If own proc now u n word = refl
own_is Haltcnt own proc now u n word = refl
own_is _ own proc now u n word = absurd (true≢false (sym own))
