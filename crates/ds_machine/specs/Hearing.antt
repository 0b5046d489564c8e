use Rattle.std.specs.Prelude.{ℕ, ◌≡◌, Some}
use Rattle.ds_base.specs.declared.processors.Proc.{Proc}
use Rattle.ds_base.specs.declared.processors.Proc.TheVariants.{Nine}
use Rattle.ds_card.specs.Cards.{card_starter}
use Rattle.ds_runs.specs.declared.actors.Actor as actor
use Rattle.ds_runs.specs.declared.actors.Actor.TheVariants.{KeyScript, Video, Timer, Geometry, Card, Dma}
use Rattle.ds_machine.specs.States.{MachineState}

-- Whom a processor hears of, and where geometry stands among the actors.

-- the actors that may halt a processor, or wake it, or make it wait: the key script, the display, its timers, its DMA channels, the card where it
-- started the transfer, and geometry for ARM9 (our choice)
abbrev pub Fences : actor.Actor → Proc → MachineState → Type 0
Fences KeyScript proc s = Unit {0}
Fences Video proc s = Unit {0}
Fences (Timer each number) proc s = each ≡ proc
Fences (Dma each channel) proc s = each ≡ proc
Fences Card proc s = card_starter s.io.card ≡ Some proc
Fences Geometry proc s = proc ≡ Nine
Fences a proc s = ⊥

-- geometry's rank
abbrev pub geometry_rank : ℕ
geometry_rank = 12
