use Rattle.nds_top.proofs.Words.{ConsoleState, DemoGives, KeyLine, List, Some, Status, WritesAfter, [], ap, around, demo_booted, demo_of, inl}
use Rattle.nds_top.proofs.Words.{machine_booted, played_status, refl, same_Some, subst, switched_on, sym, ℕ, ◌∙◌, ◌≡◌}
use Rattle.nds_plays.specs.Demos.{demo_file}
use Rattle.nds_top.proofs.Viewing.{wrote_in}
use Rattle.nds_top.proofs.demos.demo.Goals as goal

pub returns : goal.returns
returns g c =
    let number = c.args.number in
    let ticks = c.args.ticks in
    let boot = switched_on (demo_booted number) in
    let call = around g.F.Shelf.told g.F.Shelf.faults g.O.Sink.tells g.O.Sink.taken g.O.Sink.faults c.args.shelf.now c.args.shelf.now c.args.out.now c.demo-played.new.out (Some c.demo-played.new.console) in
    let file_is : c.in-Ok-read.cart ≡ demo_file number = c.in-Ok-read.ensures.accepted.0 ∙ c.in-Ok.ensures.file in
    let is : c.in-Some.console ≡ boot = same_Some c.in-Some.console _ (sym c.in-Some.is ∙ c.in-Ok-switch_on.ensures.on) ∙ ap (λ (f : List ℕ). switched_on (machine_booted f c.new.result)) file_is ∙ ap (λ (k : List KeyLine). switched_on (machine_booted (demo_file number) k)) c.new.ensures in
    let P : ConsoleState → Type 0 = λ k. WritesAfter g.O.Sink.tells g.O.Sink.taken g.O.Sink.faults ticks (demo_of number ticks k.machine) k c.args.out.now c.demo-played.result c.demo-played.new.console c.demo-played.new.out in
    let wrote = wrote_in g.F.Shelf.told g.F.Shelf.faults g.O.Sink.tells g.O.Sink.taken g.O.Sink.faults c.args.shelf.now c.args.shelf.now c.args.out.now c.demo-played.new.out
    ticks (demo_of number ticks (demo_booted number)) (demo_file number) [] boot c.demo-played.new.console c.demo-played.result refl (subst P is c.demo-played.ensures) in
    let Q : Status → Type 0 = λ s. DemoGives call number ticks s in
    let gives : Q (played_status c.demo-played.result) = inl wrote in
    subst Q (sym c.status_of.ensures) gives
