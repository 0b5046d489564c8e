use Rattle.ds_map.proofs.Words.{BeforeMove, IoState, IsSome, MapState, Option, Stop, ap, before_move, channel_moved, channel_put_back, dma_due, false}
use Rattle.ds_map.proofs.Words.{io_of, map_refusal, map_written, subst, sym, unit_refusal, unit_taken, unit_waits, ℕ, ◌∙◌, ◌≡◌}
use Rattle.ds_map.specs.Guards.{is_guarded}
use Rattle.ds_map.specs.MapLaws.{map_seen}
use Rattle.ds_map.proofs.Guards.{unit_has_room}
use Rattle.ds_map.proofs.TakenBack.{put_back_is, still_due}
use Rattle.ds_map.proofs.maps.Map.move_unit.Goals as goal

-- the channel is still due after the read
pub move_channel-before-requires-clause-due : goal.move_channel-before-requires-clause-due
move_channel-before-requires-clause-due c =
    let m = map_seen c.args.proc c.args.self.now c.args.io.now in
    subst (λ (x : MapState). IsSome (dma_due (io_of x.io c.args.proc).dma)) (sym c.read_unit-read.ensures.next)
    (still_due c.args.proc c.args.now m c.args.unit.from c.args.unit.width c.requires.due)

-- there is still room for its write
pub put-stop-requires-clause-room : goal.put-stop-requires-clause-room
put-stop-requires-clause-room c =
    let proc = c.args.proc in
    let m = map_seen proc c.args.self.now c.args.io.now in
    let taken : map_seen proc c.args.self.now c.move_channel-before.new.self ≡ unit_taken proc c.args.now c.args.unit m =
    ap (λ (u : IoState). map_seen proc c.args.self.now u) c.move_channel-before.ensures.state
    ∙ ap (λ (n : ℕ). map_seen proc c.args.self.now (channel_moved proc c.args.now n c.read_unit-read.new.io)) c.read_unit-read.ensures.waits
    ∙ ap (λ (x : MapState). (let moved : MapState = record x { io = channel_moved proc c.args.now (unit_waits proc c.args.now c.args.unit m) x.io } in moved)) c.read_unit-read.ensures.next in
    subst (λ (x : MapState). is_guarded proc x c.args.unit.to ≡ false) (sym taken)
    (unit_has_room proc c.args.now c.args.unit m c.args.unit.to c.requires.room)

-- where the write is refused all is as it was after the read
pub returns-then-is_some-clause-map : goal.returns-then-is_some-clause-map
returns-then-is_some-clause-map c =
    let proc = c.args.proc in
    let unit = c.args.unit in
    let m = map_seen proc c.args.self.now c.args.io.now in
    let all = unit_taken proc c.args.now unit m in
    let value = c.read_unit-read.result.value in
    let left = c.put-stop.new.io in
    let memories = c.put-stop.new.self in
    let taken : map_seen proc c.args.self.now c.move_channel-before.new.self ≡ all =
    ap (λ (u : IoState). map_seen proc c.args.self.now u) c.move_channel-before.ensures.state
    ∙ ap (λ (n : ℕ). map_seen proc c.args.self.now (channel_moved proc c.args.now n c.read_unit-read.new.io)) c.read_unit-read.ensures.waits
    ∙ ap (λ (x : MapState). (let moved : MapState = record x { io = channel_moved proc c.args.now (unit_waits proc c.args.now c.args.unit m) x.io } in moved)) c.read_unit-read.ensures.next in
    let refused : c.put-stop.result ≡ unit_refusal proc c.args.now unit m =
    c.put-stop.ensures.refusal
    ∙ ap (λ (x : MapState). map_refusal proc x unit.to unit.width value) taken
    ∙ ap (λ (n : ℕ). map_refusal proc all unit.to unit.width n) c.read_unit-read.ensures.value in
    let written =
    c.put-stop.ensures.next
    ∙ ap (λ (x : MapState). map_written proc c.args.now x unit.to unit.width value) taken
    ∙ ap (λ (n : ℕ). map_written proc c.args.now all unit.to unit.width n) c.read_unit-read.ensures.value in
    let some = subst (λ (stop : Option Stop). IsSome stop) refused (sym c.is_some.ensures ∙ c.if-is_some.true) in
    let before = c.move_channel-before.ensures.before ∙ ap (λ (x : MapState). before_move (io_of x.io proc)) c.read_unit-read.ensures.next in
    ap (λ (u : IoState). map_seen proc memories u) (c.put_back.ensures ∙ ap (λ (b : BeforeMove). channel_put_back proc b left) before)
    ∙ put_back_is proc c.args.now unit m (map_seen proc memories left) some written
