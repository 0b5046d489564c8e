use Rattle.ds_machine.proofs.FewAccesses.{instructions_are_short}
use Rattle.ds_machine.proofs.Rooms.{instructions_find_room, nine_steps_find_room, nine_units_find_room, seven_steps_leave_geometry, seven_units_leave_geometry, steps_find_room}
use Rattle.ds_machine.proofs.geometry_laws.room_laws.Goals as goal

pub returns : goal.returns
returns c = record {
  short = instructions_are_short;
  instruction = instructions_find_room;
  step = steps_find_room;
  nine = nine_steps_find_room;
  dma = nine_units_find_room;
  seven = seven_steps_leave_geometry;
  seven_dma = seven_units_leave_geometry;
}
