use Rattle.std.specs.Prelude.{ℕ, slice_index}
use Rattle.ds_base.specs.declared.processors.Proc.{Proc}
use Rattle.video2d.specs.Ports.{video_port}
use Rattle.video2d.specs.Statuses.{half_byte}
use Rattle.video2d.specs.Videos.{VideoState, engine_of, status_of}
use Rattle.video2d.specs.declared.ports.VideoPort.{VideoPort}
use Rattle.video2d.specs.declared.ports.VideoPort.TheVariants.{Status, OfEngine, Power}

-- What the display's ports keep, whether they read or not: a write of some bytes of a register leaves this in the others. DISPSTAT's flags
-- and VCOUNT aren't kept, and what keeps nothing has 0.

abbrev pub kept_byte_by : VideoPort → Proc → VideoState → ℕ
kept_byte_by (Status byte) proc v = half_byte byte (status_of v proc).kept
kept_byte_by (OfEngine which at) proc v = slice_index (engine_of v which).ports at
kept_byte_by (Power byte) proc v = half_byte byte v.power
kept_byte_by port proc v = 0

abbrev pub kept_byte : Proc → VideoState → ℕ → ℕ
kept_byte proc v at = kept_byte_by (video_port proc at) proc v
