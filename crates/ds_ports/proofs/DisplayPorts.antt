use Rattle.ds_ports.proofs.Words.{A, B, Byte, Half, List, Nine, Proc, ScanState, Seven, VideoState, Width, Word, ap, refl, video_written, ℕ, ◌∙◌, ◌≡◌}
use Rattle.video2d.specs.Engines.{EngineState}
use Rattle.video2d.specs.Ports.{video_port}
use Rattle.video2d.specs.Videos.{video_byte_written, video_byte_written_by, with_engine}
use Rattle.video2d.specs.declared.engines.Engine.{Engine}
use Rattle.video2d.specs.declared.ports.VideoPort.{VideoPort}
use Rattle.video2d.specs.declared.ports.VideoPort.TheVariants.{Status, Count, OfEngine, Power, Nothing}

-- Accesses of the display's ports leave it where it is, and its last whole frame.

abbrev left_of : VideoState → ScanState × List ℕ
left_of v = (v.scan, v.whole)

engine_leaves : (which : Engine) (v : VideoState) (e : EngineState) → left_of (with_engine which v e) ≡ left_of v
engine_leaves A v e = refl
engine_leaves B v e = refl

port_leaves : (port : VideoPort) (proc : Proc) (v : VideoState) (value : ℕ) → left_of (video_byte_written_by port proc v value) ≡ left_of v
port_leaves (Status byte) Nine v value = refl
port_leaves (Status byte) Seven v value = refl
port_leaves (Count byte) proc v value = refl
port_leaves (OfEngine which at) proc v value = engine_leaves which v _
port_leaves (Power byte) proc v value = refl
port_leaves Nothing proc v value = refl

byte_leaves : (proc : Proc) (at value : ℕ) (v : VideoState) → left_of (video_byte_written proc at value v) ≡ left_of v
unfolding video_byte_written
byte_leaves proc at value v = port_leaves (video_port proc at) proc v value

written_leaves : (proc : Proc) (v : VideoState) (at : ℕ) (width : Width) (value : ℕ) → left_of (video_written proc v at width value) ≡ left_of v
written_leaves proc v at Byte value = byte_leaves proc _ _ v
written_leaves proc v at Half value = byte_leaves proc _ _ _ ∙ byte_leaves proc _ _ v
written_leaves proc v at Word value = byte_leaves proc _ _ _ ∙ byte_leaves proc _ _ _ ∙ byte_leaves proc _ _ _ ∙ byte_leaves proc _ _ v

pub written_scan : (proc : Proc) (v : VideoState) (at : ℕ) (width : Width) (value : ℕ) → (video_written proc v at width value).scan ≡ v.scan
written_scan proc v at width value = ap (λ (left : ScanState × List ℕ). left.0) (written_leaves proc v at width value)

pub written_whole : (proc : Proc) (v : VideoState) (at : ℕ) (width : Width) (value : ℕ) → (video_written proc v at width value).whole ≡ v.whole
written_whole proc v at width value = ap (λ (left : ScanState × List ℕ). left.1) (written_leaves proc v at width value)
