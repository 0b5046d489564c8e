use Rattle.ds_machine.proofs.Words.{Around, Asked, Bool, Err, GxState, IsErrAnd, Ok, Result, SavedChannels, SavedMemories, SavedProcessors}
use Rattle.ds_machine.proofs.Words.{SavedUnits, VideoState, ap, asked_of, card_format, channels_format, gx_format_by, holds_by, is_late}
use Rattle.ds_machine.proofs.Words.{machine_parts, memories_format, processors_format, subst, sym, units_format, video_format, ℕ, ◌≡◌}
use Rattle.ds_state.specs.Reading.{◌>>=◌, ReadAnswer, read_format, FailsIn, Fails, GivesIn, Left}
use Rattle.ds_state.specs.declared.unpacker.Unpacked.{Unpacked}
use Rattle.ds_state.specs.declared.unpacker.Unpacked.TheVariants.{NoMemory, Bad}

-- Where a part of the machine isn't read, the machine isn't.

fails_then : {A B : Type 0} (e : Unpacked) (r : ReadAnswer A) (k : A × Left → ReadAnswer B) → FailsIn e r → FailsIn e (r >>= k)
fails_then NoMemory r k h = tt
fails_then (Bad offset) r k h = ap (λ x. x >>= k) h

fails_so : {A : Type 0} (e : Unpacked) (r : ReadAnswer A) → Fails e r → FailsIn e r
fails_so NoMemory r h = tt
fails_so (Bad offset) r h = h

-- an error that is handed on says what it said
pub fails_on : {X Y : Type 0} (view : X → Y) (r : Result X Unpacked) (e : Unpacked) (left : Left) (read : ReadAnswer Y) → IsErrAnd r (λ x. x ≡ e) → FailsIn e read
    → GivesIn view r left read
fails_on view (Ok x) e left read is fails = absurd is
fails_on view (Err x) e left read is fails = subst (λ (y : Unpacked). FailsIn y read) (sym is) fails

-- what was read before the display
pub record IsFront (at : ℕ) (l : Left) (p : SavedProcessors) (m : SavedMemories) (u : SavedUnits) (c : SavedChannels) (left : Left) : Type 0 where
  pub one : Left
  pub two : Left
  pub three : Left
  pub processors : read_format processors_format at l ≡ Ok (p, one)
  pub memories : read_format memories_format at one ≡ Ok (m, two)
  pub units : read_format (units_format p.seven.halted) at two ≡ Ok (u, three)
  pub channels : read_format (channels_format (is_late at p.seven)) at three ≡ Ok (c, left)

pub front_read : (at : ℕ) (l one two three left : Left) (p : SavedProcessors) (m : SavedMemories) (u : SavedUnits) (c : SavedChannels) (halted late : Bool)
    → read_format processors_format at l ≡ Ok (p, one) → read_format memories_format at one ≡ Ok (m, two)
    → read_format (units_format halted) at two ≡ Ok (u, three) → read_format (channels_format late) at three ≡ Ok (c, left)
    → halted ≡ p.seven.halted → late ≡ is_late at p.seven → IsFront at l p m u c left
front_read at l one two three left p m u c halted late processors memories units channels is_halted as_late = record {
  one = one;
  two = two;
  three = three;
  processors = processors;
  memories = memories;
  units = subst (λ (b : Bool). read_format (units_format b) at two ≡ Ok (u, three)) is_halted units;
  channels = subst (λ (b : Bool). read_format (channels_format b) at three ≡ Ok (c, left)) as_late channels;
}

module _ (around : Around) (at : ℕ) (l : Left) (p : SavedProcessors) (m : SavedMemories) (u : SavedUnits) (c : SavedChannels) (left : Left)
    (front : IsFront at l p m u c left) (e : Unpacked) where
  pub video_fails : FailsIn e (read_format (video_format at) at left) → FailsIn e (read_format (machine_parts around at) at l)
  unfolding machine_parts
  video_fails h = rw (front.processors, front.memories, front.units, front.channels) (fails_then e (read_format (video_format at) at left) _ h)

  module _ (video : VideoState) (after : Left) (read : read_format (video_format at) at left ≡ Ok (video, after)) where
    pub gx_fails : (asked : Asked) → asked ≡ asked_of at p.nine u.irq_of_nine c.nine → FailsIn e (read_format (gx_format_by (holds_by asked)) at after)
        → FailsIn e (read_format (machine_parts around at) at l)
    unfolding machine_parts
    gx_fails asked is h =
        rw (front.processors, front.memories, front.units, front.channels, read)
        (fails_then e (read_format (gx_format_by (holds_by (asked_of at p.nine u.irq_of_nine c.nine))) at after) _
        (subst (λ (a : Asked). FailsIn e (read_format (gx_format_by (holds_by a)) at after)) is h))

    pub card_fails : (asked : Asked) (gx : GxState) (last : Left) → asked ≡ asked_of at p.nine u.irq_of_nine c.nine
        → read_format (gx_format_by (holds_by asked)) at after ≡ Ok (gx, last) → Fails e (read_format (card_format around.file) at last)
        → FailsIn e (read_format (machine_parts around at) at l)
    unfolding machine_parts
    card_fails asked gx last is reads h =
        let of_asked = subst (λ (a : Asked). read_format (gx_format_by (holds_by a)) at after ≡ Ok (gx, last)) is reads in
        rw (front.processors, front.memories, front.units, front.channels, read, of_asked)
        (fails_then e (read_format (card_format around.file) at last) _ (fails_so e (read_format (card_format around.file) at last) h))
