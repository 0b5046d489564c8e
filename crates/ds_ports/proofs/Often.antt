use Rattle.ds_ports.proofs.Words.{Bool, Half, IoState, Nine, None, Proc, Seven, Tick, Word, ap, arith, false, flag, io_of, ipc_control_word}
use Rattle.ds_ports.proofs.Words.{ipc_received_word, ipc_sync_word, keyinput_word, part, port_read, port_refusal, port_value, port_written, refl}
use Rattle.ds_ports.proofs.Words.{slot_of, status_of, true, with_bytes_from, word_received, word_sent, ℕ, ◌%◌, ◌*◌, ◌+◌, ◌/◌, ◌<◌, ◌^◌, ◌≡◌}
use Rattle.video2d.specs.Statuses.{status_word}

-- The registers that are read most, each from its first byte on: what an access of them reads, and that it leaves all as it was.

-- a half of which both bytes are read
joined : (half : ℕ) → half < 2 ^ 16 → part Half 0 (half % 256 + 256 * (half / 256)) ≡ half
joined half l = omega (arith, l)

-- a number that is all of the part that is read
all_of_half : (number : ℕ) → number < 2 ^ 16 → part Half 0 number ≡ number
all_of_half number l = omega (arith, l)

all_of_word : (number : ℕ) → number < 2 ^ 32 → part Word 0 number ≡ number
all_of_word number l = omega (arith, l)

pub status_half : (proc : Proc) (now : Tick) (u : IoState) → status_word (status_of u.video proc) < 2 ^ 16
    → port_value proc now u 0x004 Half ≡ status_word (status_of u.video proc)
unfolding port_value slot_of
status_half Nine now u l = joined (status_word u.video.nine) l
status_half Seven now u l = joined (status_word u.video.seven) l

pub line_half : (proc : Proc) (now : Tick) (u : IoState) → u.video.scan.line < 2 ^ 16 → port_value proc now u 0x006 Half ≡ u.video.scan.line
unfolding port_value slot_of
line_half Nine now u l = joined u.video.scan.line l
line_half Seven now u l = joined u.video.scan.line l

few_keys : (pressed : ℕ) → keyinput_word pressed < 2 ^ 16
few_keys pressed = omega arith

pub keys_half : (proc : Proc) (now : Tick) (u : IoState) → port_value proc now u 0x130 Half ≡ keyinput_word u.pressed
unfolding port_value slot_of
keys_half Nine now u = all_of_half (keyinput_word u.pressed) (few_keys u.pressed)
keys_half Seven now u = all_of_half (keyinput_word u.pressed) (few_keys u.pressed)

pub sync_half : (proc : Proc) (now : Tick) (u : IoState) → ipc_sync_word u.ipc proc < 2 ^ 16 → port_value proc now u 0x180 Half ≡ ipc_sync_word u.ipc proc
unfolding port_value slot_of
sync_half Nine now u l = all_of_half (ipc_sync_word u.ipc Nine) l
sync_half Seven now u l = all_of_half (ipc_sync_word u.ipc Seven) l

pub fifo_half : (proc : Proc) (now : Tick) (u : IoState) → ipc_control_word u.ipc proc < 2 ^ 16 → port_value proc now u 0x184 Half ≡ ipc_control_word u.ipc proc
unfolding port_value slot_of
fifo_half Nine now u l = all_of_half (ipc_control_word u.ipc Nine) l
fifo_half Seven now u l = all_of_half (ipc_control_word u.ipc Seven) l

-- IME is one bit
a_bit : (b : Bool) → flag 0 b < 2 ^ 16
a_bit true = omega arith
a_bit false = omega arith

a_bit_of_word : (b : Bool) → part Word 0 (flag 0 b) ≡ flag 0 b
a_bit_of_word true = refl
a_bit_of_word false = refl

pub ime_half : (proc : Proc) (now : Tick) (u : IoState) → port_value proc now u 0x208 Half ≡ flag 0 (io_of u proc).irq.ime
unfolding port_value slot_of
ime_half Nine now u = all_of_half (flag 0 u.nine.irq.ime) (a_bit u.nine.irq.ime)
ime_half Seven now u = all_of_half (flag 0 u.seven.irq.ime) (a_bit u.seven.irq.ime)

pub ime_word : (proc : Proc) (now : Tick) (u : IoState) → port_value proc now u 0x208 Word ≡ flag 0 (io_of u proc).irq.ime
unfolding port_value slot_of
ime_word Nine now u = a_bit_of_word u.nine.irq.ime
ime_word Seven now u = a_bit_of_word u.seven.irq.ime

pub ie_word : (proc : Proc) (now : Tick) (u : IoState) → (io_of u proc).irq.ie < 2 ^ 32 → port_value proc now u 0x210 Word ≡ (io_of u proc).irq.ie
unfolding port_value slot_of
ie_word Nine now u l = all_of_word u.nine.irq.ie l
ie_word Seven now u l = all_of_word u.seven.irq.ie l

pub if_word : (proc : Proc) (now : Tick) (u : IoState) → (io_of u proc).irq.if_ < 2 ^ 32 → port_value proc now u 0x214 Word ≡ (io_of u proc).irq.if_
unfolding port_value slot_of
if_word Nine now u l = all_of_word u.nine.irq.if_ l
if_word Seven now u l = all_of_word u.seven.irq.if_ l

-- a read of their words leaves all
pub ime_left : (proc : Proc) (now : Tick) (u : IoState) → port_read proc now u 0x208 Word ≡ u
unfolding port_read slot_of
ime_left Nine now u = refl
ime_left Seven now u = refl

pub ie_left : (proc : Proc) (now : Tick) (u : IoState) → port_read proc now u 0x210 Word ≡ u
unfolding port_read slot_of
ie_left Nine now u = refl
ie_left Seven now u = refl

pub if_left : (proc : Proc) (now : Tick) (u : IoState) → port_read proc now u 0x214 Word ≡ u
unfolding port_read slot_of
if_left Nine now u = refl
if_left Seven now u = refl

-- ---- the words of the FIFOs: one that is received, and one that is sent

pub received_word : (proc : Proc) (now : Tick) (u : IoState) → ipc_received_word u.ipc proc < 2 ^ 32 → port_value proc now u 0x100000 Word ≡ ipc_received_word u.ipc proc
unfolding port_value slot_of
received_word Nine now u l = all_of_word (ipc_received_word u.ipc Nine) l
received_word Seven now u l = all_of_word (ipc_received_word u.ipc Seven) l

pub received_left : (proc : Proc) (now : Tick) (u : IoState) → port_read proc now u 0x100000 Word ≡ word_received proc u
unfolding port_read slot_of
received_left Nine now u = refl
received_left Seven now u = refl

pub sent_refusal : (proc : Proc) (u : IoState) (word : ℕ) → port_refusal proc u 0x188 Word word ≡ None
unfolding port_refusal slot_of
sent_refusal Nine u word = refl
sent_refusal Seven u word = refl

whole_word : (word : ℕ) → word < 2 ^ 32 → with_bytes_from Word 0 0 word ≡ word
whole_word word l = omega (arith, l)

pub sent_written : (proc : Proc) (now : Tick) (u : IoState) (word : ℕ) → word < 2 ^ 32 → port_written proc now u 0x188 Word word ≡ word_sent proc u word
unfolding port_written slot_of
sent_written Nine now u word l = ap (word_sent Nine u) (whole_word word l)
sent_written Seven now u word l = ap (word_sent Seven u) (whole_word word l)
