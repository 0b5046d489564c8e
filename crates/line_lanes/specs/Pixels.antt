use Rattle.std.specs.Prelude.{ℕ, ◌<◌, ◌+◌, ◌-◌, ◌*◌, ◌/◌, ◌%◌, ◌^◌, ◌==◌, min, if◌then◌else◌, List, slice_index}

-- red, green and blue of a pixel (GBATEK, "LCD Color Palettes")
abbrev pub red : ℕ → ℕ
red p = p % 32

abbrev pub green : ℕ → ℕ
green p = p / 32 % 32

abbrev pub blue : ℕ → ℕ
blue p = p / 1024 % 32

-- bit 15, which is no colour, and which no effect changes (our choice)
abbrev pub top_bit : ℕ → ℕ
top_bit p = p / 32768 % 2

-- the pixel p with each channel joined by f with that of q
abbrev pub by_channels : (ℕ → ℕ → ℕ) → ℕ → ℕ → ℕ
by_channels f p q = f (red p) (red q) + 32 * f (green p) (green q) + 1024 * f (blue p) (blue q) + 32768 * top_bit p

-- the pixel p with each channel changed by f
abbrev pub by_channel : (ℕ → ℕ) → ℕ → ℕ
by_channel f p = by_channels (λ x _. f x) p p

-- a factor in sixteenths: above 16 it acts as 16 (GBATEK, "LCD I/O Color Special Effects")
abbrev pub held : ℕ → ℕ
held factor = min factor 16

-- alpha blending: a pixel of the first target over one of the second (GBATEK, "LCD I/O Color Special Effects", BLDALPHA)
abbrev pub blended : ℕ → ℕ → ℕ → ℕ → ℕ
blended eva evb = by_channels (λ x y. min 31 ((x * held eva + y * held evb) / 16))

-- brightness up and down (GBATEK, "LCD I/O Color Special Effects", BLDY)
abbrev pub brightened : ℕ → ℕ → ℕ
brightened evy = by_channel (λ x. x + (31 - x) * held evy / 16)

abbrev pub darkened : ℕ → ℕ → ℕ
darkened evy = by_channel (λ x. x - x * held evy / 16)

-- master brightness by the port's value: the factor in bits 0 to 4, the mode in bits 14 to 15, where 1 is up and 2 is down
-- (GBATEK, "DS Video Stuff", MASTER_BRIGHT). That it works on channels of five bits, where GBATEK speaks of six, is our choice, and so is
-- that modes 0 and 3 change nothing (mode 3 is reserved)
abbrev pub mastered : ℕ → ℕ → ℕ
mastered value p =
    if value / 16384 % 4 == 1 then brightened (value % 32) p
    else (if value / 16384 % 4 == 2 then darkened (value % 32) p else p)

-- each pixel whose bit 15 is clear keeps it clear
abbrev pub StaysClear : List ℕ → List ℕ → Type 0
StaysClear old new = (i : ℕ) → slice_index old i < 2 ^ 15 → slice_index new i < 2 ^ 15
