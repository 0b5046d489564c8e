use Rattle.std.specs.Prelude.{ℕ, ◌/◌, List, [], ◌∷◌, ◌++◌, slice_index_or}
use Rattle.ds_base.specs.declared.processors.Proc.{Proc}
use Rattle.ds_base.specs.declared.processors.Proc.TheVariants.{Nine, Seven}

-- The boot ROM stub, in place of the console's own boot ROMs (our choice): a routine after the other, each word with its offset and
-- statement. Branch targets are offsets from the stub's base, FFFF0000h for ARM9 and 0 for ARM7.

-- a word of which each processor has its own
abbrev pub own : Proc → ℕ → ℕ → ℕ
own Nine nine seven = nine
own Seven nine seven = seven

-- the eight vectors (ARM manual, "Exceptions"): SWI and interrupt go on; reset and the others stay where they are
abbrev pub vectors : List ℕ
vectors =
    0xEAFFFFFE  -- 000 b 0
    ∷ 0xEAFFFFFE  -- 004 b 4
    ∷ 0xEA00000D  -- 008 b 44
    ∷ 0xEAFFFFFE  -- 00C b c
    ∷ 0xEAFFFFFE  -- 010 b 10
    ∷ 0xEAFFFFFE  -- 014 b 14
    ∷ 0xEA000000  -- 018 b 20
    ∷ 0xEAFFFFFE  -- 01C b 1c
    ∷ []

-- interrupt: calls the handler whose address stands at 3FFCh from DTCM's base (ARM9) or at 3FFFFFCh (ARM7; GBATEK, "DS Interrupts"),
-- and goes back
abbrev pub interrupt_entry : Proc → List ℕ
interrupt_entry proc =
    0xE92D500F  -- 020 stmdb r13!, {r0,r1,r2,r3,r12,r14}
    ∷ own proc 0xEE190F11 0xE3A00301  -- 024 mrc p15, 0, r0, c9, c1, 0; ARM7: mov r0, #0x4000000
    ∷ 0xE1A00620  -- 028 mov r0, r0, lsr #0xc
    ∷ 0xE1A00600  -- 02C mov r0, r0, lsl #0xc
    ∷ own proc 0xE2800901 0xE1A00000  -- 030 add r0, r0, #0x4000; ARM7: mov r0, r0
    ∷ 0xE28FE000  -- 034 add r14, r15, #0x0
    ∷ 0xE510F004  -- 038 ldr r15, [r0, #-0x4]
    ∷ 0xE8BD500F  -- 03C ldmia r13!, {r0,r1,r2,r3,r12,r14}
    ∷ 0xE25EF004  -- 040 subs r15, r14, #0x4
    ∷ []

-- SWI: takes its number from the byte at the return address less 2, and goes on in System mode with the caller's interrupt mask
abbrev pub swi_entry : List ℕ
swi_entry =
    0xE92D5800  -- 044 stmdb r13!, {r11,r12,r14}
    ∷ 0xE55EC002  -- 048 ldrb r12, [r14, #-0x2]
    ∷ 0xE14FB000  -- 04C mrs r11, spsr
    ∷ 0xE92D0800  -- 050 stmdb r13!, {r11}
    ∷ 0xE20BB080  -- 054 and r11, r11, #0x80
    ∷ 0xE38BB01F  -- 058 orr r11, r11, #0x1f
    ∷ 0xE121F00B  -- 05C msr cpsr_c, r11
    ∷ 0xE92D4004  -- 060 stmdb r13!, {r2,r14}
    ∷ []

-- calls the routine of that number (GBATEK, "BIOS Function Summary"); that there are these six is our choice
abbrev pub swi_choice : List ℕ
swi_choice =
    0xE35C0003  -- 064 cmp r12, #0x3
    ∷ 0x0B000010  -- 068 bleq b0
    ∷ 0xE35C0004  -- 06C cmp r12, #0x4
    ∷ 0x0B000013  -- 070 bleq c4
    ∷ 0xE35C0005  -- 074 cmp r12, #0x5
    ∷ 0x0B00000F  -- 078 bleq bc
    ∷ 0xE35C0006  -- 07C cmp r12, #0x6
    ∷ 0x0B000028  -- 080 bleq 128
    ∷ 0xE35C0009  -- 084 cmp r12, #0x9
    ∷ 0x0B00002A  -- 088 bleq 138
    ∷ 0xE35C000B  -- 08C cmp r12, #0xb
    ∷ 0x0B000042  -- 090 bleq 1a0
    ∷ []

-- back to Supervisor mode, and from there to the caller with its CPSR
abbrev pub swi_return : List ℕ
swi_return =
    0xE8BD4004  -- 094 ldmia r13!, {r2,r14}
    ∷ 0xE3A0C093  -- 098 mov r12, #0x93
    ∷ 0xE121F00C  -- 09C msr cpsr_c, r12
    ∷ 0xE8BD0800  -- 0A0 ldmia r13!, {r11}
    ∷ 0xE16FF00B  -- 0A4 msr spsr_fsxc, r11
    ∷ 0xE8BD5800  -- 0A8 ldmia r13!, {r11,r12,r14}
    ∷ 0xE1B0F00E  -- 0AC movs r15, r14
    ∷ []

-- SWI 03h, WaitByLoop: counts r0 down until it isn't above 0
abbrev pub wait_by_loop : List ℕ
wait_by_loop =
    0xE2500001  -- 0B0 subs r0, r0, #0x1
    ∷ 0xCAFFFFFD  -- 0B4 bgt b0
    ∷ 0xE12FFF1E  -- 0B8 bx r14
    ∷ []

-- SWI 05h, VBlankIntrWait: r0 and r1 are 1, and it goes on as IntrWait
abbrev pub vblank_intr_wait : List ℕ
vblank_intr_wait =
    0xE3A00001  -- 0BC mov r0, #0x1
    ∷ 0xE3A01001  -- 0C0 mov r1, #0x1
    ∷ []

-- SWI 04h, IntrWait: waits until a bit of r1 is set in the word before the one with the handler's address, and clears it; where r0 isn't
-- 0, it first forgets those that are set
abbrev pub intr_wait : Proc → List ℕ
intr_wait proc =
    0xE92D4018  -- 0C4 stmdb r13!, {r3,r4,r14}
    ∷ own proc 0xEE193F11 0xE3A03301  -- 0C8 mrc p15, 0, r3, c9, c1, 0; ARM7: mov r3, #0x4000000
    ∷ 0xE1A03623  -- 0CC mov r3, r3, lsr #0xc
    ∷ 0xE1A03603  -- 0D0 mov r3, r3, lsl #0xc
    ∷ own proc 0xE2833901 0xE1A00000  -- 0D4 add r3, r3, #0x4000; ARM7: mov r0, r0
    ∷ 0xE3A04301  -- 0D8 mov r4, #0x4000000
    ∷ 0xE3500000  -- 0DC cmp r0, #0x0
    ∷ 0x1513B008  -- 0E0 ldrne r11, [r3, #-0x8]
    ∷ 0x11CBB001  -- 0E4 bicne r11, r11, r1
    ∷ 0x1503B008  -- 0E8 strne r11, [r3, #-0x8]
    ∷ 0xE3A02000  -- 0EC mov r2, #0x0
    ∷ 0xE5842208  -- 0F0 str r2, [r4, #0x208]
    ∷ 0xE513B008  -- 0F4 ldr r11, [r3, #-0x8]
    ∷ 0xE01B2001  -- 0F8 ands r2, r11, r1
    ∷ 0x1A000004  -- 0FC bne 114
    ∷ 0xE3A02080  -- 100 mov r2, #0x80
    ∷ own proc 0xEE072F90 0xE5C42301  -- 104 mcr p15, 0, r2, c7, c0, 4; ARM7: strb r2, [r4, #0x301]
    ∷ 0xE3A02001  -- 108 mov r2, #0x1
    ∷ 0xE5842208  -- 10C str r2, [r4, #0x208]
    ∷ 0xEAFFFFF5  -- 110 b ec
    ∷ 0xE1CBB002  -- 114 bic r11, r11, r2
    ∷ 0xE503B008  -- 118 str r11, [r3, #-0x8]
    ∷ 0xE3A02001  -- 11C mov r2, #0x1
    ∷ 0xE5842208  -- 120 str r2, [r4, #0x208]
    ∷ 0xE8BD8018  -- 124 ldmia r13!, {r3,r4,r15}
    ∷ []

-- SWI 06h, Halt: CP15's command (ARM9), or 80h to HALTCNT (ARM7)
abbrev pub halt : Proc → List ℕ
halt proc =
    0xE3A0B301  -- 128 mov r11, #0x4000000
    ∷ 0xE3A02080  -- 12C mov r2, #0x80
    ∷ own proc 0xEE072F90 0xE5CB2301  -- 130 mcr p15, 0, r2, c7, c0, 4; ARM7: strb r2, [r11, #0x301]
    ∷ 0xE12FFF1E  -- 134 bx r14
    ∷ []

-- SWI 09h, Div: r0 by r1; quotient in r0, remainder in r1, the quotient's absolute value in r3
abbrev pub divide : List ℕ
divide =
    0xE92D0030  -- 138 stmdb r13!, {r4,r5}
    ∷ 0xE1A04000  -- 13C mov r4, r0
    ∷ 0xE0205001  -- 140 eor r5, r0, r1
    ∷ 0xE3500000  -- 144 cmp r0, #0x0
    ∷ 0xB2600000  -- 148 rsblt r0, r0, #0x0
    ∷ 0xE3510000  -- 14C cmp r1, #0x0
    ∷ 0xB2611000  -- 150 rsblt r1, r1, #0x0
    ∷ 0xE3A03000  -- 154 mov r3, #0x0
    ∷ 0xE3A02000  -- 158 mov r2, #0x0
    ∷ 0xE3A0B020  -- 15C mov r11, #0x20
    ∷ 0xE0900000  -- 160 adds r0, r0, r0
    ∷ 0xE0A22002  -- 164 adc r2, r2, r2
    ∷ 0xE1A03083  -- 168 mov r3, r3, lsl #0x1
    ∷ 0xE1520001  -- 16C cmp r2, r1
    ∷ 0x20422001  -- 170 subcs r2, r2, r1
    ∷ 0x23833001  -- 174 orrcs r3, r3, #0x1
    ∷ 0xE25BB001  -- 178 subs r11, r11, #0x1
    ∷ 0x1AFFFFF7  -- 17C bne 160
    ∷ 0xE3550000  -- 180 cmp r5, #0x0
    ∷ 0xE1A00003  -- 184 mov r0, r3
    ∷ 0xB2630000  -- 188 rsblt r0, r3, #0x0
    ∷ 0xE3540000  -- 18C cmp r4, #0x0
    ∷ 0xE1A01002  -- 190 mov r1, r2
    ∷ 0xB2621000  -- 194 rsblt r1, r2, #0x0
    ∷ 0xE8BD0030  -- 198 ldmia r13!, {r4,r5}
    ∷ 0xE12FFF1E  -- 19C bx r14
    ∷ []

-- SWI 0Bh, CpuSet: from r0 to r1, of as many units as bits 0 to 20 of r2; words where bit 26 is 1, else halves; the first again and
-- again where bit 24 is 1
abbrev pub cpu_set : List ℕ
cpu_set =
    0xE92D0018  -- 1A0 stmdb r13!, {r3,r4}
    ∷ 0xE1A0B582  -- 1A4 mov r11, r2, lsl #0xb
    ∷ 0xE1B0B5AB  -- 1A8 movs r11, r11, lsr #0xb
    ∷ 0x0A00000A  -- 1AC beq 1dc
    ∷ 0xE3120301  -- 1B0 tst r2, #0x4000000
    ∷ 0x15903000  -- 1B4 ldrne r3, [r0, #0x0]
    ∷ 0x14813004  -- 1B8 strne r3, [r1], #0x4
    ∷ 0x13A04004  -- 1BC movne r4, #0x4
    ∷ 0x01D030B0  -- 1C0 ldrheq r3, [r0, #0x0]
    ∷ 0x00C130B2  -- 1C4 strheq r3, [r1], #0x2
    ∷ 0x03A04002  -- 1C8 moveq r4, #0x2
    ∷ 0xE3120401  -- 1CC tst r2, #0x1000000
    ∷ 0x00800004  -- 1D0 addeq r0, r0, r4
    ∷ 0xE25BB001  -- 1D4 subs r11, r11, #0x1
    ∷ 0x1AFFFFF4  -- 1D8 bne 1b0
    ∷ 0xE8BD0018  -- 1DC ldmia r13!, {r3,r4}
    ∷ 0xE12FFF1E  -- 1E0 bx r14
    ∷ []

-- the stub's words in their order
unfoldable pub boot_rom : Proc → List ℕ
boot_rom proc =
    vectors
    ++ interrupt_entry proc
    ++ swi_entry
    ++ swi_choice
    ++ swi_return
    ++ wait_by_loop
    ++ vblank_intr_wait
    ++ intr_wait proc
    ++ halt proc
    ++ divide
    ++ cpu_set

-- the word at an offset; past the stub there are zeros
abbrev pub boot_word : Proc → ℕ → ℕ
boot_word proc at = slice_index_or (boot_rom proc) (at / 4) 0
