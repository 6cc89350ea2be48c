-- What stands behind each opcode in 64-bit mode, by ranges of opcodes: the addressing methods and the operand types of the manual's maps. I
-- is an immediate and J a distance, of a byte (b), a word (w), or a size that prefixes tell (z, v); O an offset; E, G, M and all that
-- is named by a ModRM byte. Opcodes that are no row are undefined, or are prefixes or escapes, which no instruction has for its opcode.
--
-- Intel SDM, volume 2, A.2.1, A.2.2 (codes for addressing methods and operand types), A.3 (tables A-2, A-3), A.4 (opcode extensions).
use Rattle.std.specs.Prelude.{ℕ, ◌%◌, ◌==◌, ◌&&◌, ◌||◌, Bool, nat_le, nat_lt, if◌then◌else◌, List, [], ◌∷◌}
use Rattle.framehop_x86_instructions.specs.declared.operands.Operands.{Operands}
use Rattle.framehop_x86_instructions.specs.declared.operands.Operands.TheVariants.{Undefined, Nothing, Byte, Word, WordAndByte, Sized, Whole, Address, Distance, ModRm, ModRmByte, ModRmSized, ModRmTestByte, ModRmTestSized}

-- The opcodes from the first to the last.
pub record Row : Type 0 where
  pub first : ℕ
  pub last : ℕ
  pub operands : Operands

abbrev pub row : ℕ → ℕ → Operands → Row
row first last operands = record { first = first; last = last; operands = operands }

abbrev pub within : ℕ → ℕ → ℕ → Bool
within first last opcode = nat_le first opcode && nat_le opcode last

abbrev pub operands_in : List Row → ℕ → Operands
operands_in [] opcode = Undefined
operands_in (row ∷ more) opcode = if within row.first row.last opcode then row.operands else operands_in more opcode

-- ADD, OR, ADC, SBB, AND, SUB, XOR, CMP, each with Eb,Gb Ev,Gv Gb,Eb Gv,Ev AL,Ib rAX,Iz.
abbrev pub arithmetic_rows : List Row
arithmetic_rows = row 0 3 ModRm ∷ row 4 4 Byte ∷ row 5 5 Sized ∷ []

abbrev pub one_byte_rows : List Row
one_byte_rows =
    row 0x50 0x5f Nothing  -- PUSH, POP
    ∷ row 0x63 0x63 ModRm  -- MOVSXD Gv,Ev
    ∷ row 0x68 0x68 Sized  -- PUSH Iz
    ∷ row 0x69 0x69 ModRmSized  -- IMUL Gv,Ev,Iz
    ∷ row 0x6a 0x6a Byte  -- PUSH Ib
    ∷ row 0x6b 0x6b ModRmByte  -- IMUL Gv,Ev,Ib
    ∷ row 0x6c 0x6f Nothing  -- INS, OUTS
    ∷ row 0x70 0x7f Byte  -- Jcc Jb
    ∷ row 0x80 0x80 ModRmByte  -- group 1 Eb,Ib
    ∷ row 0x81 0x81 ModRmSized  -- group 1 Ev,Iz
    ∷ row 0x83 0x83 ModRmByte  -- group 1 Ev,Ib
    ∷ row 0x84 0x8f ModRm  -- TEST, XCHG, MOV, LEA, group 1A
    ∷ row 0x90 0x99 Nothing  -- NOP, XCHG, CBW, CWD
    ∷ row 0x9b 0x9f Nothing  -- WAIT, PUSHF, POPF, SAHF, LAHF
    ∷ row 0xa0 0xa3 Address  -- MOV AL,Ob rAX,Ov and back
    ∷ row 0xa4 0xa7 Nothing  -- MOVS, CMPS
    ∷ row 0xa8 0xa8 Byte  -- TEST AL,Ib
    ∷ row 0xa9 0xa9 Sized  -- TEST rAX,Iz
    ∷ row 0xaa 0xaf Nothing  -- STOS, LODS, SCAS
    ∷ row 0xb0 0xb7 Byte  -- MOV of a byte register, Ib
    ∷ row 0xb8 0xbf Whole  -- MOV of a register, Iv
    ∷ row 0xc0 0xc1 ModRmByte  -- group 2 E,Ib
    ∷ row 0xc2 0xc2 Word  -- RET Iw
    ∷ row 0xc3 0xc3 Nothing  -- RET
    ∷ row 0xc6 0xc6 ModRmByte  -- group 11 Eb,Ib
    ∷ row 0xc7 0xc7 ModRmSized  -- group 11 Ev,Iz
    ∷ row 0xc8 0xc8 WordAndByte  -- ENTER Iw,Ib
    ∷ row 0xc9 0xc9 Nothing  -- LEAVE
    ∷ row 0xca 0xca Word  -- RETF Iw
    ∷ row 0xcb 0xcc Nothing  -- RETF, INT3
    ∷ row 0xcd 0xcd Byte  -- INT Ib
    ∷ row 0xcf 0xcf Nothing  -- IRET
    ∷ row 0xd0 0xd3 ModRm  -- group 2 E,1 E,CL
    ∷ row 0xd7 0xd7 Nothing  -- XLAT
    ∷ row 0xd8 0xdf ModRm  -- x87
    ∷ row 0xe0 0xe3 Byte  -- LOOP, JrCXZ Jb
    ∷ row 0xe4 0xe7 Byte  -- IN, OUT Ib
    ∷ row 0xe8 0xe9 Distance  -- CALL, JMP Jz
    ∷ row 0xeb 0xeb Byte  -- JMP Jb
    ∷ row 0xec 0xef Nothing  -- IN, OUT DX
    ∷ row 0xf1 0xf1 Nothing  -- INT1
    ∷ row 0xf4 0xf5 Nothing  -- HLT, CMC
    ∷ row 0xf6 0xf6 ModRmTestByte  -- group 3 Eb: TEST, which is /0 and /1, has Ib
    ∷ row 0xf7 0xf7 ModRmTestSized  -- group 3 Ev: TEST has Iz
    ∷ row 0xf8 0xfd Nothing  -- CLC to STD
    ∷ row 0xfe 0xff ModRm  -- groups 4 and 5
    ∷ []

-- Table A-2.
unfoldable pub one_byte_map : ℕ → Operands
one_byte_map opcode = if nat_lt opcode 0x40 then operands_in arithmetic_rows (opcode % 8) else operands_in one_byte_rows opcode

-- 0F 78 isn't here: Intel's VMREAD has no immediate, AMD's EXTRQ and INSERTQ have two. Nor are AMD's 3DNow!, VIA's instructions, and 0F 20 to
-- 23, moves of control and debug registers, whose ModRM byte has no mode.
abbrev pub two_byte_rows : List Row
two_byte_rows =
    row 0x00 0x03 ModRm  -- groups 6 and 7, LAR, LSL
    ∷ row 0x05 0x09 Nothing  -- SYSCALL, CLTS, SYSRET, INVD, WBINVD
    ∷ row 0x0b 0x0b Nothing  -- UD2
    ∷ row 0x0d 0x0d ModRm  -- PREFETCHW
    ∷ row 0x10 0x1f ModRm  -- moves of vectors, hints, NOP
    ∷ row 0x28 0x2f ModRm  -- moves, conversions and comparisons of vectors
    ∷ row 0x30 0x35 Nothing  -- WRMSR to SYSEXIT
    ∷ row 0x37 0x37 Nothing  -- GETSEC
    ∷ row 0x40 0x6f ModRm  -- CMOVcc, vectors
    ∷ row 0x70 0x73 ModRmByte  -- PSHUF, groups 12 to 14 with Ib
    ∷ row 0x74 0x76 ModRm  -- PCMPEQ
    ∷ row 0x77 0x77 Nothing  -- EMMS
    ∷ row 0x79 0x79 ModRm  -- VMWRITE
    ∷ row 0x7c 0x7f ModRm  -- HADD, HSUB, moves
    ∷ row 0x80 0x8f Distance  -- Jcc Jz
    ∷ row 0x90 0x9f ModRm  -- SETcc
    ∷ row 0xa0 0xa2 Nothing  -- PUSH FS, POP FS, CPUID
    ∷ row 0xa3 0xa3 ModRm  -- BT
    ∷ row 0xa4 0xa4 ModRmByte  -- SHLD Ev,Gv,Ib
    ∷ row 0xa5 0xa5 ModRm  -- SHLD Ev,Gv,CL
    ∷ row 0xa8 0xaa Nothing  -- PUSH GS, POP GS, RSM
    ∷ row 0xab 0xab ModRm  -- BTS
    ∷ row 0xac 0xac ModRmByte  -- SHRD Ev,Gv,Ib
    ∷ row 0xad 0xb9 ModRm  -- SHRD Ev,Gv,CL, group 15, IMUL, CMPXCHG to UD1
    ∷ row 0xba 0xba ModRmByte  -- group 8 Ev,Ib
    ∷ row 0xbb 0xc1 ModRm  -- BTC, BSF, BSR, MOVSX, XADD
    ∷ row 0xc2 0xc2 ModRmByte  -- CMPPS Ib
    ∷ row 0xc3 0xc3 ModRm  -- MOVNTI
    ∷ row 0xc4 0xc6 ModRmByte  -- PINSRW, PEXTRW, SHUFPS Ib
    ∷ row 0xc7 0xc7 ModRm  -- group 9
    ∷ row 0xc8 0xcf Nothing  -- BSWAP
    ∷ row 0xd0 0xff ModRm  -- vectors, UD0
    ∷ []

-- Table A-3.
unfoldable pub two_byte_map : ℕ → Operands
two_byte_map opcode = operands_in two_byte_rows opcode

-- The same opcodes with a VEX or EVEX prefix, as far as they are vectors' (and the masks', which have no immediate).
abbrev pub vector_map : ℕ → Operands
vector_map opcode =
    if within 0x70 0x73 opcode || (opcode == 0xc2) || within 0xc4 0xc6 opcode then ModRmByte else ModRm
