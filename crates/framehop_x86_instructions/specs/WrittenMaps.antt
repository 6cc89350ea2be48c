-- Which general registers each opcode may write, by ranges of opcodes. An opcode that is in no row may write any, or goes on elsewhere.
--
-- Intel SDM, volume 2, A.3 (tables A-2, A-3), A.4, chapters 3 to 6 (the pages of the instructions).
use Rattle.std.specs.Prelude.{ℕ, ◌+◌, ◌%◌, ◌^◌, nat_lt, if◌then◌else◌, List, [], ◌∷◌}
use Rattle.framehop_x86_instructions.specs.OpcodeMaps.{within}
use Rattle.framehop_x86_instructions.specs.declared.writes.Writes.{Writes}
use Rattle.framehop_x86_instructions.specs.declared.writes.Writes.TheVariants.{Unknown, These, Reg, Rm, RmUnlessF3, NarrowReg, NarrowRm, NarrowBoth, ByteRm, Opcode, ByteOpcode, OpcodeAndRax, NarrowRmAndRax, RmRaxAndRdx, Group1, Group3, Group4, Group11, Group7}

-- The opcodes from the first to the last.
pub record Row : Type 0 where
  pub first : ℕ
  pub last : ℕ
  pub written : Writes

abbrev pub writes : ℕ → ℕ → Writes → Row
writes first last written = record { first = first; last = last; written = written }

abbrev pub written_in : List Row → ℕ → Writes
written_in [] opcode = Unknown
written_in (row ∷ more) opcode = if within row.first row.last opcode then row.written else written_in more opcode

-- Some registers, each once, by their numbers.
abbrev pub bits_of : List ℕ → ℕ
bits_of [] = 0
bits_of (number ∷ more) = 2 ^ number + bits_of more

abbrev pub these : List ℕ → Writes
these numbers = These (record { bits = bits_of numbers })

abbrev pub nothing : Writes
nothing = these []

abbrev pub rax : ℕ
rax = 0

abbrev pub rcx : ℕ
rcx = 1

abbrev pub rdx : ℕ
rdx = 2

abbrev pub rbx : ℕ
rbx = 3

abbrev pub rsi : ℕ
rsi = 6

abbrev pub rdi : ℕ
rdi = 7

abbrev pub r11 : ℕ
r11 = 11

-- ADD, OR, ADC, SBB, AND, SUB, XOR, each with Eb,Gb Ev,Gv Gb,Eb Gv,Ev AL,Ib rAX,Iz.
abbrev pub arithmetic_written : List Row
arithmetic_written = writes 0 1 NarrowRm ∷ writes 2 3 NarrowReg ∷ writes 4 5 (these (rax ∷ [])) ∷ []

abbrev pub one_byte_rows : List Row
one_byte_rows =
    writes 0x38 0x3d nothing  -- CMP
    ∷ writes 0x63 0x63 Reg  -- MOVSXD
    ∷ writes 0x69 0x69 Reg  -- IMUL
    ∷ writes 0x6b 0x6b Reg  -- IMUL
    ∷ writes 0x6c 0x6d (these (rcx ∷ rdi ∷ []))  -- INS
    ∷ writes 0x6e 0x6f (these (rcx ∷ rsi ∷ []))  -- OUTS
    ∷ writes 0x80 0x83 Group1  -- group 1
    ∷ writes 0x84 0x85 nothing  -- TEST
    ∷ writes 0x86 0x87 NarrowBoth  -- XCHG
    ∷ writes 0x88 0x89 NarrowRm  -- MOV
    ∷ writes 0x8a 0x8b NarrowReg  -- MOV
    ∷ writes 0x8c 0x8c Rm  -- MOV of a segment register
    ∷ writes 0x8d 0x8d Reg  -- LEA
    ∷ writes 0x8e 0x8e nothing  -- MOV to a segment register
    ∷ writes 0x90 0x97 OpcodeAndRax  -- NOP, XCHG
    ∷ writes 0x98 0x98 (these (rax ∷ []))  -- CBW
    ∷ writes 0x99 0x99 (these (rdx ∷ []))  -- CWD
    ∷ writes 0x9b 0x9b nothing  -- WAIT
    ∷ writes 0x9e 0x9e nothing  -- SAHF
    ∷ writes 0x9f 0x9f (these (rax ∷ []))  -- LAHF
    ∷ writes 0xa0 0xa1 (these (rax ∷ []))  -- MOV
    ∷ writes 0xa2 0xa3 nothing  -- MOV to memory
    ∷ writes 0xa4 0xa7 (these (rcx ∷ rsi ∷ rdi ∷ []))  -- MOVS, CMPS
    ∷ writes 0xa8 0xa9 nothing  -- TEST
    ∷ writes 0xaa 0xab (these (rcx ∷ rdi ∷ []))  -- STOS
    ∷ writes 0xac 0xad (these (rax ∷ rcx ∷ rsi ∷ []))  -- LODS
    ∷ writes 0xae 0xaf (these (rcx ∷ rdi ∷ []))  -- SCAS
    ∷ writes 0xb0 0xb7 ByteOpcode  -- MOV
    ∷ writes 0xb8 0xbf Opcode  -- MOV
    ∷ writes 0xc0 0xc1 NarrowRm  -- group 2
    ∷ writes 0xc6 0xc7 Group11  -- group 11
    ∷ writes 0xd0 0xd3 NarrowRm  -- group 2
    ∷ writes 0xd7 0xd7 (these (rax ∷ []))  -- XLAT
    ∷ writes 0xd8 0xde nothing  -- x87
    ∷ writes 0xdf 0xdf (these (rax ∷ []))  -- x87, FNSTSW AX
    ∷ writes 0xe4 0xe5 (these (rax ∷ []))  -- IN
    ∷ writes 0xe6 0xe7 nothing  -- OUT
    ∷ writes 0xec 0xed (these (rax ∷ []))  -- IN
    ∷ writes 0xee 0xef nothing  -- OUT
    ∷ writes 0xf5 0xf5 nothing  -- CMC
    ∷ writes 0xf6 0xf7 Group3  -- group 3
    ∷ writes 0xf8 0xfd nothing  -- CLC to STD
    ∷ writes 0xfe 0xff Group4  -- groups 4 and 5, INC and DEC
    ∷ []

unfoldable pub one_byte_written : ℕ → Writes
one_byte_written opcode = if nat_lt opcode 0x38 then written_in arithmetic_written (opcode % 8) else written_in one_byte_rows opcode

abbrev pub two_byte_rows : List Row
two_byte_rows =
    writes 0x00 0x00 Rm  -- SLDT, STR
    ∷ writes 0x01 0x01 Group7  -- group 7
    ∷ writes 0x02 0x03 Reg  -- LAR, LSL
    ∷ writes 0x05 0x05 (these (rax ∷ rcx ∷ r11 ∷ []))  -- SYSCALL
    ∷ writes 0x0d 0x0d nothing  -- PREFETCHW
    ∷ writes 0x10 0x1d nothing  -- vectors, hints
    ∷ writes 0x1e 0x1e Rm  -- ENDBR64, RDSSP, NOP
    ∷ writes 0x1f 0x1f nothing  -- NOP
    ∷ writes 0x28 0x2b nothing  -- vectors
    ∷ writes 0x2c 0x2d Reg  -- CVTTSS2SI, CVTSS2SI
    ∷ writes 0x2e 0x2f nothing  -- UCOMISS, COMISS
    ∷ writes 0x30 0x30 nothing  -- WRMSR
    ∷ writes 0x31 0x33 (these (rax ∷ rdx ∷ []))  -- RDTSC, RDMSR, RDPMC
    ∷ writes 0x40 0x4f Reg  -- CMOVcc
    ∷ writes 0x50 0x50 Reg  -- MOVMSKPS
    ∷ writes 0x51 0x77 nothing  -- vectors, EMMS
    ∷ writes 0x79 0x79 nothing  -- VMWRITE
    ∷ writes 0x7c 0x7d nothing  -- HADD, HSUB
    ∷ writes 0x7e 0x7e RmUnlessF3  -- MOVD, MOVQ
    ∷ writes 0x7f 0x7f nothing  -- MOVQ
    ∷ writes 0x90 0x9f ByteRm  -- SETcc
    ∷ writes 0xa2 0xa2 (these (rax ∷ rcx ∷ rdx ∷ rbx ∷ []))  -- CPUID
    ∷ writes 0xa3 0xa3 nothing  -- BT
    ∷ writes 0xa4 0xa5 Rm  -- SHLD
    ∷ writes 0xab 0xab Rm  -- BTS
    ∷ writes 0xac 0xad Rm  -- SHRD
    ∷ writes 0xae 0xae Rm  -- group 15, RDFSBASE
    ∷ writes 0xaf 0xaf Reg  -- IMUL
    ∷ writes 0xb0 0xb1 NarrowRmAndRax  -- CMPXCHG
    ∷ writes 0xb2 0xb2 Reg  -- LSS
    ∷ writes 0xb3 0xb3 Rm  -- BTR
    ∷ writes 0xb4 0xb8 Reg  -- LFS, LGS, MOVZX, POPCNT
    ∷ writes 0xba 0xbb Rm  -- group 8, BTC
    ∷ writes 0xbc 0xbf Reg  -- BSF, BSR, MOVSX
    ∷ writes 0xc0 0xc1 NarrowBoth  -- XADD
    ∷ writes 0xc2 0xc4 nothing  -- CMPPS, MOVNTI, PINSRW
    ∷ writes 0xc5 0xc5 Reg  -- PEXTRW
    ∷ writes 0xc6 0xc6 nothing  -- SHUFPS
    ∷ writes 0xc7 0xc7 RmRaxAndRdx  -- group 9, CMPXCHG8B, RDRAND
    ∷ writes 0xc8 0xcf Opcode  -- BSWAP
    ∷ writes 0xd0 0xd6 nothing  -- vectors
    ∷ writes 0xd7 0xd7 Reg  -- PMOVMSKB
    ∷ writes 0xd8 0xfe nothing  -- vectors
    ∷ []

unfoldable pub two_byte_written : ℕ → Writes
two_byte_written opcode = written_in two_byte_rows opcode
