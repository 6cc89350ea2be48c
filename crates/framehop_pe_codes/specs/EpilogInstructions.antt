-- Epilogs by their instructions, and the bytes that spell these.
--
-- Microsoft, "x64 exception handling", "Epilog code". Intel 64 and IA-32 Architectures Software Developer's Manual, volume 2: 2.1.3 (ModR/M and
-- SIB), 2.2.1 (REX prefixes), and in chapters 3 and 4 ADD, JMP, LEA, POP, RET.
use Rattle.std.specs.Prelude.{ℕ, ◌+◌, ◌*◌, ◌<◌, ◌≡◌, ◌⊎◌, ◌↔◌, IsTrue, List, [], ◌∷◌, ◌++◌, Option, Some}
use Rattle.std.specs.List.{flat_map}
use Rattle.framehop_registers.specs.declared.x86_64.unwindregs.Reg.{Reg}
use Rattle.framehop_pe_codes.specs.EpilogEnds.{leaves, signed_below}
use Rattle.framehop_pe_codes.specs.Epilogs.{EpilogLeft, epilog_of, lea_spelling, number_of, pop_bytes}
use Rattle.framehop_pe_codes.specs.declared.ends.EpilogEnds.{EpilogEnds}
use Rattle.framehop_pe_codes.specs.declared.ends.EpilogEnds.TheVariants.{Published, Known}
use Rattle.framehop_pe_codes.specs.declared.epilog.SpAdjustment.{SpAdjustment}
use Rattle.framehop_pe_codes.specs.declared.epilog.SpAdjustment.TheVariants.{Stays, Add, Lea}

-- Four bytes, lowest first.
pub record Long : Type 0 where
  pub first : ℕ
  pub second : ℕ
  pub third : ℕ
  pub fourth : ℕ

abbrev pub long_bytes : Long → List ℕ
long_bytes long = long.first ∷ long.second ∷ long.third ∷ long.fourth ∷ []

abbrev pub long_number : Long → ℕ
long_number long = long.first + 256 * long.second + 65536 * long.third + 16777216 * long.fourth

-- The instruction that sets the stack pointer, if there is one: add rsp with an immediate, or lea rsp from a register with a displacement.
pub data Adjust : Type 0 where
  NoAdjust : Adjust
  AddByte : ℕ → Adjust
  AddLong : Long → Adjust
  LeaByte : Reg → ℕ → Adjust
  LeaLong : Reg → Long → Adjust

-- ADD r/m64, imm8 and imm32: 48 83 /0 and 48 81 /0 with RSP. LEA r64, m: 48 8d /r with RSP, from a register with a displacement of one byte or four.
abbrev pub adjust_bytes : Adjust → List ℕ
adjust_bytes NoAdjust = []
adjust_bytes (AddByte number) = 0x48 ∷ 0x83 ∷ 0xc4 ∷ number ∷ []
adjust_bytes (AddLong long) = 0x48 ∷ 0x81 ∷ 0xc4 ∷ long_bytes long
adjust_bytes (LeaByte register byte) = lea_spelling 0x60 (number_of register) ++ byte ∷ []
adjust_bytes (LeaLong register long) = lea_spelling 0xa0 (number_of register) ++ long_bytes long

-- What it does in a function with a frame register: no add is of a negative number, and each lea is from the frame register.
abbrev pub Adjusts : Option Reg → Adjust → SpAdjustment → Type 0
Adjusts frame_register NoAdjust does = does ≡ Stays
Adjusts frame_register (AddByte number) does = (number < 128) × (does ≡ Add number)
Adjusts frame_register (AddLong long) does = (long_number long < 2147483648) × (does ≡ Add (long_number long))
Adjusts frame_register (LeaByte register byte) does = (frame_register ≡ Some register) × (does ≡ Lea (signed_below 256 byte))
Adjusts frame_register (LeaLong register long) does = (frame_register ≡ Some register) × (does ≡ Lea (signed_below 4294967296 (long_number long)))

-- The instruction that ends an epilog, as far as it is looked at. A wide jump is FF /4 with REX.W: the lower three bits of its prefix, and the
-- mode and the register or memory of its ModR/M byte.
pub data End : Type 0 where
  Return : End
  RepeatReturn : End
  Jump : ℕ → End
  JumpByte : ℕ → End
  JumpLong : Long → End
  JumpAtRip : End
  WideJump : ℕ → ℕ → ℕ → End

-- Its bytes.
abbrev pub end_bytes : End → List ℕ
end_bytes Return = 0xc3 ∷ []
end_bytes RepeatReturn = 0xf3 ∷ 0xc3 ∷ []
end_bytes (Jump opcode) = opcode ∷ []
end_bytes (JumpByte byte) = 0xeb ∷ byte ∷ []
end_bytes (JumpLong long) = 0xe9 ∷ long_bytes long
end_bytes JumpAtRip = 0xff ∷ 0x25 ∷ []
end_bytes (WideJump bits mode operand) = (0x48 + bits) ∷ 0xff ∷ (64 * mode + 8 * 4 + operand) ∷ []

-- It ends an epilog, where these bytes up to the end of the row begin with it. By the published rules a jump with a displacement does so
-- wherever it leads, and of wide jumps the one at RIP alone; by what is known a jump with a displacement that leaves the function.
abbrev pub Ends : EpilogEnds → List ℕ → End → Type 0
Ends Published bytes (Jump opcode) = (opcode ≡ 0xeb) ⊎ (opcode ≡ 0xe9)
Ends Published bytes (WideJump bits mode operand) = (bits ≡ 0) × (mode ≡ 0) × (operand ≡ 5)
Ends Published bytes (JumpByte byte) = ⊥
Ends Published bytes (JumpLong long) = ⊥
Ends (Known row) bytes (Jump opcode) = ⊥
Ends (Known row) bytes (WideJump bits mode operand) = (bits < 8) × (operand < 8)
Ends (Known row) bytes (JumpByte byte) = IsTrue (leaves row bytes (Some (2, signed_below 256 byte)))
Ends (Known row) bytes (JumpLong long) = IsTrue (leaves row bytes (Some (5, signed_below 4294967296 (long_number long))))
Ends ends bytes other = Unit {0}

-- What is left of an epilog is spelled by these bytes, which end with the row.
pub record IsSpelled (ends : EpilogEnds) (frame_register : Option Reg) (left : EpilogLeft) (bytes : List ℕ) : Type 0 where
  pub adjust : Adjust
  pub end : End
  pub rest : List ℕ
  pub spelled : bytes ≡ adjust_bytes adjust ++ (flat_map pop_bytes left.pops ++ (end_bytes end ++ rest))
  pub adjusts : Adjusts frame_register adjust left.adjustment
  pub ends_it : Ends ends (end_bytes end ++ rest) end

-- Bytes are read as what is left of an epilog exactly if its instructions spell them.
abbrev pub AreReadAsSpelled : Type 0
AreReadAsSpelled =
    (ends : EpilogEnds) (frame_register : Option Reg) (left : EpilogLeft) (bytes : List ℕ)
    → (epilog_of ends frame_register bytes ≡ Some left) ↔ IsSpelled ends frame_register left bytes
