-- What contracts see of an epilog in memory.
use Rattle.std.specs.Prelude.{ℕ, ◌≡◌, ◌≤◌, List, ◌∷◌, length, take, Option, Some}
use Rattle.framehop_registers.specs.declared.x86_64.unwindregs.Reg.{Reg}
use Rattle.framehop_pe_codes.specs.EpilogEnds.{is_end}
use Rattle.framehop_pe_codes.specs.Epilogs.{EpilogLeft, epilog_of, pops_of, pops_until}
use Rattle.framehop_pe_codes.specs.declared.ends.EpilogEnds.{EpilogEnds}
use Rattle.framehop_pe_codes.specs.declared.epilog.Epilog.{Epilog}

-- The epilog in memory is what these bytes are.
pub record IsEpilog (ends : EpilogEnds) (frame_register : Option Reg) (epilog : Epilog) (bytes : List ℕ) : Type 0 where
  pub pops : List Reg
  pub popped : pops_of epilog.rest.now ≡ Some pops
  pub is : epilog_of ends frame_register bytes ≡ Some (record { adjustment = epilog.adjustment; pops = pops })

-- So many bytes are pops up to an end.
pub record AreFirstPops (ends : EpilogEnds) (bytes : List ℕ) (size : ℕ) : Type 0 where
  pub pops : List Reg
  pub within : size ≤ length bytes
  pub popped : pops_of (take size bytes) ≡ Some pops
  pub is : pops_until (is_end ends) bytes ≡ Some pops

-- If the bytes are pops, this holds of their registers.
abbrev pub OverPops : List ℕ → (List Reg → Type 0) → Type 0
OverPops bytes says = (registers : List Reg) → pops_of bytes ≡ Some registers → says registers

-- .. and this of what is left of the epilog.
abbrev pub OverEpilog : Epilog → (EpilogLeft → Type 0) → Type 0
OverEpilog epilog says = OverPops epilog.rest.now (λ pops. says (record { adjustment = epilog.adjustment; pops = pops }))

-- The first of the registers that are popped, and the bytes of the others.
pub record IsPoppedFirst (registers : List Reg) (register : Reg) (rest : List ℕ) : Type 0 where
  pub more : List Reg
  pub left : pops_of rest ≡ Some more
  pub is : registers ≡ register ∷ more
