-- Pops are read as they are spelled.
use Rattle.std.proofs.Common.{◌≡◌, ◌∙◌, ℕ, zero, suc, ◌+◌, ◌-◌, ◌<◌, ◌≤◌, Bool, true, false, List, [], ◌∷◌, ◌++◌, length, take, refl, ap, sym, subst, arith}
use Rattle.std.specs.Prelude.{◌==◌, ◌&&◌, if◌then◌else◌, Option, Some, None}
use Rattle.std.specs.List.{flat_map}
use Rattle.std.specs.Option.{option_map}
use Rattle.std.proofs.Math.Seq.{drop-append_seam}
use Rattle.std.proofs.lemmas.Bool.Decides.{nat_tests}
use Rattle.framehop_registers.specs.declared.x86_64.unwindregs.Reg.{Reg}
use Rattle.framehop_registers.specs.declared.x86_64.unwindregs.Reg.TheVariants.{RAX, RDX, RCX, RBX, RSI, RDI, RBP, RSP, R8, R9, R10, R11, R12, R13, R14, R15}
use Rattle.framehop_pe_codes.specs.Codes.{register_numbered}
use Rattle.framehop_pe_codes.specs.Epilogs.{is_empty, is_pop, pop_bytes, pop_of, pops_of}
use Rattle.framehop_pe_codes.proofs.EpilogSpellings.{and-left, and-right}
use Rattle.framehop_pe_codes.proofs.Pops.{pops-cons, pops-end}

-- the pop that some bytes begin with
pub pop-read : (register : Reg) (rest : List ℕ) → pop_of (pop_bytes register ++ rest) ≡ Some (register, length (pop_bytes register))
unfolding pop_of
pop-read RAX rest = refl
pop-read RCX rest = refl
pop-read RDX rest = refl
pop-read RBX rest = refl
pop-read RSP rest = refl
pop-read RBP rest = refl
pop-read RSI rest = refl
pop-read RDI rest = refl
pop-read R8 rest = refl
pop-read R9 rest = refl
pop-read R10 rest = refl
pop-read R11 rest = refl
pop-read R12 rest = refl
pop-read R13 rest = refl
pop-read R14 rest = refl
pop-read R15 rest = refl

-- bytes are left before it is read
some-left : (register : Reg) (rest : List ℕ) → is_empty (pop_bytes register ++ rest) ≡ false
some-left RAX rest = refl
some-left RCX rest = refl
some-left RDX rest = refl
some-left RBX rest = refl
some-left RSP rest = refl
some-left RBP rest = refl
some-left RSI rest = refl
some-left RDI rest = refl
some-left R8 rest = refl
some-left R9 rest = refl
some-left R10 rest = refl
some-left R11 rest = refl
some-left R12 rest = refl
some-left R13 rest = refl
some-left R14 rest = refl
some-left R15 rest = refl

-- the pops that are spelled one after the other
pub pops-read : (registers : List Reg) → pops_of (flat_map pop_bytes registers) ≡ Some registers
pops-read [] = pops-end is_empty [] refl
pops-read (register ∷ more) =
    let rest = flat_map pop_bytes more in
    pops-cons is_empty (pop_bytes register ++ rest) register (length (pop_bytes register)) (some-left register rest) (pop-read register rest)
    ∙ ap (λ (bytes : List ℕ). option_map (λ registers. register ∷ registers) (pops_of bytes)) (drop-append_seam (pop_bytes register) rest)
    ∙ ap (option_map (λ registers. register ∷ registers)) (pops-read more)

-- a register by its number
low-bytes : (n : ℕ) → n < 8 → pop_bytes (register_numbered n) ≡ (0x58 + n) ∷ []
low-bytes zero h = refl
low-bytes (suc zero) h = refl
low-bytes (suc (suc zero)) h = refl
low-bytes (suc (suc (suc zero))) h = refl
low-bytes (suc (suc (suc (suc zero)))) h = refl
low-bytes (suc (suc (suc (suc (suc zero))))) h = refl
low-bytes (suc (suc (suc (suc (suc (suc zero)))))) h = refl
low-bytes (suc (suc (suc (suc (suc (suc (suc zero))))))) h = refl
low-bytes (suc (suc (suc (suc (suc (suc (suc (suc n)))))))) h = absurd (omega arith)

high-bytes : (n : ℕ) → n < 8 → pop_bytes (register_numbered (8 + n)) ≡ 0x41 ∷ (0x58 + n) ∷ []
high-bytes zero h = refl
high-bytes (suc zero) h = refl
high-bytes (suc (suc zero)) h = refl
high-bytes (suc (suc (suc zero))) h = refl
high-bytes (suc (suc (suc (suc zero)))) h = refl
high-bytes (suc (suc (suc (suc (suc zero))))) h = refl
high-bytes (suc (suc (suc (suc (suc (suc zero)))))) h = refl
high-bytes (suc (suc (suc (suc (suc (suc (suc zero))))))) h = refl
high-bytes (suc (suc (suc (suc (suc (suc (suc (suc n)))))))) h = absurd (omega arith)

abbrev AreBytes : List ℕ → Reg → ℕ → Type 0
AreBytes bytes register size = take size bytes ≡ pop_bytes register

short-bytes : (byte : ℕ) (rest : List ℕ) → is_pop byte ≡ true → AreBytes (byte ∷ rest) (register_numbered (byte - 0x58)) 1
short-bytes byte rest is =
    let above : 0x58 ≤ byte = grind (arith, nat_tests) in
    let below : byte < 0x60 = grind (arith, nat_tests) in
    let whole : 0x58 + (byte - 0x58) ≡ byte = omega arith in
    sym (low-bytes (byte - 0x58) (omega arith) ∙ ap (λ n. n ∷ []) whole)

long-bytes : (first byte : ℕ) (rest : List ℕ) → first ≡ 0x41 → is_pop byte ≡ true → AreBytes (first ∷ byte ∷ rest) (register_numbered (byte - 0x50)) 2
long-bytes first byte rest prefix is =
    let above : 0x58 ≤ byte = grind (arith, nat_tests) in
    let below : byte < 0x60 = grind (arith, nat_tests) in
    let whole : 0x58 + (byte - 0x58) ≡ byte = omega arith in
    let number : 8 + (byte - 0x58) ≡ byte - 0x50 = omega arith in
    ap (λ n. n ∷ byte ∷ []) prefix
    ∙ sym (ap (λ n. pop_bytes (register_numbered n)) (sym number) ∙ high-bytes (byte - 0x58) (omega arith) ∙ ap (λ n. 0x41 ∷ n ∷ []) whole)

abbrev AreBytesOf : List ℕ → Option (Reg × ℕ) → Type 0
AreBytesOf bytes None = Unit {0}
AreBytesOf bytes (Some found) = AreBytes bytes found.0 found.1

abbrev one_pop : Reg → ℕ → Option (Reg × ℕ)
one_pop register size = Some (register, size)

of-chosen : (short long : Bool) (one other : Reg) (bytes : List ℕ) → (short ≡ true → AreBytes bytes one 1) → (long ≡ true → AreBytes bytes other 2)
    → AreBytesOf bytes (if short then one_pop one 1 else if long then one_pop other 2 else None)
of-chosen true long one other bytes of_short of_long = of_short refl
of-chosen false true one other bytes of_short of_long = of_long refl
of-chosen false false one other bytes of_short of_long = tt

of-pop : (bytes : List ℕ) → AreBytesOf bytes (pop_of bytes)
unfolding pop_of
of-pop [] = tt
of-pop (byte ∷ []) =
    of-chosen (is_pop byte) ((byte == 0x41) && is_pop 0) (register_numbered (byte - 0x58)) (register_numbered (0 - 0x50)) (byte ∷ []) (short-bytes byte [])
    (λ is. absurd (let never : false ≡ true = and-right (byte == 0x41) (is_pop 0) is in cc))
of-pop (byte ∷ next ∷ rest) =
    of-chosen (is_pop byte) ((byte == 0x41) && is_pop next) (register_numbered (byte - 0x58)) (register_numbered (next - 0x50)) (byte ∷ next ∷ rest)
    (short-bytes byte (next ∷ rest))
    (λ is. long-bytes byte next rest (let same = and-left (byte == 0x41) (is_pop next) is in grind (arith, nat_tests)) (and-right (byte == 0x41) (is_pop next) is))

-- the bytes of the pop that some bytes begin with
pub pop-spelled : (bytes : List ℕ) (register : Reg) (size : ℕ) → pop_of bytes ≡ Some (register, size) → take size bytes ≡ pop_bytes register
pop-spelled bytes register size is = subst (AreBytesOf bytes) is (of-pop bytes)
