-- How functions are left, and the words that spell it.
--
-- Arm Architecture Reference Manual for A-profile architecture, C6.2 (AUTIBSP, B, BR, BRAA, BRK, EOR (shifted register), MOVZ, RET,
-- RETAB, TBZ).
use Rattle.std.specs.List.{flat_map}
use Rattle.std.specs.Int.{to_le_bytes, w32}
use Rattle.std.specs.Prelude.{ℕ, ◌≡◌, ◌≢◌, ◌+◌, ◌*◌, ◌<◌, ◌^◌, ◌⊎◌, ℤ, pos, List, [], ◌∷◌, ◌++◌, length}

-- The bytes of words, one after the other, each with its lowest byte first.
abbrev pub bytes_of_words : List ℕ → List ℕ
bytes_of_words words = flat_map (λ word. to_le_bytes w32 word) words

-- `b`: imm26, the distance, is in bits 0 to 25.
pub record IsBranch (word : ℕ) : Type 0 where
  pub distance : ℕ
  pub fits : distance < 2 ^ 26
  pub is : word ≡ 0x14000000 + distance

-- `br`: Rn is in bits 5 to 9.
pub record IsRegisterBranch (word : ℕ) : Type 0 where
  pub register : ℕ
  pub fits : register < 32
  pub is : word ≡ 0xd61f0000 + 2 ^ 5 * register

-- `movz x16` of a number, in bits 5 to 22; Rd is in bits 0 to 4, and bits 26 to 28 are free, since the analysis doesn't look at
-- them.
pub record IsMoveToX16 (word : ℕ) : Type 0 where
  pub form : ℕ
  pub number : ℕ
  pub form_fits : form < 8
  pub number_fits : number < 2 ^ 18
  pub is : word ≡ 2 ^ 31 + 2 ^ 30 + 2 ^ 26 * form + 2 ^ 25 + 2 ^ 23 + 2 ^ 5 * number + 16

-- `braa` with the modifier x16, in bits 0 to 4: Rn is in bits 5 to 9.
pub record IsAuthBranch (word : ℕ) : Type 0 where
  pub register : ℕ
  pub fits : register < 32
  pub is : word ≡ 0xd71f0800 + 2 ^ 5 * register + 16

-- The end of an authenticated tail call: `b`, or `movz x16` and `braa`.
abbrev pub IsTail : List ℕ → Type 0
IsTail [] = ⊥
IsTail (word ∷ []) = IsBranch word
IsTail (word ∷ next ∷ []) = IsMoveToX16 word × IsAuthBranch next
IsTail (word ∷ next ∷ third ∷ more) = ⊥

-- An authenticated tail call: `autibsp`; `eor x16, x30, x30, lsl #1`, `tbz x16, #62`, `brk #0xc471`, which check the address; its
-- end.
abbrev pub auth_tail_call : List ℕ → List ℕ
auth_tail_call tail = 0xd50323ff ∷ 0xca1e07d0 ∷ 0xb6f00050 ∷ 0xd4388e20 ∷ tail

-- A word that one can have.
abbrev pub IsWordOfAuthTailCall : ℕ → Type 0
IsWordOfAuthTailCall word =
    (word ≡ 0xd50323ff) ⊎ ((word ≡ 0xca1e07d0) ⊎ ((word ≡ 0xb6f00050) ⊎ ((word ≡ 0xd4388e20)
    ⊎ (IsBranch word ⊎ (IsMoveToX16 word ⊎ IsAuthBranch word)))))

-- The bytes begin with such a word.
abbrev pub BeginsWithWordOfAuthTailCall : List ℕ → Type 0
BeginsWithWordOfAuthTailCall bytes = (word : ℕ) × (suffix : List ℕ) × IsWordOfAuthTailCall word × (bytes ≡ to_le_bytes w32 word ++ suffix)

-- The ways to leave a function.
pub data FunctionEnd : Type 0 where
  Return : FunctionEnd
  AuthReturn : FunctionEnd
  TailCall : FunctionEnd
  AuthTailCall : FunctionEnd

-- The words of an end: `ret`; `retab`; `b`, if the stack pointer has moved by other than 0; an authenticated tail call.
abbrev pub IsEndOf : FunctionEnd → ℤ → List ℕ → Type 0
IsEndOf Return raised words = words ≡ 0xd65f03c0 ∷ []
IsEndOf AuthReturn raised words = words ≡ 0xd65f0fff ∷ []
IsEndOf TailCall raised words = (raised ≢ pos 0) × (word : ℕ) × IsBranch word × (words ≡ word ∷ [])
IsEndOf AuthTailCall raised words = (tail : List ℕ) × IsTail tail × (words ≡ auth_tail_call tail)

-- The word is an end by itself.
abbrev pub IsEndWord : ℕ → ℤ → Type 0
IsEndWord word raised = (end : FunctionEnd) × IsEndOf end raised (word ∷ [])

-- The bytes begin with the words of an end, the stack pointer having moved by so much.
pub record IsLeft (bytes : List ℕ) (raised : ℤ) : Type 0 where
  pub end : FunctionEnd
  pub words : List ℕ
  pub is : IsEndOf end raised words
  pub suffix : List ℕ
  pub spelled : bytes ≡ bytes_of_words words ++ suffix

-- The bytes begin with the end of an authenticated tail call, of so many words.
pub record BeginsWithTail (bytes : List ℕ) (count : ℕ) : Type 0 where
  pub tail : List ℕ
  pub is : IsTail tail
  pub suffix : List ℕ
  pub spelled : bytes ≡ bytes_of_words tail ++ suffix
  pub counted : count ≡ length tail

-- The bytes begin with an authenticated tail call, of so many words.
pub record BeginsWithAuthTailCall (bytes : List ℕ) (count : ℕ) : Type 0 where
  pub tail : List ℕ
  pub is : IsTail tail
  pub suffix : List ℕ
  pub spelled : bytes ≡ bytes_of_words (auth_tail_call tail) ++ suffix
  pub counted : count ≡ length (auth_tail_call tail)
