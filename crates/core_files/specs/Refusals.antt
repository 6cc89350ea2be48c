-- Values, or why there is none.
use Rattle.std.specs.Prelude.{◌≡◌, ℕ, ◌⊎◌, List, [], ◌∷◌, ◌++◌, Option, Some, None, Result, Ok, Err}
use Rattle.core_files.specs.declared.error.DescriptorError.{DescriptorError}
use Rattle.core_files.specs.declared.error.CoreError.{CoreError}
use Rattle.core_files.specs.declared.error.CoreError.TheVariants.{OutOfMemory, Elf, Descriptor}
use Rattle.elf_files.specs.Bytes.{ElfResult}

-- A value, or why a descriptor gives none.
abbrev pub Read : Type 0 → Type 0
Read A = Result A DescriptorError

-- A value, or why a core gives none.
abbrev pub CoreResult : Type 0 → Type 0
CoreResult A = Result A CoreError

-- The first part, and then the second by what the first gave.
abbrev pub result_and_then : {A B E : Type 0} → Result A E → (A → Result B E) → Result B E
result_and_then (Ok value) next = next value
result_and_then (Err refusal) next = Err refusal

-- The values of a first part, and then those of the others.
abbrev pub then_more : {A E : Type 0} → Result (List A) E → Result (List A) E → Result (List A) E
then_more first others = result_and_then first (λ some. result_and_then others (λ more. Ok (some ++ more)))

-- A list of one value.
abbrev pub one : {A E : Type 0} → Result A E → Result (List A) E
one value = result_and_then value (λ value. Ok (value ∷ []))

-- A value, or else a refusal.
abbrev pub or_refusal : {A E : Type 0} → E → Option A → Result A E
or_refusal refusal None = Err refusal
or_refusal refusal (Some value) = Ok value

-- What the file gives, as a core's.
abbrev pub by_elf : {A : Type 0} → ElfResult A → CoreResult A
by_elf (Ok value) = Ok value
by_elf (Err error) = Err (Elf error)

-- What the descriptor of the note with a number gives, as a core's.
abbrev pub by_note : {A : Type 0} → ℕ → Read A → CoreResult A
by_note number (Ok value) = Ok value
by_note number (Err error) = Err (Descriptor number error)

-- A call gave what is said, as a view shows it, or ran out of memory.
abbrev pub Gives : {A V : Type 0} → (A → V) → CoreResult A → CoreResult V → Type 0
Gives view (Ok value) said = said ≡ Ok (view value)
Gives view (Err error) said = (error ≡ OutOfMemory) ⊎ (said ≡ Err error)

-- A call made a list longer by what is said, or else ran out of memory or gave the error that is said.
abbrev pub Appends : {V U : Type 0} → List V → List V → CoreResult U → CoreResult (List V) → Type 0
Appends {V = V} old new (Ok value) said = (more : List V) × (said ≡ Ok more) × (new ≡ old ++ more)
Appends old new (Err error) said = (error ≡ OutOfMemory) ⊎ (said ≡ Err error)
