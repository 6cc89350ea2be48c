-- Parts of a step by unwind data, each of which may be refused.
use Rattle.std.specs.Prelude.{Option, ok_or, Result, Ok, Err}
use Rattle.framehop_errors.specs.declared.pe.PeUnwinderError.{PeUnwinderError}
use Rattle.framehop_errors.specs.declared.pe.PeUnwinderError.TheVariants.{MissingUnwindInfoData, MissingInstructionData, MissingStackData, UnwindInfoParseError, Aarch64Unsupported}

-- A value, or the refusal that is met first.
abbrev pub PeResult : Type 0 → Type 0
PeResult A = Result A PeUnwinderError

-- The first part, and then the second by what the first gave.
abbrev pub result_and_then : {A B : Type 0} → PeResult A → (A → PeResult B) → PeResult B
result_and_then (Ok value) next = next value
result_and_then (Err refusal) next = Err refusal

-- A value that may not be there, or else this refusal.
abbrev pub or_refusal : {A : Type 0} → PeUnwinderError → Option A → PeResult A
or_refusal refusal found = ok_or found refusal

-- A refusal for these registers and words of the stack.
abbrev pub IsOfStack : PeUnwinderError → Type 0
IsOfStack (MissingStackData address) = Unit {0}
IsOfStack (MissingUnwindInfoData address) = ⊥
IsOfStack (MissingInstructionData address) = ⊥
IsOfStack UnwindInfoParseError = ⊥
IsOfStack Aarch64Unsupported = ⊥

-- A refusal by the bytes of the file, for all registers and words.
abbrev pub IsOfFile : PeUnwinderError → Type 0
IsOfFile (MissingStackData address) = ⊥
IsOfFile (MissingUnwindInfoData address) = Unit {0}
IsOfFile (MissingInstructionData address) = Unit {0}
IsOfFile UnwindInfoParseError = Unit {0}
IsOfFile Aarch64Unsupported = Unit {0}
