-- How tables other than those of call frames say to unwind a frame, on an architecture.
use Rattle.std.specs.Prelude.{ℕ, Bool}
use Rattle.framehop_compact.specs.CompactMeanings.{CompactMeanings}
use Rattle.framehop_compact.specs.CompactSteps.{compact_step}
use Rattle.framehop_pe_codes.specs.Sections.{PeFile}
use Rattle.framehop_pe.specs.PeAttempts.{PeAttempt}
use Rattle.framehop.specs.PeMethods.{pe_methods}
use Rattle.framehop.specs.FormatMethods.{TableMethods}

-- by what the unwind data of PE files and compact unwind info mean
abbrev pub table_methods : {Rule Registers : Type 0} → (PeFile → ℕ → Bool → PeAttempt Rule Registers) → CompactMeanings Rule → TableMethods Rule Registers
table_methods attempt compact = record { pe = pe_methods attempt; compact = compact_step compact }
