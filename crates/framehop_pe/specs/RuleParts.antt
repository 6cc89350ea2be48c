-- What is undone, as the sequence that a rule is made of: an offset and pops. A rule is there for few of them.
use Rattle.std.specs.Prelude.{ℕ, ◌/◌, ◌%◌, ◌==◌, ◌&&◌, nat_lt, if◌then◌else◌, List, ◌∷◌, map}
use Rattle.framehop_rules.specs.declared.x86_64.offset_or_pop.OffsetOrPop.{OffsetOrPop}
use Rattle.framehop_rules.specs.declared.x86_64.offset_or_pop.OffsetOrPop.TheVariants as part
use Rattle.framehop_pe_codes.specs.Epilogs.{EpilogLeft}
use Rattle.framehop_pe_codes.specs.declared.epilog.SpAdjustment.{SpAdjustment}
use Rattle.framehop_pe_codes.specs.declared.epilog.SpAdjustment.TheVariants.{Stays, Add, Lea}
use Rattle.framehop_pe_codes.specs.declared.operation.UnwindOperation.{UnwindOperation}
use Rattle.framehop_pe_codes.specs.declared.operation.UnwindOperation.TheVariants.{Push, Allocate}

-- So many bytes as an offset of a rule: a multiple of 8 that fits its field.
abbrev pub offset_part : ℕ → OffsetOrPop
offset_part bytes = if (bytes % 8 == 0) && nat_lt (bytes / 8) 65536 then part.OffsetBy8 (bytes / 8) else part.None

-- An operation of a prolog, to be undone.
abbrev pub operation_part : UnwindOperation → OffsetOrPop
operation_part (Allocate bytes) = offset_part bytes
operation_part (Push register) = part.Pop register
operation_part operation = part.None

-- An adjustment of an epilog, and what comes after it.
abbrev pub adjustment_parts : SpAdjustment → List OffsetOrPop → List OffsetOrPop
adjustment_parts Stays parts = parts
adjustment_parts (Add bytes) parts = offset_part bytes ∷ parts
adjustment_parts (Lea displacement) parts = part.None ∷ parts

-- What is left of an epilog.
abbrev pub epilog_parts : EpilogLeft → List OffsetOrPop
epilog_parts epilog = adjustment_parts epilog.adjustment (map part.Pop epilog.pops)
