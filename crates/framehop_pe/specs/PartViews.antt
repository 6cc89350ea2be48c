-- What contracts see of what is undone, and of the parts that are left to read, in memory.
use Rattle.std.specs.Prelude.{ℕ, ◌≡◌, List, [], ◌∷◌, map, Option, Some, None, Ok, option_map}
use Rattle.framehop_registers.specs.declared.x86_64.unwindregs.Reg.{Reg}
use Rattle.framehop_rules.specs.declared.x86_64.offset_or_pop.OffsetOrPop.{OffsetOrPop}
use Rattle.framehop_rules.specs.declared.x86_64.offset_or_pop.OffsetOrPop.TheVariants as part
use Rattle.framehop_errors.specs.declared.pe.PeUnwinderError.TheVariants.{UnwindInfoParseError}
use Rattle.framehop_pe_codes.specs.Epilogs.{EpilogLeft, pops_of}
use Rattle.framehop_pe_codes.specs.InfoViews.{operations_left}
use Rattle.framehop_pe_codes.specs.Refusals.{PeResult, result_and_then, or_refusal}
use Rattle.framehop_pe_codes.specs.declared.epilog.Epilog.{Epilog}
use Rattle.framehop_pe_codes.specs.declared.epilog.SpAdjustment.{SpAdjustment}
use Rattle.framehop_pe_codes.specs.declared.epilog.SpAdjustment.TheVariants.{Stays, Add, Lea}
use Rattle.framehop_pe_codes.specs.declared.operation.UnwindOperation.{UnwindOperation}
use Rattle.framehop_pe.specs.RuleParts.{operation_part, adjustment_parts}
use Rattle.framehop_pe.specs.ToUndo.{ToUndo, Leaf, ByEpilog, ByCodes}
use Rattle.framehop_pe.specs.declared.rules.CodeParts.{CodeParts}
use Rattle.framehop_pe.specs.declared.rules.EpilogParts.{EpilogParts}
use Rattle.framehop_pe.specs.declared.x86_64.pe.Undoing.{Undoing}
use Rattle.framehop_pe.specs.declared.x86_64.pe.Undoing.TheVariants as undoing

-- What is undone, by what was read of it.
abbrev pub IsRead : Undoing → ToUndo → Type 0
IsRead undoing.Leaf undo = undo ≡ Leaf
IsRead (undoing.Epilog frame_register epilog) undo =
    (pops : List Reg) × (pops_of epilog.rest.now ≡ Some pops)
    × (undo ≡ ByEpilog frame_register (record { adjustment = epilog.adjustment; pops = pops }))
IsRead (undoing.Codes codes) undo =
    (operations : List UnwindOperation) × (operations_left codes.left ≡ Ok operations)
    × (undo ≡ ByCodes (record { frame = codes.frame; operations = operations }))

-- The same of what is found to undo, which isn't refused.
abbrev pub IsFoundRead : PeResult ToUndo → Undoing → Type 0
IsFoundRead found undoing = (undo : ToUndo) × IsRead undoing undo × (found ≡ Ok undo)

-- The epilog at an address, by what was read of it.
abbrev pub IsEpilogRead : PeResult (Option EpilogLeft) → Option Epilog → Type 0
IsEpilogRead found None = found ≡ Ok None
IsEpilogRead found (Some epilog) =
    (pops : List Reg) × (pops_of epilog.rest.now ≡ Some pops)
    × (found ≡ Ok (Some (record { adjustment = epilog.adjustment; pops = pops })))

-- The parts of the codes that are left.
abbrev pub code_parts_left : CodeParts → PeResult (List OffsetOrPop)
code_parts_left parts = result_and_then (operations_left parts.left) (λ operations. Ok (map operation_part operations))

-- The parts of the epilog that are left.
abbrev pub epilog_parts_left : EpilogParts → PeResult (List OffsetOrPop)
epilog_parts_left parts =
    or_refusal UnwindInfoParseError (option_map (λ pops. adjustment_parts parts.epilog.adjustment (map part.Pop pops)) (pops_of parts.epilog.rest.now))

-- How many parts an adjustment has.
abbrev pub adjustment_size : SpAdjustment → ℕ
adjustment_size Stays = 0
adjustment_size (Add bytes) = 1
adjustment_size (Lea displacement) = 1

-- What comes next of parts that can be read: none at the end, or the first, and the others are left.
abbrev pub IsNextPart : List OffsetOrPop → Option OffsetOrPop → PeResult (List OffsetOrPop) → Type 0
IsNextPart all None left = all ≡ []
IsNextPart all (Some one) left = (more : List OffsetOrPop) × (left ≡ Ok more) × (all ≡ one ∷ more)

-- The steps of an iterator over parts: if they can be read, they come one after the other.
abbrev pub GivesBy : {S : Type 0} → (S → PeResult (List OffsetOrPop)) → S → Option OffsetOrPop → S → Type 0
GivesBy left before next after = (all : List OffsetOrPop) → left before ≡ Ok all → IsNextPart all next (left after)
