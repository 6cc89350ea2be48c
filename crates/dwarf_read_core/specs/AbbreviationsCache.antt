-- What caches of abbreviation tables keep.
use Rattle.std.specs.Prelude.{ℕ, ◌==◌, ◌≡◌, Bool, true, unwrap_or, List, Option, Some, None, Result, Ok, Err, count_by, if◌then◌else◌, map, nat_le, option_map}
use Rattle.std.specs.BTreeMap.{get}
use Rattle.std.specs.BTreeSet.{BTreeSet, contains}
use Rattle.std.specs.Iterator.{Drains, YieldsThen}
use Rattle.std.specs.Ordering.{nat_cmp}
use Rattle.std.specs.declared.rc.Rc.{Rc}
use Rattle.dwarf_constants.specs.declared.error.Error.{Error}
use Rattle.dwarf_offsets.specs.declared.DebugAbbrevOffset.{DebugAbbrevOffset}
use Rattle.dwarf_read_core.specs.AbbreviationTable.{Declaration, table_in}
use Rattle.dwarf_read_core.specs.DebugAbbrev.{declarations}
use Rattle.dwarf_read_core.specs.declared.abbrev.Abbreviations.{Abbreviations}
use Rattle.dwarf_read_core.specs.declared.abbrev.cache.AbbreviationsCache.{AbbreviationsCache}
use Rattle.dwarf_read_core.specs.declared.abbrev.cache.AbbreviationsCacheStrategy.{AbbreviationsCacheStrategy}
use Rattle.dwarf_read_core.specs.declared.abbrev.cache.AbbreviationsCacheStrategy.TheVariants.{All, Duplicates}
use Rattle.dwarf_readers.specs.Stretch.{Stretch}

-- the declarations of a table that is shared
abbrev pub shared_declarations : {Z : Type 0} → Rc Abbreviations Z → List Declaration
shared_declarations table = declarations table.value

-- a table in memory as its declarations, or an error
abbrev pub table_answer : {Z : Type 0} → Result (Rc Abbreviations Z) Error
    → Result (List Declaration) Error
table_answer (Ok table) = Ok (shared_declarations table)
table_answer (Err e) = Err e

-- what a cache keeps for an offset, if anything
abbrev pub kept_answer : AbbreviationsCache → ℕ → Option (Result (List Declaration) Error)
kept_answer cache offset = option_map table_answer (get nat_cmp cache.tables offset)

-- how often an offset has to come to be kept
abbrev pub least_count : AbbreviationsCacheStrategy → ℕ
least_count Duplicates = 2
least_count All = 1

-- an offset that comes is kept, by whether it came before
abbrev pub is_kept : AbbreviationsCacheStrategy → Bool → Bool
is_kept Duplicates again = again
is_kept All again = true

-- what is kept for an offset after these came: the section's answer, if the offset came often enough
abbrev pub populated_answer : AbbreviationsCacheStrategy → List ℕ → Stretch → ℕ
    → Option (Result (List Declaration) Error)
populated_answer strategy came section offset =
    if nat_le (least_count strategy) (count_by (λ o. o == offset) came) then Some (table_in offset section)
    else None

-- the answer of a cache for an offset: what it keeps, or else what the section has
abbrev pub cached_answer : AbbreviationsCache → Stretch → ℕ → Result (List Declaration) Error
cached_answer cache section offset = unwrap_or (kept_answer cache offset) (table_in offset section)

-- A cache keeps what is kept after these offsets came, whose numbers are their values.
abbrev pub Populates : {O : Type 0} → (value : O → ℕ) → AbbreviationsCacheStrategy → Stretch → AbbreviationsCache
    → List (DebugAbbrevOffset O) → Type 0
Populates value strategy section cache came = (offset : ℕ)
    → kept_answer cache offset ≡ populated_answer strategy (map (λ o. value o.0) came) section offset

-- An iterator gives offsets alone and ends, and this holds of the offsets that came.
abbrev pub GivesAll : {I O : Type 0} → (I → Option (Result (DebugAbbrevOffset O) Error) → I → Type 0) → I
    → (List (DebugAbbrevOffset O) → Type 0) → Type 0
GivesAll {I} {O} next_gives offsets Holds = (came : List (DebugAbbrevOffset O))
    × Drains next_gives offsets (map (λ offset. Ok offset) came) × Holds came

-- An iterator gives an error as its first.
abbrev pub GivesError : {I O : Type 0} → (I → Option (Result (DebugAbbrevOffset O) Error) → I → Type 0) → I → Error → Type 0
GivesError {I} {O} next_gives offsets e = (came : List (DebugAbbrevOffset O)) × (left : I)
    × YieldsThen next_gives offsets (map (λ offset. Ok offset) came) (Some (Err e)) left

-- A cache keeps the answer for an offset, and for all others what it kept before.
abbrev pub KeepsAt : ℕ → (ℕ → Result (List Declaration) Error) → AbbreviationsCache → AbbreviationsCache → Type 0
KeepsAt added answer old new = (offset : ℕ)
    → kept_answer new offset ≡ (if offset == added then Some (answer offset) else kept_answer old offset)

-- A set of offsets has one more.
abbrev pub HasAlso : ℕ → BTreeSet ℕ → BTreeSet ℕ → Type 0
HasAlso added old new = (offset : ℕ)
    → contains nat_cmp new offset ≡ (if offset == added then true else contains nat_cmp old offset)

-- Both caches keep the same.
abbrev pub KeepsSame : AbbreviationsCache → AbbreviationsCache → Type 0
KeepsSame old new = (offset : ℕ) → kept_answer new offset ≡ kept_answer old offset
