-- The attempt at a frame by a way out of its function, before what the module's tables say or after it.
use Rattle.std.specs.Prelude.{ℕ, ◌+◌, Bool, true, false, not, if◌then◌else◌, Option, Some, None}
use Rattle.framehop_code.specs.Places.{CodeBytes}
use Rattle.framehop_code.specs.declared.range.CodeRange.{CodeRange}
use Rattle.framehop_code_ways.specs.Callers.{FirstRule, rule_in_text}
use Rattle.framehop_loads.specs.UnwindData.{ModuleFormat, UnwindData, Compact, Pe}
use Rattle.framehop_loads.specs.WayBounds.{way_bounds}
use Rattle.framehop_unwinder.specs.Attempt.{Attempt, Says, SaysNothing}

-- Whether a frame goes by a way before what the tables say. In a first frame they may not hold yet, or no more. In a later one they do, but
-- code that no row of a PE file has is said to be that of a leaf, which calls nothing.
abbrev pub goes_before : ModuleFormat → (first : Bool) → Bool
goes_before any true = true
goes_before (Pe file) false = true
goes_before others false = false

-- Whether it goes by a way where the tables say nothing. In a later frame of a Mach-O file: if its function had a frame pointer, they would say
-- so. Code without call frames often has frame pointers in their place, and nothing says where its functions end: behind a call that never
-- returns another one begins. So the frame pointer is what a later frame goes by there.
abbrev pub goes_after : ModuleFormat → (first : Bool) → Bool
goes_after (Compact file eh_frame) first = not first
goes_after others first = false

-- where a frame goes on: a first one at its address, a later one behind its call, whose last byte is at the address
abbrev pub goes_on_at : (relative : ℕ) → (first : Bool) → ℕ
goes_on_at relative true = relative
goes_on_at relative false = relative + 1

-- the rule of the first way out from an address, if there is code to go by, and bounds of the code around the frame's
abbrev pub way_from : {Rule : Type 0} → FirstRule Rule → Option CodeBytes → Option CodeRange → (at : ℕ) → Bool → Option Rule
way_from first_rule None bounds at first = None
way_from first_rule (Some code) None at first = None
way_from first_rule (Some code) (Some bounds) at first = rule_in_text first_rule bounds code at first

-- .. of a frame of a module
abbrev pub way_at : {Rule : Type 0} → FirstRule Rule → UnwindData → (relative : ℕ) → Bool → Option Rule
way_at first_rule given relative first =
    way_from first_rule given.code (way_bounds given.format relative) (goes_on_at relative first) first

-- .. before what the tables say, and after it
abbrev pub way_before : {Rule : Type 0} → FirstRule Rule → UnwindData → (relative : ℕ) → Bool → Option Rule
way_before first_rule given relative first = if goes_before given.format first then way_at first_rule given relative first else None

abbrev pub way_after : {Rule : Type 0} → FirstRule Rule → UnwindData → (relative : ℕ) → Bool → Option Rule
way_after first_rule given relative first = if goes_after given.format first then way_at first_rule given relative first else None

-- the rule of a way, or else what is said
abbrev pub way_or : {Rule Registers : Type 0} → Option Rule → Attempt Rule Registers → Attempt Rule Registers
way_or (Some rule) said = Says rule
way_or None said = said

-- what is said, or else the rule of a way
abbrev pub or_way : {Rule Registers : Type 0} → Attempt Rule Registers → Option Rule → Attempt Rule Registers
or_way said None = said
or_way SaysNothing (Some rule) = Says rule
or_way said (Some rule) = said
