-- What is kept after a step, and what a cache then holds.
use Rattle.std.specs.Prelude.{ℕ, ◌≡◌, ◌<◌, List, Bool, Option, Some, None, IfSome, if◌then◌else◌}
use Rattle.std.specs.List.{All}
use Rattle.framehop_rules.specs.Slots.{Key, KeptRule, Kept, Layout, Finding, Hits, EmptySlot, OtherModules, OtherAddress, key_of, found_in, with_kept, counts_after}
use Rattle.framehop_unwinder.specs.Attempt.{Attempt, Says, Evaluates, SaysNothing, Meanings, attempt_at}
use Rattle.framehop_unwinder.specs.Frames.{Frame, lookup_address}
use Rattle.framehop_unwinder.specs.Modules.{Loaded, Loads}

-- the rule that is kept after an attempt: its own, or the fallback if it says nothing for any registers. A caller that was
-- found by registers and words is not kept, nor is anything if they gave none
abbrev pub rule_of_attempt : {Rule Registers : Type 0} → Rule → Attempt Rule Registers → Option Rule
rule_of_attempt fallback (Says rule) = Some rule
rule_of_attempt fallback (Evaluates caller) = None
rule_of_attempt fallback SaysNothing = Some fallback

-- the rule that is kept for a key while these modules are loaded
abbrev pub rule_kept : {Data Rule Registers : Type 0} → Meanings Data Rule Registers → List (Loaded Data) → Key → Option Rule
rule_kept m modules key = rule_of_attempt m.fallback (attempt_at m modules key.is_first key.address)

-- the key of a frame
abbrev pub key_for : Frame → ℕ → Key
key_for frame generation = key_of (lookup_address frame) frame.is_first generation

-- the slots of the sets of a cache
abbrev pub Sets : Type 0 → Type 0
Sets Rule = List (List (Option (KeptRule Rule)))

-- a key of this generation has the same rule kept by both
abbrev pub KeepsAlike : {Rule : Type 0} → ℕ → Key → (Key → Option Rule) → (Key → Option Rule) → Type 0
KeepsAlike generation key mine theirs = key.generation ≡ generation → theirs key ≡ mine key

-- the sets with a rule kept, if there is one to keep
abbrev pub with_any : {Rule : Type 0} → Layout → Sets Rule → Key → Option Rule → Sets Rule
with_any layout sets key None = sets
with_any layout sets key (Some rule) = with_kept layout sets key rule

-- a look-up that found its rule keeps nothing
abbrev pub with_missed : {Rule : Type 0} → Layout → Sets Rule → Key → Option Rule → Finding Rule → Sets Rule
with_missed layout sets key kept (Hits rule) = sets
with_missed layout sets key kept EmptySlot = with_any layout sets key kept
with_missed layout sets key kept OtherModules = with_any layout sets key kept
with_missed layout sets key kept OtherAddress = with_any layout sets key kept

-- the sets after a step under a key. Nothing is kept if the step was out of memory
abbrev pub sets_after : {Rule : Type 0} → Bool → (Key → Option Rule) → Key → Layout → Sets Rule → Sets Rule
sets_after wanted kept key layout sets =
    if wanted then sets else with_missed layout sets key (kept key) (found_in layout sets key)

-- A cache before and after a step under a key: its layout, the slots of its sets, and its counts.
pub record StepsCache {Rule : Type 0} (kept : Key → Option Rule) (key : Key) (wanted : Bool) (old new : Kept Rule) : Type 0 where
  pub layout : new.layout ≡ old.layout
  pub sets : new.sets ≡ sets_after wanted kept key old.layout old.sets
  pub counts : new.counts ≡ counts_after (found_in old.layout old.sets key) old.counts

-- A cache before and after a step whose rule it hasn't: the rule is kept under the key, if there is one to keep and the step isn't out of
-- memory.
pub record KeepsMissed {Rule : Type 0} (kept : Option Rule) (key : Key) (wanted : Bool) (old new : Kept Rule) : Type 0 where
  pub layout : new.layout ≡ old.layout
  pub sets : new.sets ≡ (if wanted then old.sets else with_any old.layout old.sets key kept)
  pub counts : new.counts ≡ old.counts

-- a cache before and after a step of an unwinder that is looked up by an address
abbrev pub StepsCacheAt : {Data Rule Registers : Type 0} → Meanings Data Rule Registers → Loads (Loaded Data) → (is_first : Bool) → (address : ℕ)
    → (wanted : Bool) → Kept Rule → Kept Rule → Type 0
StepsCacheAt m loads is_first address wanted old new =
    StepsCache (rule_kept m loads.modules) (key_of address is_first loads.generation) wanted old new

-- the same after a look-up that misses, which gave this key
abbrev pub MissKeeps : {Data Rule Registers : Type 0} → Meanings Data Rule Registers → Loads (Loaded Data) → (is_first : Bool) → (address : ℕ) → Key
    → (wanted : Bool) → Kept Rule → Kept Rule → Type 0
MissKeeps m loads is_first address key wanted old new =
    KeepsMissed (rule_kept m loads.modules (key_of address is_first loads.generation)) key wanted old new

-- an entry of this generation holds the rule that is kept for its key
abbrev pub FitsEntry : {Rule : Type 0} → (Key → Option Rule) → ℕ → KeptRule Rule → Type 0
FitsEntry kept generation entry = entry.key.generation ≡ generation → kept entry.key ≡ Some entry.rule

-- the entries in the slots of a set hold the rules that are kept for their keys, if they are of this generation
abbrev pub SetFits : {Rule : Type 0} → (Key → Option Rule) → ℕ → List (Option (KeptRule Rule)) → Type 0
SetFits kept generation set = All (λ slot. IfSome slot (FitsEntry kept generation)) set

-- Each entry of this generation holds the rule that is kept for its key.
pub record Fits {Rule : Type 0} (kept : Key → Option Rule) (generation : ℕ) (sets : List (List (Option (KeptRule Rule)))) : Type 0 where
  pub each : All (SetFits kept generation) sets

-- the cache fits an unwinder: for its generation it holds the rules that are kept for its modules
abbrev pub FitsLoads : {Data Rule Registers : Type 0} → Meanings Data Rule Registers → Loads (Loaded Data) → Kept Rule → Type 0
FitsLoads m loads cache = Fits (rule_kept m loads.modules) loads.generation cache.sets

-- the keys in the slots of a set are of generations below this one
abbrev pub SetIsBelow : {Rule : Type 0} → ℕ → List (Option (KeptRule Rule)) → Type 0
SetIsBelow generation set = All (λ slot. IfSome slot (λ entry. entry.key.generation < generation)) set

-- Each key in a slot is of a generation below this one.
pub record KeysBelow {Rule : Type 0} (generation : ℕ) (sets : List (List (Option (KeptRule Rule)))) : Type 0 where
  pub each : All (SetIsBelow generation) sets

-- a step under a key leaves slots fitting an unwinder, if both have the same rule kept for the key
abbrev pub KeepsFitting : {Rule : Type 0} → Bool → (Key → Option Rule) → (Key → Option Rule) → ℕ → Key → Kept Rule → Type 0
KeepsFitting wanted mine theirs generation key cache =
    KeepsAlike generation key mine theirs → Fits theirs generation cache.sets
    → Fits theirs generation (sets_after wanted mine key cache.layout cache.sets)

-- a step under a key of a generation below this one leaves keys below it
abbrev pub StaysBelow : {Rule : Type 0} → Bool → (Key → Option Rule) → ℕ → Key → Kept Rule → Type 0
StaysBelow wanted mine next key cache =
    key.generation < next → KeysBelow next cache.sets → KeysBelow next (sets_after wanted mine key cache.layout cache.sets)
