-- The lines that commands write, as bytes of ASCII text.
use Rattle.std.specs.Prelude.{ℕ, List, ◌++◌, codes, decimal, if◌then◌else◌}
use Rattle.json_program.specs.Lines.{hexadecimal}
use Rattle.framehop_registers.specs.declared.error.Error.{Error}
use Rattle.framehop_registers.specs.declared.error.Error.TheVariants.{CouldNotReadStack, FramepointerUnwindingMovedBackwards, DidNotAdvance, IntegerOverflow, ReturnAddressIsNull, OutOfMemory}
use Rattle.framehop_rules.specs.declared.rule_cache.CacheOccupancy.{CacheOccupancy}
use Rattle.framehop_rules.specs.declared.rule_cache.CacheStats.{CacheStats}
use Rattle.framehop_unwinder.specs.Frames.{Frame}

-- the name of an error, with the address that couldn't be read
abbrev pub error_name : Error → List ℕ
error_name (CouldNotReadStack address) = codes "CouldNotReadStack(" ++ hexadecimal address ++ codes ")"
error_name FramepointerUnwindingMovedBackwards = codes "FramepointerUnwindingMovedBackwards"
error_name DidNotAdvance = codes "DidNotAdvance"
error_name IntegerOverflow = codes "IntegerOverflow"
error_name ReturnAddressIsNull = codes "ReturnAddressIsNull"
error_name OutOfMemory = codes "OutOfMemory"

-- a frame of a walk: the instruction pointer, or a return address
abbrev pub frame_text : Frame → List ℕ
frame_text frame = (if frame.is_first then codes "frame ip " else codes "frame ra ") ++ hexadecimal frame.address

-- the counts of a cache: of lookups that found a rule, and of the three ways of finding none
abbrev pub counts_text : CacheStats → List ℕ
counts_text counts =
    codes "stats hits " ++ decimal counts.hit_count ++ codes " empty " ++ decimal counts.miss_empty_slot_count
    ++ codes " modules " ++ decimal counts.miss_wrong_modules_count
    ++ codes " addresses " ++ decimal counts.miss_wrong_address_count

-- how many slots a cache has, and in how many of them a rule is kept
abbrev pub occupancy_text : CacheOccupancy → List ℕ
occupancy_text occupancy = codes "occupancy slots " ++ decimal occupancy.slot_count ++ codes " rules " ++ decimal occupancy.rule_count
