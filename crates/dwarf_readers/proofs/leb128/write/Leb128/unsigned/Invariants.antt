use Rattle.std.proofs.Common.{◌≡◌, ◌≤◌, ◌<◌, ◌-◌, ◌*◌, ◌^◌, ◌++◌, length, take}
use Rattle.dwarf_readers.specs.Unsigned.{groups_of, unsigned_string}
use Rattle.dwarf_readers.proofs.leb128.write.Leb128.unsigned.Given as goal

-- the groups so far and those of the rest make the spelling
abbrev pub invariant-groups : goal.invariant-groups
invariant-groups l =
    record {
      count : l.len ≤ 9;
      size : length l.bytes ≡ 10;
      fits : l.rest * 128 ^ l.len < 2 ^ 64;
      same : take l.len l.bytes ++ groups_of (9 - l.len) l.rest ≡ unsigned_string l.fn.value;
    }

abbrev pub decreases-groups : goal.decreases-groups
decreases-groups l = l.rest
