use Rattle.std.proofs.Common.{◌≡◌, ◌≤◌, ◌<◌, ◌-◌, ◌*◌, ◌^◌, ◌++◌, length, take}
use Rattle.dwarf_readers.specs.Signed.{signed_groups_of, signed_string}
use Rattle.dwarf_readers.proofs.SignedSpellings.{bits_of}
use Rattle.dwarf_readers.proofs.leb128.write.Leb128.signed.Given as goal

-- the groups so far and those of the rest make the spelling
abbrev pub invariant-groups : goal.invariant-groups
invariant-groups l =
    record {
      count : l.len ≤ 9;
      size : length l.bytes ≡ 10;
      fits : bits_of l.rest * 128 ^ l.len < 2 ^ 63;
      same : take l.len l.bytes ++ signed_groups_of (9 - l.len) l.rest ≡ signed_string l.fn.value;
    }

abbrev pub decreases-groups : goal.decreases-groups
decreases-groups l = bits_of l.rest
