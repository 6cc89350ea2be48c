use Rattle.std.proofs.Common.{◌≡◌, ◌<◌, drop, length, None}
use Rattle.std.specs.Prelude.{IfSome}
use Rattle.rust_names.specs.Punycode.{last_underscore}
use Rattle.rust_names.proofs.punycode.delimiter.Given as goal

-- what is left has the last of them, or else it was found
abbrev pub invariant-loop-i : goal.invariant-loop-i
invariant-loop-i l = record {
  same : last_underscore l.i l.found (drop l.i l.bytes) ≡ last_underscore 0 None l.bytes;
  within : IfSome l.found (λ at. at < length l.bytes);
}
