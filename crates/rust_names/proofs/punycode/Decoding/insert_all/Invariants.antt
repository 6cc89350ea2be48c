use Rattle.std.proofs.Common.{◌≡◌, ◌-◌}
use Rattle.rust_names.specs.Punycode.{all_inserted, view}
use Rattle.rust_names.proofs.punycode.Decoding.insert_all.Given as goal

-- the characters that are left give what all would give
abbrev pub invariant-loop-i : goal.invariant-loop-i
invariant-loop-i l = all_inserted (l.most - l.i) (view l.self) ≡ all_inserted l.most (view l.fn.self)
