use Rattle.std.proofs.Common.{ℕ, ◌+◌, List, take, drop, Option, sym, subst, rules}
use Rattle.std.proofs.KnownBytes.{Appends-trans}
use Rattle.std.proofs.Math.Seq.{take-add}
use Rattle.std.proofs.lemmas.List.{take_rest}
use Rattle.std.specs.Io.KnownBytes.{Appends}
use Rattle.json_program.proofs.transfer.write_all.Goals as goal

-- a write of k of the bytes that are left after n
appended_more : (a b c : Option (List ℕ)) (bytes : List ℕ) (n k : ℕ) → Appends a b (take n bytes) → Appends b c (take k (drop n bytes)) → Appends a c (take (n + k) bytes)
appended_more a b c bytes n k first then = subst (Appends a c) (sym (take-add n k bytes)) (Appends-trans a b c _ _ first then)

pub loop-written-preserved : goal.loop-written-preserved
loop-written-preserved g c = record {
  bound = search rules;
  front = appended_more _ _ _ _ _ _ c.loop-written.invariant.front (rw take_rest at c.in-Ok.ensures.bytes);
  sound = search rules;
}
