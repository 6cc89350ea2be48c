use Rattle.std.proofs.Common.{rules, ◌≡◌, Bool, true, false, IsTrue, refl, ◌∙◌}
use Rattle.dwarf_endianity.specs.ByteOrder.{same_order}
use Rattle.dwarf_readers.proofs.equality.equal_slices_are_alike.Goals as goal

one_order : (a b : Bool) → IsTrue (same_order a b) → a ≡ b
one_order true true h = refl
one_order true false h = absurd (cc)
one_order false true h = absurd (cc)
one_order false false h = refl

same_orders : (a b : Bool) → a ≡ b → same_order a b ≡ true
same_orders true true h = refl
same_orders true false h = absurd (cc)
same_orders false true h = absurd (cc)
same_orders false false h = refl

pub returns-clause-equal : goal.returns-clause-equal
returns-clause-equal g c = λ a b same.
    let order : IsTrue (g.E.PartialEq.eq a.endian b.endian) = search rules in
    let orders : IsTrue (same_order (g.E.Endianity.is_big a.endian) (g.E.Endianity.is_big b.endian)) = rw (g.met.E.Endianity.equal a.endian b.endian) at order in
    record { bytes = search rules; order = one_order _ _ orders }

pub returns-clause-alike : goal.returns-clause-alike
returns-clause-alike g c = λ a b same.
    let order : g.E.PartialEq.eq a.endian b.endian ≡ true = g.met.E.Endianity.equal a.endian b.endian ∙ same_orders _ _ same.order in
    rw (same.bytes, order) (search rules)

pub returns-clause-hash : goal.returns-clause-hash
returns-clause-hash g c = λ a b same.
    let order : g.E.PartialEq.eq a.endian b.endian ≡ true = g.met.E.Endianity.equal a.endian b.endian ∙ same_orders _ _ same.order in
    rw (same.bytes, g.met.E.Hash.respects_eq a.endian b.endian order) refl
