use Rattle.std.proofs.Common.{◌≡◌, ◌++◌, [], ◌∷◌, map, ap, ◌∙◌, arith, None, Some, length, sym}
use Rattle.std.specs.BTreeMap.{get}
use Rattle.std.specs.Ordering.{nat_cmp}
use Rattle.std.proofs.lemmas.List.{length-map, map_push}
use Rattle.std.proofs.lemmas.Bool.Decides.{nat_tests}
use Rattle.dwarf_read_core.specs.AbbreviationTable.{place_among}
use Rattle.dwarf_read_core.specs.Abbreviations.{declaration}
use Rattle.dwarf_read_core.proofs.Places.{no_place, stand_apart, stand_in_order}
use Rattle.dwarf_read_core.proofs.abbrev.Abbreviations.insert.Goals as goal
use Rattle.dwarf_read_core.proofs.abbrev.Abbreviations.insert.Goals.{then-dense-place+then-code-place, else-dense-place+in_ok-insert}

pub invariant_of-result : goal.invariant_of-result
invariant_of-result c =
    let items = c.args.self.declarations.items in
    let pushed : c.push.new.self.items ≡ items ++ c.args.abbreviation ∷ [] = c.in_ok-push.ensures.items in
    let seen : map declaration c.push.new.self.items ≡ map declaration items ++ declaration c.args.abbreviation ∷ [] = ap (map declaration) pushed ∙ map_push declaration items c.args.abbreviation in
    let fresh : place_among c.args.abbreviation.code (map declaration items) ≡ None = no_place c.args.abbreviation.code (map declaration items) (sym c.has.ensures ∙ c.if-has.false) in
    let place : c.len-place.result ≡ length (map declaration items) = omega (arith, length-map items declaration) in
    record {
      places = λ code. rw seen (elim c.if-dense-place.branch [
        | then-dense-place+then-code-place w ↦ rw (w.dense-is, w.sparse-is) (stand_in_order (map declaration items) (declaration c.args.abbreviation) c.args.self.dense (get nat_cmp c.args.self.sparse) c.args.self.places fresh (omega arith) (omega arith) code)
        | else-dense-place+in_ok-insert w ↦
            let updates = w.in_ok-insert.ensures.updates in
            rw (w.dense-is, w.sparse-is) (stand_apart (map declaration items) (declaration c.args.abbreviation) c.args.self.dense (get nat_cmp c.args.self.sparse) (get nat_cmp w.insert.new.self) c.args.self.places fresh (updates.1 ∙ ap (λ n. Some n) place) (λ q apart. updates.2 q (grind (arith, nat_tests))) code)
      ]);
    }
