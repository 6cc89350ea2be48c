use Rattle.std.proofs.Common.{◌≡◌, ◌∙◌, ap, Some, None, option_map}
use Rattle.dwarf_read_core.specs.AbbreviationTable.{place_among}
use Rattle.dwarf_read_core.specs.Abbreviations.{declaration}
use Rattle.dwarf_read_core.specs.DebugAbbrev.{declarations}
use Rattle.dwarf_read_core.proofs.Places.{at_place, declared_place_of, lent_at_place}
use Rattle.dwarf_read_core.proofs.abbrev.Abbreviations.get.Goals as goal

pub returns-in_err-place : goal.returns-in_err-place
returns-in_err-place c =
    let ds = declarations c.args.self.now in
    let place : None ≡ place_among c.args.code ds = c.in_err-place.ensures in
    ap (option_map (λ a. declaration a.now)) c.from_residual.ensures ∙ ap (at_place ds) place ∙ declared_place_of c.args.code ds

pub returns : goal.returns
returns c =
    let ds = declarations c.args.self.now in
    let place : Some c.in_ok-place.field-0 ≡ place_among c.args.code ds = c.in_ok-place.ensures in
    let lent = rw c.deref.ensures.value at c.get.ensures.lookup in
    lent_at_place c.args.self.now.declarations.items c.in_ok-place.field-0 c.get.result lent ∙ ap (at_place ds) place ∙ declared_place_of c.args.code ds
