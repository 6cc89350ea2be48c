use Rattle.std.proofs.Common.{◌≡◌, ◌+◌, ◌≤◌, ◌++◌, [], ◌∷◌, length, map, ap, ◌∙◌, arith, inl, Ok, Some, None, option_map}
use Rattle.std.proofs.lemmas.List.{map_push}
use Rattle.std.proofs.lemmas.Result.{err_from_is_err_and}
use Rattle.dwarf_read_core.specs.AbbreviationTable.{attribute_at}
use Rattle.dwarf_read_core.specs.Abbreviations.{attribute}
use Rattle.dwarf_read_core.proofs.Tables.{attribute_takes, attributes_end, attributes_more, attributes_refused, attributes_start}
use Rattle.dwarf_readers.proofs.Laws.{leaves_is}
use Rattle.dwarf_read_core.proofs.abbrev.read_attributes.Goals as goal

pub attributes-init : goal.attributes-init
attributes-init g c =
    let empty : map attribute c.new-attributes.result.items ≡ [] = ap (map attribute) c.new-attributes.ensures.items in
    rw empty (attributes_start (g.R.Reader.stretch c.args.input.now))

pub returns-in_err-attribute : goal.returns-in_err-attribute
returns-in_err-attribute g c =
    let e = err_from_is_err_and c.from_residual.result c.from_residual.ensures.1 in
    rw (e.1, e.2) (inl (attributes_refused _ _ _ _ c.attributes.invariant c.in_err-attribute.ensures))

pub attributes-preserved : goal.attributes-preserved
attributes-preserved g c =
    let s = g.R.Reader.stretch c.attributes.input in
    let t = g.R.Reader.stretch c.read_attribute.new.input in
    let read : attribute_at s ≡ Ok (Some (attribute c.in-Some.attribute), t) =
    c.in_ok-attribute.ensures ∙ ap (λ a. Ok (option_map attribute a, t)) c.in-Some.is in
    let less : 1 + length t.bytes ≤ length s.bytes = leaves_is (attribute_takes s) read in
    let pushed : c.push.new.self.items ≡ c.attributes.attributes.items ++ c.in-Some.attribute ∷ [] = c.in_ok-push-in-Some.ensures.items in
    let seen : map attribute c.push.new.self.items ≡ map attribute c.attributes.attributes.items ++ attribute c.in-Some.attribute ∷ [] = ap (map attribute) pushed ∙ map_push attribute c.attributes.attributes.items c.in-Some.attribute in
    rw seen (attributes_more _ _ _ _ _ c.attributes.invariant read (omega arith))

pub returns-in-None : goal.returns-in-None
returns-in-None g c =
    let t = g.R.Reader.stretch c.read_attribute.new.input in
    let read : attribute_at (g.R.Reader.stretch c.attributes.input) ≡ Ok (None, t) =
    c.in_ok-attribute.ensures ∙ ap (λ a. Ok (option_map attribute a, t)) c.in-None.is in
    attributes_end _ _ _ _ c.attributes.invariant read

pub attributes-smaller : goal.attributes-smaller
attributes-smaller g c =
    let s = g.R.Reader.stretch c.attributes.input in
    let t = g.R.Reader.stretch c.read_attribute.new.input in
    let less : 1 + length t.bytes ≤ length s.bytes = leaves_is (attribute_takes s) c.in_ok-attribute.ensures in
    omega arith
