use Rattle.std.proofs.Common.{◌≡◌, List, ap, subst, ◌∙◌}
use Rattle.std.specs.Prelude.{string_bytes}
use Rattle.std.specs.List.{slice_index_or}
use Rattle.unwind_run_document.specs.declared.command.StatedSection.{StatedSection as Section}
use Rattle.unwind_run_program.proofs.SectionLists.{if_some_holds, one_segment_given}
use Rattle.unwind_run_program.proofs.sections.StatedSectionsModuleSectionInfoVecU8.segment_data.Goals as goal

pub returns-clause-given : goal.returns-clause-given
returns-clause-given c =
    let lent = c.index_mut.result.now in
    let left : Section = record { name = lent.name; range = lent.range; bytes = c.take.new.self } in
    if_some_holds c.take.result _
    (one_segment_given c.args.self.now.base_svma c.args.name.now c.args.self.now.sections.items c.args.self.now.segments.items c.in_ok-place.place left lent
    (ap (λ (s : Section). s.name) c.index_mut.ensures.value) (ap (λ (s : Section). s.range) c.index_mut.ensures.value)
    (ap (λ (s : Section). string_bytes s.name) c.index_mut.ensures.value
    ∙ subst (λ (ss : List Section). string_bytes (slice_index_or ss c.in_ok-place.place lent).name ≡ c.args.name.now) c.deref.ensures.value
    (c.in_ok-place.ensures.named lent)))
