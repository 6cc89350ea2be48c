-- What sections say by their names once the data of one of them were handed out.
use Rattle.std.proofs.Common.{◌≡◌, ℕ, zero, suc, List, [], ◌∷◌, Bool, true, false, cond, Option, Some, None, option_map, refl, sym, ◌∙◌, ap}
use Rattle.std.specs.Prelude.{IfSome, bytes_eq, slice_set, string_bytes}
use Rattle.std.specs.List.{slice_index_or}
use Rattle.std.specs.Option.{option_or}
use Rattle.std.proofs.lemmas.Slice.Eq.{bytes_eq-Decides}
use Rattle.framehop_modules.specs.Sections.{bare_name, may_be_one, SectionLeft, SegmentLeft}
use Rattle.unwind_run_document.specs.CommandViews.{section_view, sections_view}
use Rattle.unwind_run_program.specs.Sections.{first_data_named, stated_range_named, range_of, sections_stated}
use Rattle.unwind_run_document.specs.declared.command.StatedSection.{StatedSection as Section}

-- names that may not be those of one section differ
names_differ : (name other : List ℕ) (same : Bool) → bytes_eq name other ≡ same → may_be_one name other ≡ false → bytes_eq name other ≡ false
names_differ name other false is apart = is
names_differ name other true is apart =
    let one : name ≡ other = (bytes_eq-Decides name other).0 is in
    let may : may_be_one name other ≡ true = (bytes_eq-Decides (bare_name name) (bare_name other)).1 (ap bare_name one) in
    cc

-- a section in the place of one of the same name and range changes no range
ranges_kept : (name : List ℕ) (ss : List Section) (i : ℕ) (s d : Section)
    → s.name ≡ (slice_index_or ss i d).name → s.range ≡ (slice_index_or ss i d).range
    → stated_range_named name (sections_view (slice_set ss i s)) ≡ stated_range_named name (sections_view ss)
ranges_kept name [] i s d named ranged = refl
ranges_kept name (x ∷ ss) zero s d named ranged = λ j.
    option_or (cond (bytes_eq (string_bytes (named j)) name) (option_map range_of (ranged j)) None) (stated_range_named name (sections_view ss))
ranges_kept name (x ∷ ss) (suc i) s d named ranged =
    ap (λ found. option_or (cond (bytes_eq (string_bytes x.name) name) (option_map range_of x.range) None) found)
    (ranges_kept name ss i s d named ranged)

-- nor the data under another name
data_kept : (name : List ℕ) (ss : List Section) (i : ℕ) (s d : Section)
    → s.name ≡ (slice_index_or ss i d).name → bytes_eq (string_bytes s.name) name ≡ false
    → first_data_named name (sections_view (slice_set ss i s)) ≡ first_data_named name (sections_view ss)
data_kept name [] i s d named other = refl
data_kept name (x ∷ ss) zero s d named other =
    ap (λ b. option_or (cond b (section_view s).bytes None) (first_data_named name (sections_view ss))) other
    ∙ sym (ap (λ b. option_or (cond b (section_view x).bytes None) (first_data_named name (sections_view ss)))
    (ap (λ n. bytes_eq (string_bytes n) name) (sym named) ∙ other))
data_kept name (x ∷ ss) (suc i) s d named other =
    ap (λ found. option_or (cond (bytes_eq (string_bytes x.name) name) (section_view x).bytes None) found)
    (data_kept name ss i s d named other)

-- so its data alone were handed out
pub one_given : (base_svma : ℕ) (name : List ℕ) (ss gs : List Section) (i : ℕ) (s d : Section)
    → s.name ≡ (slice_index_or ss i d).name → s.range ≡ (slice_index_or ss i d).range → string_bytes s.name ≡ name
    → SectionLeft name (sections_stated base_svma (sections_view ss) (sections_view gs)) (sections_stated base_svma (sections_view (slice_set ss i s)) (sections_view gs))
one_given base_svma name ss gs i s d named ranged is = record {
  base_svma = refl;
  section_range = λ j other. ranges_kept other ss i s d named ranged j;
  section_data = λ other apart. data_kept other ss i s d named
      (ap (λ n. bytes_eq n other) is ∙ names_differ name other (bytes_eq name other) refl apart);
  segment_range = refl;
  segment_data = refl;
}

-- and so of a segment
pub one_segment_given : (base_svma : ℕ) (name : List ℕ) (ss gs : List Section) (i : ℕ) (s d : Section)
    → s.name ≡ (slice_index_or gs i d).name → s.range ≡ (slice_index_or gs i d).range → string_bytes s.name ≡ name
    → SegmentLeft name (sections_stated base_svma (sections_view ss) (sections_view gs)) (sections_stated base_svma (sections_view ss) (sections_view (slice_set gs i s)))
one_segment_given base_svma name ss gs i s d named ranged is = record {
  base_svma = refl;
  section_range = refl;
  section_data = refl;
  segment_range = λ j other. ranges_kept other gs i s d named ranged j;
  segment_data = λ other apart. data_kept other gs i s d named (ap (λ n. bytes_eq n other) is ∙ apart);
}

-- what holds anyway holds of what is there
pub if_some_holds : {A : Type 0} (o : Option A) (P : Type 0) → P → IfSome o (λ _. P)
if_some_holds (Some x) P p = p
if_some_holds None P p = tt
