-- The sections that are chosen after `.debug_frame` was handed out, and modules that have that section beside another.
use Rattle.std.proofs.Common.{◌≡◌, ◌∙◌, ℕ, Bool, true, false, List, Option, Some, None, refl, sym, ap, inl, inr, ◌⊎◌}
use Rattle.std.specs.Prelude.{codes, not, option_map, unwrap_or, if◌then◌else◌}
use Rattle.std.specs.Option.{option_or}
use Rattle.framehop_modules.specs.Chosen.{chosen_sections, compact_sections, either_data, eh_frame_sections, pe_sections}
use Rattle.framehop_modules.specs.ChosenViews.{sections_bytes}
use Rattle.framehop_modules.specs.Sections.{SectionLeft, Sections}
use Rattle.framehop_modules.specs.declared.module_sections.ModuleSections.{ModuleSections}
use Rattle.framehop_modules.specs.declared.module_sections.ModuleSections.TheVariants.{CompactUnwindInfoAndEhFrame, PeUnwindInfo, EhFrame, DebugFrame, NoSections}
use Rattle.dwarf_frame_rows.specs.declared.base_addresses.BaseAddresses.{BaseAddresses}
use Rattle.framehop_loads.specs.UnwindData.{ModuleFormat, debug_frame_of, format_with}
use Rattle.framehop_loads.specs.declared.load_options.LoadOptions.{LoadOptions}

-- what is chosen with `.debug_frame`, by what is chosen without it
abbrev pub with_it : List ℕ → ModuleSections (List ℕ) → ModuleSections (List ℕ)
with_it bytes (CompactUnwindInfoAndEhFrame unwind_info eh_frame stubs stub_helper text) = CompactUnwindInfoAndEhFrame unwind_info eh_frame stubs stub_helper text
with_it bytes (PeUnwindInfo pdata rdata xdata text) = PeUnwindInfo pdata rdata xdata text
with_it bytes (EhFrame eh_frame header) = EhFrame eh_frame header
with_it bytes (DebugFrame other) = DebugFrame bytes
with_it bytes NoSections = DebugFrame bytes

module _ (s t : Sections) (left : SectionLeft (codes ".debug_frame") s t) where
  -- the sections that are preferred to it are as they were
  compact-left : (unwind_info : List ℕ) → compact_sections s unwind_info ≡ compact_sections t unwind_info
  compact-left unwind_info = sym (rw (left.segment_range, left.segment_data, left.section_range, left.section_data (codes "__eh_frame") refl, left.section_data (codes "__text") refl) refl)

  pe-left : (pdata : List ℕ) → pe_sections s pdata ≡ pe_sections t pdata
  pe-left pdata = sym (rw (left.section_range, left.section_data (codes ".rdata") refl, left.section_data (codes ".xdata") refl, left.section_data (codes ".text") refl) refl)

  eh-left : (bytes : List ℕ) → eh_frame_sections s bytes ≡ eh_frame_sections t bytes
  eh-left bytes = sym (rw (left.section_data (codes ".eh_frame_hdr") refl, left.section_data (codes "__eh_frame_hdr") refl) refl)

  -- the first that there is of the preferred ones, or else `.debug_frame`
  abbrev first_of_all : Sections → (unwind_info pdata eh_frame debug_frame : Option (List ℕ)) → ModuleSections (List ℕ)
  first_of_all u unwind_info pdata eh_frame debug_frame =
      unwrap_or (option_or (option_map (compact_sections u) unwind_info) (option_or (option_map (pe_sections u) pdata)
      (option_or (option_map (eh_frame_sections u) eh_frame) (option_or (option_map DebugFrame debug_frame) None)))) NoSections

  by : (bytes : List ℕ) (unwind_info pdata eh_frame debug_frame : Option (List ℕ)) → first_of_all s unwind_info pdata eh_frame (Some bytes) ≡ with_it bytes (first_of_all t unwind_info pdata eh_frame debug_frame)
  by bytes (Some unwind_info) pdata eh_frame debug_frame = compact-left unwind_info
  by bytes None (Some pdata) eh_frame debug_frame = pe-left pdata
  by bytes None None (Some eh_frame) debug_frame = eh-left eh_frame
  by bytes None None None (Some debug_frame) = refl
  by bytes None None None None = refl

  pub chosen-with_it : (bytes : List ℕ) → s.section_data (codes ".debug_frame") ≡ Some bytes → chosen_sections s ≡ with_it bytes (chosen_sections t)
  chosen-with_it bytes is =
      ap (λ (o : Option (List ℕ)). first_of_all s o (s.section_data (codes ".pdata")) (either_data s (codes ".eh_frame") (codes "__eh_frame")) (s.section_data (codes ".debug_frame"))) (sym (left.section_data (codes "__unwind_info") refl))
      ∙ ap (λ (o : Option (List ℕ)). first_of_all s (t.section_data (codes "__unwind_info")) o (either_data s (codes ".eh_frame") (codes "__eh_frame")) (s.section_data (codes ".debug_frame"))) (sym (left.section_data (codes ".pdata") refl))
      ∙ ap (λ (o : Option (List ℕ)). first_of_all s (t.section_data (codes "__unwind_info")) (t.section_data (codes ".pdata")) (option_or o (s.section_data (codes "__eh_frame"))) (s.section_data (codes ".debug_frame"))) (sym (left.section_data (codes ".eh_frame") refl))
      ∙ ap (λ (o : Option (List ℕ)). first_of_all s (t.section_data (codes "__unwind_info")) (t.section_data (codes ".pdata")) (option_or (t.section_data (codes ".eh_frame")) o) (s.section_data (codes ".debug_frame"))) (sym (left.section_data (codes "__eh_frame") refl))
      ∙ ap (λ (o : Option (List ℕ)). first_of_all s (t.section_data (codes "__unwind_info")) (t.section_data (codes ".pdata")) (either_data t (codes ".eh_frame") (codes "__eh_frame")) o) is
      ∙ by bytes (t.section_data (codes "__unwind_info")) (t.section_data (codes ".pdata")) (either_data t (codes ".eh_frame") (codes "__eh_frame")) (t.section_data (codes ".debug_frame"))

-- what isn't left is asked for
pub asked-for : (b : Bool) → not b ≡ false → b ≡ true
asked-for true is = refl
asked-for false is = cc

-- what isn't `.debug_frame` stays
stays : {D : Type 0} (content : D → List ℕ) (bytes : List ℕ) (taken : ModuleSections D) → ((x : D) → taken ≡ DebugFrame x → ⊥) → (taken ≡ NoSections → ⊥)
    → sections_bytes content taken ≡ with_it bytes (sections_bytes content taken)
stays content bytes (CompactUnwindInfoAndEhFrame unwind_info eh_frame stubs stub_helper text) other some = refl
stays content bytes (PeUnwindInfo pdata rdata xdata text) other some = refl
stays content bytes (EhFrame eh_frame header) other some = refl
stays content bytes (DebugFrame debug_frame) other some = absurd (other debug_frame refl)
stays content bytes NoSections other some = absurd (some refl)

module _ {D : Type 0} (content : D → List ℕ) (options : LoadOptions) (asked : options.debug_frame_beside ≡ true) (s t : Sections) (left : SectionLeft (codes ".debug_frame") s t)
    (bytes : List ℕ) (given : Some bytes ≡ s.section_data (codes ".debug_frame")) (taken : ModuleSections D) (chosen : sections_bytes content taken ≡ chosen_sections t) (bases : BaseAddresses) (base : ℕ) where
  abbrev by_sections : Option (List ℕ) → ModuleSections (List ℕ) → ModuleFormat
  by_sections debug_frame sections = format_with options bases base debug_frame sections

  -- the format of a module with both, by what was taken
  format-both : by_sections (Some bytes) (with_it bytes (sections_bytes content taken)) ≡ by_sections (debug_frame_of options s) (chosen_sections s)
  format-both =
      ap (λ (c : ModuleSections (List ℕ)). by_sections (Some bytes) (with_it bytes c)) chosen
      ∙ ap (λ (c : ModuleSections (List ℕ)). by_sections (Some bytes) c) (sym (chosen-with_it s t left bytes (sym given)))
      ∙ ap (λ (o : Option (List ℕ)). by_sections o (chosen_sections s)) given
      ∙ ap (λ (b : Bool). by_sections (if b then s.section_data (codes ".debug_frame") else None) (chosen_sections s)) (sym asked)

  -- `.debug_frame` alone
  pub alone-is : ((x : D) × (taken ≡ DebugFrame x)) ⊎ (taken ≡ NoSections) → by_sections None (DebugFrame bytes) ≡ by_sections (debug_frame_of options s) (chosen_sections s)
  alone-is (inl (x, is)) = ap (λ (m : ModuleSections D). by_sections (Some bytes) (with_it bytes (sections_bytes content m))) (sym is) ∙ format-both
  alone-is (inr is) = ap (λ (m : ModuleSections D). by_sections (Some bytes) (with_it bytes (sections_bytes content m))) (sym is) ∙ format-both

  -- other sections, with it beside them
  pub beside-is : ((x : D) → taken ≡ DebugFrame x → ⊥) → (taken ≡ NoSections → ⊥) → by_sections (Some bytes) (sections_bytes content taken) ≡ by_sections (debug_frame_of options s) (chosen_sections s)
  beside-is other some =
      ap (λ (c : ModuleSections (List ℕ)). by_sections (Some bytes) c) (stays content bytes taken other some) ∙ format-both
