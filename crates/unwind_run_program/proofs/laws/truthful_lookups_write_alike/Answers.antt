use Rattle.std.proofs.Common.{◌≡◌, ℕ, ◌+◌, List, [], ◌∷◌, ◌++◌, true, false, refl, sym, ap, subst, ◌∙◌}
use Rattle.std.specs.Prelude.{codes}
use Rattle.dwarf_frame_entries.specs.Entries.{contains}
use Rattle.framehop.specs.Attempts.{attempt_by_format, format_meanings}
use Rattle.framehop.specs.LookupsAlike.{AddressWithin}
use Rattle.framehop.specs.StepMeanings.{meanings_by}
use Rattle.framehop.specs.TableMethods.{table_methods}
use Rattle.framehop_loads.specs.UnwindData.{UnwindData, bases_of}
use Rattle.framehop_loads.specs.declared.load_options.Rows.TheVariants.{Published}
use Rattle.framehop_modules.specs.Chosen.{base_svmas}
use Rattle.framehop_unwinder.specs.Attempt.{Attempt}
use Rattle.framehop_unwinder.specs.Frames.{lookup_address}
use Rattle.framehop_unwinder.specs.Judge.{by_attempt}
use Rattle.framehop_whole_modules.specs.Attempts.{plain_attempt, whole_meanings}
use Rattle.framehop_whole_steps.specs.declared.registers.WholeRegs.{WholeRegs}
use Rattle.framehop_whole_steps.specs.declared.rule.WholeRule.{WholeRule}
use Rattle.unwind_run_program.specs.Lines.{outcome_line}
use Rattle.unwind_run_program.specs.Roads.{stated_section, stated_header}
use Rattle.unwind_run_program.specs.RoadsAlike.{headed_in}
use Rattle.unwind_run_program.specs.Sections.{data_stated, plain, scanning, sections_stated}
use Rattle.unwind_run_program.specs.Text.{frame_at, road_line, words_of}
use Rattle.unwind_run_program.proofs.OneModule.{alone_alike}
use Rattle.unwind_run_program.proofs.laws.truthful_lookups_write_alike.Goals as goal

pub returns : goal.returns
returns g k r covers limits forms arch =
    let rows = g.A.DwarfUnwinding.rows in
    let formats = format_meanings rows (table_methods g.A.PeUnwinding.pe_attempt g.A.CompactUnwindInfoUnwinding.compact) g.A.WayUnwinding.first_rule in
    let m = meanings_by g.A.UnwindRule.UnwindRule.meaning g.A.UnwindRule.UnwindRule.fallback formats limits in
    let t = r.tables in
    let base = t.base_svma in
    let frame = frame_at r.kind r.address in
    let registers = forms.stated r.registers in
    let alone = stated_section t ∷ [] in
    let other = bases_of (base_svmas (sections_stated base alone [])) in
    let headed = data_stated arch plain base (stated_section t ∷ stated_header t ∷ []) [] in
    let indexed = data_stated arch plain base alone [] in
    let scanned = data_stated arch scanning base alone [] in
    let contained : (relative : ℕ) → base + relative ≡ lookup_address frame → contains (base + relative) covers.fde ≡ true =
    λ relative is. subst (λ (x : ℕ). contains x covers.fde ≡ true) (sym is) covers.contained in
    let within : (relative : ℕ) → base + relative ≡ lookup_address frame → AddressWithin = λ relative is. record {
      h = headed_in t;
      bases = other;
      relative = relative;
      fde = covers.fde;
      truthful = record { truthful = covers.truthful; same = refl };
      found = record { listed = covers.listed; contained = contained relative is };
    } in
    let law = k.truthful_lookups_attempt_alike.ensures in
    let as_scanned : (relative : ℕ) → base + relative ≡ lookup_address frame → attempt_by_format formats limits headed relative frame.is_first ≡ attempt_by_format formats limits scanned relative frame.is_first =
    λ relative is. elim frame.is_first as (λ f. attempt_by_format formats limits headed relative f ≡ attempt_by_format formats limits scanned relative f)
    [ true ↦ sym ((law limits (within relative is)).by_scan true) | false ↦ sym ((law limits (within relative is)).by_scan false) ] in
    let as_headed : (relative : ℕ) → base + relative ≡ lookup_address frame → attempt_by_format formats limits indexed relative frame.is_first ≡ attempt_by_format formats limits headed relative frame.is_first =
    λ relative is. elim frame.is_first as (λ f. attempt_by_format formats limits indexed relative f ≡ attempt_by_format formats limits headed relative f)
    [ true ↦ (law limits (within relative is)).by_index true | false ↦ (law limits (within relative is)).by_index false ] in
    let c = g.A.CarriesRegisters.carrying in
    let without = k.published_rows_say_as_without.ensures in
    let w = whole_meanings c limits.rows rows.vendor m in
    let same : (one : UnwindData) → one.rows ≡ Published
    → ((relative : ℕ) → base + relative ≡ lookup_address frame → attempt_by_format formats limits one relative frame.is_first ≡ attempt_by_format formats limits scanned relative frame.is_first)
    → road_line w forms r one ≡ road_line w forms r scanned =
    λ one published alike. ap (λ (a : Attempt (WholeRule g.row.A-UnwindRule.Denot) (WholeRegs g.row.A-UnwindRegs.Denot)). outcome_line forms.text registers (by_attempt w frame.is_first registers (words_of r.stack) a))
    (alone_alike w base one scanned frame.is_first (lookup_address frame)
    (λ relative is. without limits one relative frame.is_first published ∙ ap plain_attempt (alike relative is) ∙ sym (without limits scanned relative frame.is_first refl))) in
    let last = road_line w forms r scanned in
    ap (λ (xs : List ℕ). codes "header " ++ xs ++ codes "index " ++ road_line w forms r indexed ++ codes "scan " ++ last) (same headed refl as_scanned)
    ∙ ap (λ (xs : List ℕ). codes "header " ++ last ++ codes "index " ++ xs ++ codes "scan " ++ last)
    (same indexed refl (λ relative is. as_headed relative is ∙ as_scanned relative is))
