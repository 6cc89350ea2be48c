-- The process of a core, and the module of a mapping.
use Rattle.std.proofs.Common.{◌≡◌, ℕ, List, [], ap, ◌∙◌}
use Rattle.backtrace_files.specs.Files.{CodeOfFile, ProcessFile, ranges_of}
use Rattle.backtrace_headings.specs.Headings.{Heading, heading_of}
use Rattle.core_files.specs.CoreFiles.{CoreContents}
use Rattle.core_files.specs.MappedFiles.{FileMapping}
use Rattle.core_files.specs.Memory.{word_at}
use Rattle.core_files.specs.Ranges.{KnownRange}
use Rattle.framehop_loads.specs.UnwindData.{UnwindData}
use Rattle.framehop_unwinder.specs.Modules.{Loaded}
use Rattle.backtrace_walks.specs.Backtraces.{Process, is_code_in, process_with}
use Rattle.backtrace_walks.specs.Modules.{data_of_code, module_with, modules_of}

-- files, the words of ranges and what is said, as a process
abbrev pub process_by : List ProcessFile → List KnownRange → List KnownRange → Heading → Process
process_by files segments ranges heading = record {
  files = files;
  modules = modules_of files;
  words = word_at segments ranges;
  is_code = is_code_in segments files;
  heading = heading;
}

pub same_process : (core : CoreContents) (files : List ProcessFile) (segments ranges : List KnownRange) (heading : Heading)
    → segments ≡ core.segments → ranges ≡ ranges_of files → heading ≡ heading_of core → process_by files segments ranges heading ≡ process_with core files
same_process core files segments ranges heading same_segments same_ranges same_heading =
    ap (λ (ss : List KnownRange). process_by files ss ranges heading) same_segments
    ∙ ap (λ (rs : List KnownRange). process_by files core.segments rs heading) same_ranges
    ∙ ap (λ (h : Heading). process_by files core.segments (ranges_of files) h) same_heading

-- a module, by its parts
abbrev pub module_by : List ℕ → ℕ → ℕ → ℕ → UnwindData → Loaded UnwindData
module_by name start end base given = record { name = name; start = start; end = end; base = base; unwind_data = given }

pub module_is : (module_ : Loaded UnwindData) (mapping : FileMapping) (code : CodeOfFile)
    → module_.name ≡ [] → module_.start ≡ mapping.start → module_.end ≡ mapping.end → module_.base ≡ code.base_avma
    → module_.unwind_data ≡ data_of_code code → module_ ≡ module_with mapping code
module_is module_ mapping code named starts ends based given =
    ap (λ (n : List ℕ). module_by n module_.start module_.end module_.base module_.unwind_data) named
    ∙ ap (λ (n : ℕ). module_by [] n module_.end module_.base module_.unwind_data) starts
    ∙ ap (λ (n : ℕ). module_by [] mapping.start n module_.base module_.unwind_data) ends
    ∙ ap (λ (n : ℕ). module_by [] mapping.start mapping.end n module_.unwind_data) based
    ∙ ap (λ (d : UnwindData). module_by [] mapping.start mapping.end code.base_avma d) given
