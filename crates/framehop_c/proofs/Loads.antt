-- Modules that are made of files, and loads that are refused before there is one.
use Rattle.std.proofs.Common.{◌≡◌, ◌∙◌, ℕ, List, [], Result, Ok, Err, ap}
use Rattle.std.specs.Prelude.{IfOk}
use Rattle.framehop_modules.specs.Sections.{Sections}
use Rattle.framehop_unwinder.specs.Modules.{Loaded}
use Rattle.framehop_loads.specs.UnwindData.{UnwindData, unwind_data_with}
use Rattle.framehop_loads.specs.declared.load_options.LoadOptions.{LoadOptions}
use Rattle.framehop_calls.specs.Sections.{sections_listed}
use Rattle.framehop_c.specs.Files.{module_of}
use Rattle.framehop_c.specs.declared.files.MappedFile.{MappedFile}

-- a module without a name, with the sections that are said
pub made_as_said : {E : Type 0} (result : Result (Loaded UnwindData) E) (file : MappedFile) (options : LoadOptions) (text : List ℕ) (said : Sections)
    → text ≡ [] → said ≡ sections_listed file.base_svma file.sections.now
    → IfOk result (λ module_. module_.name ≡ text) → IfOk result (λ module_. module_.start ≡ file.start)
    → IfOk result (λ module_. module_.end ≡ file.end) → IfOk result (λ module_. module_.base ≡ file.base)
    → IfOk result (λ module_. module_.unwind_data ≡ unwind_data_with options said) → IfOk result (λ module_. module_ ≡ module_of file options)
made_as_said (Ok module_) file options text said text-is said-is named starts ends based given = λ j. record {
  name = (named ∙ text-is) j;
  start = starts j;
  end = ends j;
  base = based j;
  unwind_data = (given ∙ ap (λ (sections : Sections). unwind_data_with options sections) said-is) j;
}
made_as_said (Err error) file options text said text-is said-is named starts ends based given = tt
