use Rattle.std.proofs.Common.{ℕ, List, Option, Some, None}
use Rattle.dwarf_frame_rows.specs.declared.base_addresses.BaseAddresses.{BaseAddresses}
use Rattle.framehop_index.specs.declared.section_type.UnwindSectionType.TheVariants as section
use Rattle.framehop_modules.specs.Chosen.{base_svmas, chosen_sections}
use Rattle.framehop_modules.specs.declared.module_sections.ModuleSections.{ModuleSections}
use Rattle.framehop_modules.specs.declared.module_sections.ModuleSections.TheVariants.{CompactUnwindInfoAndEhFrame, PeUnwindInfo, EhFrame, DebugFrame, NoSections}
use Rattle.framehop_loads.specs.LoadOptions.{lookup_by}
use Rattle.framehop_loads.specs.UnwindData.{HasHeaderOfEhFrame, IsHeaderOfEhFrame, bases_of, debug_frame_of, format_with}
use Rattle.framehop_loads.specs.declared.load_options.FdeLookup.{FdeLookup}
use Rattle.framehop_loads.specs.declared.load_options.FdeLookup.TheVariants.{Auto, Index, Scan}
use Rattle.framehop_loads.specs.declared.load_options.LoadOptions.{LoadOptions}
use Rattle.framehop_loads.specs.declared.load_options.TableArch.{TableArch}
use Rattle.framehop.proofs.lookup_laws.headers_are_of_eh_frame.Goals as goal

-- without a header none is used
no-header : (bytes : List ℕ) (lookup : FdeLookup) (tables : Option TableArch) → IsHeaderOfEhFrame (section.DebugFrame bytes) (lookup_by lookup tables None)
no-header bytes Auto None = tt
no-header bytes Auto (Some arch) = tt
no-header bytes Index tables = tt
no-header bytes Scan tables = tt

of-format : (options : LoadOptions) (bases : BaseAddresses) (base : ℕ) (debug_frame : Option (List ℕ)) (chosen : ModuleSections (List ℕ)) → HasHeaderOfEhFrame (format_with options bases base debug_frame chosen)
of-format options bases base debug_frame (CompactUnwindInfoAndEhFrame unwind_info eh_frame stubs stub_helper text) = tt
of-format options bases base debug_frame (PeUnwindInfo pdata rdata xdata text) = tt
of-format options bases base (Some beside) (EhFrame bytes header) = (tt, no-header beside options.lookup options.tables)
of-format options bases base None (EhFrame bytes header) = (tt, tt)
of-format options bases base debug_frame (DebugFrame bytes) = (no-header bytes options.lookup options.tables, tt)
of-format options bases base debug_frame NoSections = tt

pub returns : goal.returns
returns c options s = of-format options (bases_of (base_svmas s)) s.base_svma (debug_frame_of options s) (chosen_sections s)
