use Rattle.framehop_calls.specs.Sections.{sections_of}
use Rattle.framehop_c.proofs.Loads.{made_as_said}
use Rattle.framehop_c.proofs.modules.module_of.Goals as goal

pub returns : goal.returns
returns c =
    let made = c.load_module in
    made_as_said made.result c.args.file.now c.args.options _ (sections_of c.file_sections.result) c.new.ensures.bytes c.file_sections.ensures made.ensures.name
    made.ensures.start made.ensures.end made.ensures.base made.ensures.unwind_data
