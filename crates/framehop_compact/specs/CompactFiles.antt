-- The sections of a Mach-O file that compact unwind info needs, by their bytes. Addresses are relative to the module's base.
use Rattle.std.specs.Prelude.{ℕ, List, Option, option_map}
use Rattle.framehop_code_rules.specs.declared.CodeRules.{CodeRules}
use Rattle.framehop_compact.specs.declared.sections.CompactSections.{CompactSections}
use Rattle.framehop_compact.specs.declared.sections.TextBytes.{TextBytes}

-- Bytes of code, from an address on.
pub record Code : Type 0 where
  pub start : ℕ
  pub bytes : List ℕ

-- `__unwind_info`, the code if it is there, the ranges of `__stubs` and `__stub_helper`, which are empty in a file without them, and by
-- which rules code is read.
pub record CompactFile : Type 0 where
  pub unwind_info : List ℕ
  pub text : Option Code
  pub stubs : ℕ × ℕ
  pub stub_helper : ℕ × ℕ
  pub code_rules : CodeRules

-- Code that is lent.
abbrev pub code_of : TextBytes → Code
code_of text = record { start = text.offset_from_base_address; bytes = text.bytes.now }

-- The sections of a file that are lent.
abbrev pub file_of : CompactSections → CompactFile
file_of sections = record {
  unwind_info = sections.unwind_info.bytes.now;
  text = option_map code_of sections.text;
  stubs = sections.stubs;
  stub_helper = sections.stub_helper;
  code_rules = sections.code_rules;
}
