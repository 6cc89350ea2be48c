use Rattle.std.proofs.Common.{◌≡◌, length}
use Rattle.std.specs.Prelude.{bytes_eq}
use Rattle.framehop_modules.proofs.module_section_info.is_name.Given as goal

abbrev pub invariant-bytes : goal.invariant-bytes
invariant-bytes l = bytes_eq l.fn.name l.fn.text ≡ bytes_eq l.left l.wanted

abbrev pub decreases-bytes : goal.decreases-bytes
decreases-bytes l = length l.left
