-- A byte order that is known when the program runs.
use Rattle.std.specs.Prelude.{Bool, true, false}
use Rattle.dwarf_endianity.specs.declared.endianity.RunTimeEndian.{RunTimeEndian}
use Rattle.dwarf_endianity.specs.declared.endianity.RunTimeEndian.TheVariants.{Little, Big}

-- whether the most significant byte comes first
abbrev pub runs_big : RunTimeEndian → Bool
runs_big Little = false
runs_big Big = true
