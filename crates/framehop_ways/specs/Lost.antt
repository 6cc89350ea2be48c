-- What an instruction may leave unknown of the three registers that a step carries.
use Rattle.std.specs.Prelude.{ℕ, ◌==◌, ◌||◌, false}
use Rattle.framehop_ways.specs.declared.instruction.Lost.{Lost}

-- None of the three.
abbrev pub nothing_lost : Lost
nothing_lost = record { sp = false; fp = false; lr = false }

-- What is unknown once a general register of this number is written, where 31 is the zero register.
abbrev pub lost_by : ℕ → Lost
lost_by number = record { sp = false; fp = number == 29; lr = number == 30 }

-- The same, where 31 is the stack pointer.
abbrev pub lost_by_or_sp : ℕ → Lost
lost_by_or_sp number = record { sp = number == 31; fp = number == 29; lr = number == 30 }

-- What either makes unknown.
abbrev pub both_lost : Lost → Lost → Lost
both_lost one other = record { sp = one.sp || other.sp; fp = one.fp || other.fp; lr = one.lr || other.lr }
