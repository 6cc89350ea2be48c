-- FDEs that an index leaves out: those that can't be read, and those whose start or offset has more than 32 bits.
use Rattle.std.specs.Prelude.{ℕ, ◌^◌, nat_lt, if◌then◌else◌, Option, Some, None, option_map, Result, Ok, Err}
use Rattle.dwarf_constants.specs.declared.error.Error.{Error}
use Rattle.backtrace_lint.specs.declared.fdes.Code.{Code}
use Rattle.backtrace_lint.specs.declared.fdes.ListedFde.{ListedFde}
use Rattle.backtrace_lint.specs.declared.left_out.LeftOut.{LeftOut}
use Rattle.backtrace_lint.specs.declared.left_out.LeftOutCause.{LeftOutCause}
use Rattle.backtrace_lint.specs.declared.left_out.LeftOutCause.TheVariants.{Unread, FarStart, FarOffset}

-- why an index whose base is 0 leaves out the FDE at an offset, if it does
abbrev pub cause_of : (offset : ℕ) → Result Code Error → Option LeftOutCause
cause_of offset (Ok code) =
    if nat_lt code.start (2 ^ 32) then (if nat_lt offset (2 ^ 32) then None else Some FarOffset) else Some FarStart
cause_of offset (Err error) = Some (Unread error)

-- what is said of an FDE that is left out
abbrev pub left_out : ListedFde → Option LeftOut
left_out fde = option_map (λ cause. record { offset = fde.offset; cause = cause }) (cause_of fde.offset fde.read)
