-- The caller by a row, by what the call of the row returned.
use Rattle.std.proofs.Common.{◌≡◌, ℕ, Bool, Option, Some, None, Result, Ok, Err, sym, ap, subst, ◌∙◌}
use Rattle.std.proofs.Math.Path.{fun_ext}
use Rattle.dwarf_readers.specs.Stretch.{Stretch}
use Rattle.framehop_registers.proofs.Laws.{over_weaker}
use Rattle.framehop_registers.specs.Callback.{Words}
use Rattle.framehop_registers.specs.declared.aarch64.unwindregs.PtrAuthMask.{PtrAuthMask}
use Rattle.framehop_rules.specs.Outcome.{Caller}
use Rattle.framehop_expressions.specs.Registers.{known}
use Rattle.framehop_expressions.specs.declared.architecture.Architecture.{Architecture}
use Rattle.framehop_expressions.specs.declared.registers.KnownRegisters.{KnownRegisters}
use Rattle.framehop_whole_rows.specs.Callers.{IsResult, OverRow, RowPlace, WholeCaller, caller_of, row_frame, row_place}
use Rattle.framehop_whole_rows.specs.Rules.{RowFrame}
use Rattle.framehop_whole_rows.specs.declared.caller.CallerError.{CallerError}
use Rattle.framehop_whole_rows.specs.declared.caller.KnownCaller.{KnownCaller}
use Rattle.framehop_whole_steps.specs.Attempts.{caller_at, caller_by, caller_known, frame_at}
use Rattle.framehop_whole_steps.specs.Carrying.{Carrying}
use Rattle.framehop_whole_steps.specs.FoundRows.{FoundRow}
use Rattle.framehop_whole_steps.specs.Known.{known_of}
use Rattle.framehop_whole_steps.specs.Views.{Finds, FindsOver, caller_seen}
use Rattle.framehop_whole_steps.specs.declared.registers.WholeRegs.{WholeRegs}

-- a result of a row by the caller that is seen in it
abbrev pub seen : Result (Option KnownCaller) CallerError → Result (Option WholeCaller) CallerError
seen (Ok (Some caller)) = Ok (Some (caller_seen caller))
seen (Ok None) = Ok None
seen (Err why) = Err why

is-seen : (r : RowFrame) (result : Result (Option KnownCaller) CallerError) → IsResult r result → caller_of r ≡ seen result
is-seen r (Err why) is = is
is-seen r (Ok None) is = is
is-seen r (Ok (Some caller)) (whole, found, is) =
    let make : ℕ → (ℕ → Option ℕ) → WholeCaller = λ to registers. record { return_address = to; registers = registers } in
    let registers : whole.registers ≡ known caller.registers = fun_ext (λ number. sym (is.registers.values_are number)) in
    let same : whole ≡ caller_seen caller =
    ap (λ (to : ℕ). make to whole.registers) (sym is.return_address) ∙ ap (λ (values : ℕ → Option ℕ). make caller.return_address values) registers in
    found ∙ ap (λ (w : WholeCaller). Ok (Some w)) same

module _ {Registers : Type 0} (c : Carrying Registers) (first : Bool) (found : FoundRow) (regs : WholeRegs Registers) (all : KnownRegisters)
    (architecture : all.architecture ≡ c.architecture) (mask : all.mask ≡ c.mask regs.regs)
    (values : (number : ℕ) → known all number ≡ known_of c first regs number) where
  -- the frame of the call is the frame that is stated
  same-frame : (words : Words) → row_frame (row_place all found.section found.row found.column) words ≡ frame_at c (known all) regs.regs words found
  same-frame words =
      let make : Architecture → PtrAuthMask → RowFrame = λ a m. record {
        architecture = a;
        mask = m;
        frame = record { registers = known all; words = words };
        section = found.section;
        row = found.row;
        column = found.column;
      } in
      ap (λ (a : Architecture). make a all.mask) architecture ∙ ap (λ (m : PtrAuthMask). make c.architecture m) mask

  -- the caller that is stated is the one by the result
  pub by-result : (words : Words) (result : Result (Option KnownCaller) CallerError)
      → IsResult (row_frame (row_place all found.section found.row found.column) words) result
      → caller_by c (known all) regs (seen result) ≡ caller_at c first found regs words
  by-result words result is =
      let stated : known all ≡ known_of c first regs = fun_ext values in
      let one : seen result ≡ caller_of (frame_at c (known all) regs.regs words found) =
      sym (is-seen (row_frame (row_place all found.section found.row found.column) words) result is) ∙ ap (λ (r : RowFrame). caller_of r) (same-frame words) in
      ap (λ (by : Result (Option WholeCaller) CallerError). caller_by c (known all) regs by) one
      ∙ ap (λ (by : ℕ → Option ℕ). caller_known c found by regs words) stated

  -- so what was found is found
  module _ (place : RowPlace) (section : Stretch) (place_is : place ≡ row_place all section found.row found.column) (section_is : section ≡ found.section)
      (result : Result (Option KnownCaller) CallerError) (to : Option ℕ) (new : WholeRegs Registers) where
    same-place : place ≡ row_place all found.section found.row found.column
    same-place = place_is ∙ ap (λ (s : Stretch). row_place all s found.row found.column) section_is

    found-at : (words : Words) → IsResult (row_frame place words) result → Finds to regs new (caller_by c (known all) regs (seen result))
        → Finds to regs new (caller_at c first found regs words)
    found-at words is finds =
        let stated : IsResult (row_frame (row_place all found.section found.row found.column) words) result =
        subst (λ (p : RowPlace). IsResult (row_frame p words) result) same-place is in
        subst (λ (o : Option (Caller (WholeRegs Registers))). Finds to regs new o) (by-result words result stated) finds

    pub found-over : {Stack : Type 0} {step : Stack → ℕ → Result ℕ (Unit {0}) → Stack → Type 0} {from until : Stack}
        → OverRow step from until place (λ r. IsResult r result) → Finds to regs new (caller_by c (known all) regs (seen result))
        → FindsOver step from until to regs new (caller_at c first found)
    found-over over finds = over_weaker over (λ words is. found-at words is finds)
