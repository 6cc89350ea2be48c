use Rattle.std.proofs.Common.{rules, ◌<◌, arith, inl, inr}
use Rattle.std.proofs.lemmas.Int.{to_z-of_z}
use Rattle.std.proofs.lemmas.Result.{err_from_is_err_and}
use Rattle.std.specs.Int.{w64}
use mir.Val.{SFits}
use Rattle.dwarf_readers.proofs.SignedValues.{signed_fits, signed_minus, signed_short, signed_sum, signed_unfit, weight_is}
use Rattle.dwarf_readers.proofs.leb128.read.signed.Goals as goal
use Rattle.dwarf_readers.proofs.leb128.read.signed.Goals.{then-groups-eq9-2-via-then-groups-eq9-2, then-groups-eq9-2-via-else-groups-eq9-2+then-groups-lt64}

pub returns-in_err-groups-clause-read : goal.returns-in_err-groups-clause-read
returns-in_err-groups-clause-read g c =
    let e = err_from_is_err_and c.from_residual.result c.from_residual.ensures.1 in
    rw (e.1, e.2) (signed_short (g.R.Reader.stretch c.args.r.now) _ _ c.in_err-groups.ensures.missing)

pub returns-then-not-is_sign-clause-read : goal.returns-then-not-is_sign-clause-read
returns-then-not-is_sign-clause-read g c =
    signed_unfit _ _ _ _ _ _ c.in_ok-groups.ensures.groups c.is_sign-is_sign.ensures c.if-groups-eq9.true c.if-not-is_sign.true

pub overflow_add-value : goal.overflow_add-value
overflow_add-value g c =
    let fits = signed_fits _ _ _ _ _ _ c.in_ok-groups.ensures.groups c.is_sign-is_sign.ensures c.else-groups-eq9.either in
    rw (c.from.ensures, fits.sum.shifted) (omega (arith, fits.sum.fits))

pub returns-then-groups-eq9-2-clause-read : goal.returns-then-groups-eq9-2-clause-read
returns-then-groups-eq9-2-clause-read g c =
    let fits = signed_fits _ _ _ _ _ _ c.in_ok-groups.ensures.groups c.is_sign-is_sign.ensures c.else-groups-eq9.either in
    let value : SFits w64 c.cast_signed.result = search rules in
    rw (to_z-of_z, c.cast_signed.ensures, c.from.ensures, fits.sum.shifted) (signed_sum _ _ _ _ _ c.in_ok-groups.ensures.groups fits.top
    (elim c.then-groups-eq9-2.branch [
      | then-groups-eq9-2-via-then-groups-eq9-2 w ↦ inl w.if-groups-eq9-2.true
      | then-groups-eq9-2-via-else-groups-eq9-2+then-groups-lt64 w ↦ inr w.if-groups-lt64.true
    ]))

pub returns-clause-read : goal.returns-clause-read
returns-clause-read g c =
    let groups = c.in_ok-groups.ensures.groups in
    let fits = signed_fits _ _ _ _ _ _ groups c.is_sign-is_sign.ensures c.else-groups-eq9.either in
    let value : SFits w64 c.cast_signed-2.result = search rules in
    let less : c.in_ok-groups.groups.count < 9 = omega (arith, c.if-groups-eq9-2.false, groups.within) in
    rw (to_z-of_z, c.cast_signed-2.ensures, c.from.ensures, fits.sum.shifted, weight_is c.in_ok-groups.groups.count less) (signed_minus _ _ _ _ _ groups less c.if-groups-lt64.false fits.end)
