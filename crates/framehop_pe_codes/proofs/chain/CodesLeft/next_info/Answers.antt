use Rattle.std.proofs.Common.{◌≡◌, ◌∙◌, ◌≢◌, ℕ, suc, ◌-◌, sym, ap, arith, rules}
use Rattle.std.specs.Prelude.{Bool}
use Rattle.std.proofs.lemmas.Result.{err_from_is_err_and}
use Rattle.framehop_pe_codes.specs.Codes.{codes_of}
use Rattle.framehop_pe_codes.specs.Infos.{chain_from}
use Rattle.framehop_pe_codes.specs.Sections.{file_of, unwind_info_memory}
use Rattle.framehop_pe_codes.proofs.ChainCodes.{both, left-end, left-unread, left-info}
use Rattle.framehop_pe_codes.proofs.chain.CodesLeft.next_info.Goals as goal

one-more : (n : ℕ) → n ≢ 0 → n ≡ suc (n - 1)
one-more n some = omega arith

pub returns-in_default-clause-ok : goal.returns-in_default-clause-ok
returns-in_default-clause-ok c =
    let s = c.args.self.now in
    left-end (unwind_info_memory (file_of s.sections)) s.is_first_framed s.is_framed s.codes.now c.requires.empty s.infos s.chained (search rules)

pub returns-in_err-bytes-clause-err : goal.returns-in_err-bytes-clause-err
returns-in_err-bytes-clause-err c =
    let s = c.args.self.now in
    let from = err_from_is_err_and c.from_residual.result c.from_residual.ensures.1 in
    rw (from.1, from.2) (left-unread (unwind_info_memory (file_of s.sections)) s.is_first_framed s.is_framed s.codes.now c.requires.empty s.infos (s.infos - 1) s.chained c.in-Some.address c.in_err-bytes.field-0.0
    (one-more s.infos c.if-self-eq0.false) c.in-Some.is c.in_err-bytes.ensures.err)

pub returns-clause-ok : goal.returns-clause-ok
returns-clause-ok c =
    let s = c.args.self.now in
    let info = c.in-Some-read_info.info in
    left-info (unwind_info_memory (file_of s.sections)) s.is_first_framed s.is_framed s.codes.now c.requires.empty s.infos (s.infos - 1) s.chained c.in-Some.address c.in_ok-bytes.bytes.now info
    (one-more s.infos c.if-self-eq0.false) c.in-Some.is c.in_ok-bytes.ensures.ok c.in-Some-read_info.ensures.info
    ∙ ap (λ (b : Bool). both (codes_of b info.codes.now) (chain_from (s.infos - 1) (unwind_info_memory (file_of s.sections)) s.is_first_framed info.chained)) (sym c.is_framed-self.ensures)
