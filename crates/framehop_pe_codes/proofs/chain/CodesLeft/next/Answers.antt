use Rattle.std.proofs.Common.{◌<◌, ◌∙◌, length, sym, arith}
use Rattle.std.proofs.lemmas.Bool.Decides.{nat_tests}
use Rattle.framehop_pe_codes.specs.Infos.{chain_from}
use Rattle.framehop_pe_codes.specs.Sections.{file_of, unwind_info_memory}
use Rattle.framehop_pe_codes.proofs.ChainCodes.{left-code, left-no-code}
use Rattle.framehop_pe_codes.proofs.chain.CodesLeft.next.Goals as goal

pub returns-in_default-clause-err : goal.returns-in_default-clause-err
returns-in_default-clause-err c =
    let s = c.infos.self in
    let some : 0 < length s.codes.now = grind (arith, nat_tests) in
    c.infos.invariant.same ∙ left-no-code s.is_framed s.codes.now (chain_from s.infos (unwind_info_memory (file_of s.sections)) s.is_first_framed s.chained) some (sym c.read_code.ensures.code ∙ c.in_default.is)

pub returns-clause-ok : goal.returns-clause-ok
returns-clause-ok c =
    let s = c.infos.self in
    let some : 0 < length s.codes.now = grind (arith, nat_tests) in
    c.infos.invariant.same
    ∙ rw c.bytes_after-self.ensures (left-code s.is_framed s.codes.now (chain_from s.infos (unwind_info_memory (file_of s.sections)) s.is_first_framed s.chained) c.in-Some.code c.in-Some.size some (sym c.read_code.ensures.code ∙ c.in-Some.is))
