use Rattle.std.proofs.Common.{rules, ◌∙◌, subst}
use Rattle.dr_store_sealed.specs.Files.{Endures}
use Rattle.dr_store_sealed.proofs.SealLemmas.{takes_some}
use Rattle.dr_store_sealed.proofs.appending.append_to.Goals as goal

pub returns-clause-put : goal.returns-clause-put
returns-clause-put g c =
    let s = c.args.seal.now in
    let seen = g.D.Disk.seen c.put_end.new.file in
    let is = g.D.Disk.may_leave c.put_end.new.file in
    subst (λ t. Endures seen is s.offset t) (c.deref.ensures.value ∙ c.in_ok-bytes.ensures.bytes) c.in_ok-put_end.ensures.put

pub returns-clause-some : goal.returns-clause-some
returns-clause-some g c filled =
    takes_some c.args.seal.now c.in_ok-bytes.last c.args.lines.now c.in_ok-bytes.ensures.takes (search rules) filled
