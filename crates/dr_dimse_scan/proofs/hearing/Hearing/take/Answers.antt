use Rattle.std.proofs.Common.{Option, Ok, length, sym, ap, subst}
use Rattle.dr_dimse.specs.declared.message.Message.{Message}
use Rattle.dr_dimse.specs.Taking.{TakesValue}
use Rattle.dr_dimse_scan.specs.declared.hearing.Reading.{Reading}
use Rattle.dr_dimse_scan.specs.Following.{HasHeard}
use Rattle.dr_dimse_scan.proofs.FollowLemmas.{goes_on, ends}
use Rattle.dr_dimse_scan.proofs.hearing.Hearing.take.Goals as goal

pub follow-reading-requires : goal.follow-reading-requires
follow-reading-requires c =
    let old = c.self.inside.assembly in
    let heard = subst (λ (x : Option Reading). HasHeard x old.stage) (sym c.replace-reading.ensures.value) c.self.invariant in
    let takes = subst (λ (x : Option Message). TakesValue old.awaited old.stage c.args.pdv (Ok x) c.take.new.self.stage) c.in-Ok-None.field-0-is c.in-Ok-None.ensures.takes in
    goes_on old.awaited old.stage c.args.pdv c.take.new.self.stage c.replace-reading.result (length c.data_so_far-before.result.now) heard (ap length c.data_so_far-before.ensures) takes

pub end-scan-requires : goal.end-scan-requires
end-scan-requires c =
    let old = c.self.inside.assembly in
    let heard = subst (λ (x : Option Reading). HasHeard x old.stage) (sym c.replace-last.ensures.value) c.self.invariant in
    let takes = subst (λ (x : Option Message). TakesValue old.awaited old.stage c.args.pdv (Ok x) c.take.new.self.stage) c.in-Ok-Some.field-0-is c.in-Ok-Some.ensures.takes in
    ends old.awaited old.stage c.args.pdv c.in-Ok-Some.message c.take.new.self.stage c.replace-last.result (length c.data_so_far-before.result.now) heard (ap length c.data_so_far-before.ensures) takes
