use Rattle.dr_route.specs.Routes.{local}
use Rattle.dr_store_calls.proofs.Fitting.{keep_is, targets_are}
use Rattle.dr_store_calls.proofs.Takings.{not_to_local}
use Rattle.dr_store_calls.proofs.receiving.targets_of.Goals as goal

pub returns-in-Ok : goal.returns-in-Ok
returns-in-Ok c =
    let part = c.args.came.now.site.now in
    let caller = c.args.came.now.caller.now in
    let key = c.args.came.now.instance.now.key in
    let sent = c.in-Ok.ensures in
    record {
      to = targets_are part caller key c.in-Ok.targets.to sent.to sent.ordered;
      keep = keep_is part caller key c.in-Ok.targets.keep sent.keep;
      formed = (sent.ordered, λ among. not_to_local part caller key c.accepts-accepts.ensures.site ((sent.to local).0 among));
    }
