use Rattle.std.proofs.Common.{rules}
use Rattle.std.proofs.lemmas.Fn.{always_returns_same}
use Rattle.dr_cert.proofs.Stops.{found, not_found}
use Rattle.dr_plan_sound.specs.Stops.{stop_cmp}
use Rattle.dr_cert.proofs.index.find.Goals as goal

pub returns-in-Ok : goal.returns-in-Ok
returns-in-Ok c =
    let at = c.in-Ok.ensures.position (λ line. stop_cmp line.stop c.args.stop.now) (always_returns_same _ _ _ (λ a r f' called. search rules)) in
    found c.args.lines.now c.args.stop.now c.in-Ok.place c.in-Ok.ensures.bound at

pub returns-in-Err : goal.returns-in-Err
returns-in-Err c =
    let parted = c.in-Err.ensures.position (λ line. stop_cmp line.stop c.args.stop.now) (always_returns_same _ _ _ (λ a r f' called. search rules)) in
    not_found c.args.lines.now c.args.stop.now c.in-Err.field-0 c.requires parted
