use Rattle.dr_site.specs.Sites.{IsCertified}
use Rattle.dr_world.proofs.Played.{changed_through, changes_go_on, changes_unfailed}
use Rattle.dr_world.proofs.world.adopting.World+Refusing+L.adopt.Goals as goal

pub returns-in-Ok-clause-plays : goal.returns-in-Ok-clause-plays
returns-in-Ok-clause-plays g c =
    let proper : IsCertified c.args.next.now.plan c.args.next.now.certificate = record { formed = c.plan-plan.ensures.well_formed; sound = c.plan-plan.ensures.sound; certified = c.certificate-certificate.ensures.own } in
    changes_go_on c.args.self.now c.change.new.self c.args.next.now proper c.in-Ok.change c.in-Ok.ensures.changes

pub returns-in-Ok-clause-holds : goal.returns-in-Ok-clause-holds
returns-in-Ok-clause-holds g c =
    let proper : IsCertified c.args.next.now.plan c.args.next.now.certificate = record { formed = c.plan-plan.ensures.well_formed; sound = c.plan-plan.ensures.sound; certified = c.certificate-certificate.ensures.own } in
    changed_through c.args.self.now c.change.new.self c.args.next.now proper c.in-Ok.change c.in-Ok.ensures.changes

pub returns-in-Ok-clause-changes : goal.returns-in-Ok-clause-changes
returns-in-Ok-clause-changes g c = changes_unfailed c.args.self.now c.change.new.self c.args.next.now.plan c.args.next.now.certificate c.in-Ok.change c.in-Ok.ensures.changes
