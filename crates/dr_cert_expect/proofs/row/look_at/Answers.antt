use Rattle.std.proofs.Common.{◌≡◌, refl, sym, subst, rules}
use Rattle.std.proofs.lemmas.Bool.{false≢true}
use Rattle.dr_plan_model.specs.Networks.{Network}
use Rattle.dr_plan_model.specs.Plans.{IsWellFormed}
use Rattle.dr_cert_expect.specs.declared.row.Finding.{Finding}
use Rattle.dr_cert_expect.specs.Expected.{SpeaksOf}
use Rattle.dr_cert_expect.specs.Looking.{FindsAt}
use Rattle.dr_cert_expect.proofs.Judging.{met, no_case}
use Rattle.dr_cert_expect.proofs.row.look_at.Goals as goal

pub returns-then-not-speaks_of : goal.returns-then-not-speaks_of
returns-then-not-speaks_of c =
    no_case c.args.sealed.now.plan c.plan-plan.ensures.well_formed c.args.row.now c.args.line.now c.in_ok-key.key c.in_ok-key.ensures c.args.found.now
    (λ speaks entry. false≢true (c.if-not-speaks_of.ensures.1 speaks))

pub returns-in-Other : goal.returns-in-Other
returns-in-Other c =
    let plan = c.args.sealed.now.plan in
    let row = c.args.row.now in
    let line = c.args.line.now in
    let key = c.in_ok-key.key in
    no_case plan c.plan-plan.ensures.well_formed row line key c.in_ok-key.ensures c.args.found.now
    (λ speaks. subst (λ (f : Finding). FindsAt plan row line.stop.node key f) c.in-Other.is c.in_ok-judge.ensures)

pub returns-in-Met : goal.returns-in-Met
returns-in-Met c =
    let plan = c.args.sealed.now.plan in
    let row = c.args.row.now in
    let line = c.args.line.now in
    let key = c.in_ok-key.key in
    let found = subst (λ (f : Finding). FindsAt plan row line.stop.node key f) c.in-Met.is c.in_ok-judge.ensures in
    met plan c.plan-plan.ensures.well_formed row line key c.in_ok-key.ensures c.args.found.now (c.if-not-speaks_of.ensures.0 refl) found.0 found.1
