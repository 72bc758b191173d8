use Rattle.std.proofs.Common.{◌≡◌, sym, subst, List, ◌++◌, ◌∷◌, [], Option}
use Rattle.dr_cert_diff.specs.declared.change.RouteChange.{RouteChange}
use Rattle.dr_cert_diff.specs.Comparing.{Compares}
use Rattle.dr_cert_diff.specs.Going.{Adds, At}
use Rattle.dr_cert_diff.proofs.Adding.{adds_nothing, adds_one}
use Rattle.dr_cert_diff.proofs.going.note.Goals as goal

pub returns-in_default : goal.returns-in_default
returns-in_default c =
    let old = c.args.both.now.old.now.plan in
    let new = c.args.both.now.new.now.plan in
    let site = c.args.site.now in
    let cell = c.args.cell.now in
    adds_nothing old new site cell c.args.changes.now.items (subst (λ (o : Option RouteChange). Compares old new site cell o) c.in_default.is c.in_ok-change.ensures)

pub returns : goal.returns
returns c =
    let old = c.args.both.now.old.now.plan in
    let new = c.args.both.now.new.now.plan in
    let site = c.args.site.now in
    let cell = c.args.cell.now in
    let found = subst (λ (o : Option RouteChange). Compares old new site cell o) c.in-Some.is c.in_ok-change.ensures in
    let pushed : c.push.new.self.items ≡ c.args.changes.now.items ++ c.in-Some.change ∷ [] = c.in_ok-push.ensures.items in
    subst (λ (xs : List RouteChange). Adds old new (At old new site cell) c.args.changes.now.items xs) (sym pushed) (adds_one old new site cell c.args.changes.now.items c.in-Some.change found.0 found.1 found.2)
