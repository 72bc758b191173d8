use Rattle.std.proofs.Common.{refl, subst, List, Contains, Some}
use Rattle.std.specs.Prelude.{◌↔◌, IsTrue}
use Rattle.dr_base.specs.Texts.{Text}
use Rattle.dr_route.specs.declared.key.Key.{Key}
use Rattle.dr_plan_model.specs.Networks.{Network}
use Rattle.dr_plan_model.specs.Walks.{Sends, Keeps}
use Rattle.dr_cert.specs.Surveying.{IsLetIn}
use Rattle.dr_cert.specs.Walking.{AfterTargets}
use Rattle.dr_cert.proofs.Looking.{next_come_to, looked}
use Rattle.dr_cert.proofs.walker.Walker.look.Goals as goal

pub mark_targets-requires-clause-come_to : goal.mark_targets-requires-clause-come_to
mark_targets-requires-clause-come_to c = λ to among.
    let P : List Text → Type 0 = λ ts. Contains ts to in
    let K : Key → Type 0 = λ k. Sends c.args.self.now.plan.now c.args.line.now.stop.node c.args.line.now.stop.caller k to in
    next_come_to c.args.self.now.plan.now c.args.line.now.stop to c.requires.come_to (subst K c.in_ok-key.ensures ((c.in_ok-targets.ensures.to to).0 (subst P c.as_slice.ensures among)))

pub returns : goal.returns
returns c =
    let T : List Text → Type 0 = λ ts. AfterTargets c.args.self.now c.mark_targets.new.self c.args.line.now.stop ts (Some c.in-Some.rank) in
    let after : T c.as_slice.result.now = rw c.in-Some.is at c.in_ok-rank.ensures in
    let N : Key → Type 0 = λ k. (to : Text) → Contains c.in_ok-targets.targets.to to ↔ Sends c.args.self.now.plan.now c.args.line.now.stop.node c.args.line.now.stop.caller k to in
    let H : Key → Type 0 = λ k. IsTrue c.in_ok-targets.targets.keep ↔ Keeps c.args.self.now.plan.now c.args.line.now.stop.node c.args.line.now.stop.caller k in
    let L : Network → Type 0 = λ p. IsTrue c.is_let_in.result ↔ IsLetIn p c.args.line.now in
    looked c.args.self.now c.mark_targets.new.self c.args.line.now c.in_ok-targets.targets.to c.in-Some.rank _ c.in_ok-targets.targets.keep c.requires.walking.sorted
    (subst T c.as_slice.ensures after) (subst N c.in_ok-key.ensures c.in_ok-targets.ensures.to) (subst H c.in_ok-key.ensures c.in_ok-targets.ensures.keep)
    (subst L after.1.plan c.is_let_in.ensures) c.does_something.ensures refl
