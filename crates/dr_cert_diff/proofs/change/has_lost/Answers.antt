use Rattle.std.proofs.Common.{◌≡◌, ◌≢◌, subst, List, [], take, arith}
use Rattle.std.specs.Prelude.{All}
use Rattle.std.proofs.lemmas.Bool.{false≢true}
use Rattle.std.proofs.lemmas.List.{take_all}
use Rattle.std.proofs.lemmas.List.Elements.{All-contains}
use Rattle.dr_cert_diff.specs.declared.change.RouteChange.{RouteChange}
use Rattle.dr_cert_diff.proofs.Gathering.{one_more_so}
use Rattle.dr_cert_diff.proofs.change.has_lost.Goals as goal

pub loop-change-preserved : goal.loop-change-preserved
loop-change-preserved c =
    one_more_so (λ (change : RouteChange). change.lost ≢ [] → ⊥) c.args.changes.now c.loop-change.change-index c.change-item.result c.loop-change-test.true c.change-item.is c.loop-change.invariant
    (λ some. false≢true (c.if-loses.ensures.1 some))

pub returns : goal.returns
returns c =
    let all : take c.loop-change.change-index c.args.changes.now ≡ c.args.changes.now = take_all _ _ (omega arith) in
    let none : All (λ (change : RouteChange). change.lost ≢ [] → ⊥) c.args.changes.now = subst (λ (xs : List RouteChange). All (λ (change : RouteChange). change.lost ≢ [] → ⊥) xs) all c.loop-change.invariant in (
      λ h. absurd (false≢true h),
      λ some. absurd (All-contains (λ (change : RouteChange). change.lost ≢ [] → ⊥) c.args.changes.now some.0 none some.1 some.2),
    )
