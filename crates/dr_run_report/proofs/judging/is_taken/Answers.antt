use Rattle.std.proofs.Common.{◌≡◌, sym, ◌∙◌, take, arith}
use Rattle.std.proofs.lemmas.Bool.{false≢true}
use Rattle.std.proofs.lemmas.List.{take_all}
use Rattle.dr_run_report.specs.Places.{TakesName}
use Rattle.dr_run_report.specs.declared.judging.Spot.{Spot}
use Rattle.dr_run_report.proofs.Finding.{none_found, none_more}
use Rattle.dr_run_report.proofs.judging.is_taken.Goals as goal

pub loop-ledger-preserved : goal.loop-ledger-preserved
loop-ledger-preserved c =
    none_more (λ (ledger : Spot). TakesName c.args.spot.now ledger) c.args.ledgers.now c.loop-ledger.ledger-index c.ledger-item.result c.loop-ledger-test.true c.ledger-item.is
    (λ takes. false≢true (sym c.if-takes.false ∙ c.takes.ensures.1 takes)) c.loop-ledger.invariant

pub returns : goal.returns
returns c =
    let all : take c.loop-ledger.ledger-index c.args.ledgers.now ≡ c.args.ledgers.now = take_all _ _ (omega arith) in
    none_found (λ (ledger : Spot). TakesName c.args.spot.now ledger) c.args.ledgers.now c.loop-ledger.ledger-index all c.loop-ledger.invariant
