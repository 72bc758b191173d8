use Rattle.std.proofs.Common.{◌≡◌, ◌∙◌, subst, sym, ap, refl, arith, inl, inr, Option, None, Some, Ok, List, Bool, ◌∷◌, [], ◌++◌, ◌+◌, ◌<◌}
use Rattle.std.proofs.lemmas.List.{length_push}
use Rattle.dr_run_control.specs.Consoles.{State}
use Rattle.dr_run_serve.specs.Sweeps.{Chain, ForgetsFirst, ForgetsOne, IsNotDue, counted}
use Rattle.dr_run_serve.specs.declared.sweep.OverInstance.{OverInstance}
use Rattle.dr_run_serve.proofs.Chained.{chain_more, counted_more}
use Rattle.dr_run_serve.proofs.sweeper.forget_due.Goals as goal

pub loop-turn-init : goal.loop-turn-init
loop-turn-init g c = ([], refl, refl, refl)

pub loop-turn-preserved : goal.loop-turn-preserved
loop-turn-preserved g c =
    let One = ForgetsOne g.L.Ledger.site g.L.Ledger.book g.L.Ledger.stands g.L.Ledger.failed g.B.Sharing.site g.B.Sharing.first c.args.since in
    let h = c.loop-turn.invariant in
    let came = c.in-Ok-Some.is_forgotten in
    let x : List OverInstance × State = (c.args.sweep.now.queue.items, (c.args.pass.now.made.count, c.args.pass.now.receipts.items)) in
    let y : List OverInstance × State = (c.loop-turn.sweep.queue.items, (c.loop-turn.pass.made.count, c.loop-turn.pass.receipts.items)) in
    let z : List OverInstance × State = (c.forget_first.new.sweep.queue.items, (c.forget_first.new.pass.made.count, c.forget_first.new.pass.receipts.items)) in
    let P : Option Bool → Type 0 = λ o. ForgetsFirst g.L.Ledger.site g.L.Ledger.book g.L.Ledger.stands g.L.Ledger.failed g.B.Sharing.site g.B.Sharing.first c.args.since y.0 y.1 (Ok o) z.0 z.1 in
    let one : One y came z = subst P c.in-Ok-Some.field-0-is c.in-Ok-Some.ensures in (
      h.0 ++ came ∷ [],
      chain_more One h.0 x y z came h.1 one,
      c.counted-count.ensures ∙ ap (λ n. counted n came) h.2 ∙ sym (counted_more 0 h.0 came),
      length_push h.0 came ∙ ap (λ n. n + 1) h.3,
    )

pub returns-in-Ok-None : goal.returns-in-Ok-None
returns-in-Ok-None g c =
    let One = ForgetsOne g.L.Ledger.site g.L.Ledger.book g.L.Ledger.stands g.L.Ledger.failed g.B.Sharing.site g.B.Sharing.first c.args.since in
    let h = c.loop-turn.invariant in
    let x : List OverInstance × State = (c.args.sweep.now.queue.items, (c.args.pass.now.made.count, c.args.pass.now.receipts.items)) in
    let y : List OverInstance × State = (c.loop-turn.sweep.queue.items, (c.loop-turn.pass.made.count, c.loop-turn.pass.receipts.items)) in
    let z : List OverInstance × State = (c.forget_first.new.sweep.queue.items, (c.forget_first.new.pass.made.count, c.forget_first.new.pass.receipts.items)) in
    let P : Option Bool → Type 0 = λ o. ForgetsFirst g.L.Ledger.site g.L.Ledger.book g.L.Ledger.stands g.L.Ledger.failed g.B.Sharing.site g.B.Sharing.first c.args.since y.0 y.1 (Ok o) z.0 z.1 in
    let none : P None = subst P c.in-Ok-None.field-0-is c.in-Ok-None.ensures in
    let same : Chain One h.0 x (y.0, z.1) = subst (λ (s : State). Chain One h.0 x (y.0, s)) (sym none.2) h.1 in (
      h.0,
      subst (λ (queue : List OverInstance). Chain One h.0 x (queue, z.1)) (sym none.1) same,
      h.2,
      inr (subst (λ n. n < 1000) (sym h.3) c.loop-turn-test.true, subst (λ (queue : List OverInstance). IsNotDue queue c.args.since) (sym none.1) none.0),
    )

pub returns-in-Err : goal.returns-in-Err
returns-in-Err g c =
    let h = c.loop-turn.invariant in
    (h.0, c.loop-turn.sweep.queue.items, (c.loop-turn.pass.made.count, c.loop-turn.pass.receipts.items), h.1, subst (λ n. n < 1000) (sym h.3) c.loop-turn-test.true, c.in-Err.ensures)

pub returns : goal.returns
returns g c =
    let h = c.loop-turn.invariant in
    let all : c.loop-turn._turn ≡ 1000 = omega (arith, c.loop-turn-test.false, c.loop-turn.auto._turn-end) in
    (h.0, h.1, h.2, inl (h.3 ∙ all))
