use Rattle.std.proofs.Common.{◌≡◌, ◌∙◌, ◌++◌, ◌∷◌, [], ℕ, Bool, Option, refl, subst, inl, inr}
use Rattle.dr_run_serve.proofs.Chained.{chain_more, some_more}
use Rattle.dr_run_serve.specs.Keeps.{KeepsOnce}
use Rattle.dr_run_serve.specs.Pasts.{TellsPage}
use Rattle.dr_run_serve.specs.Sendings.{TellsShut}
use Rattle.dr_run_serve.specs.Stages.{serves}
use Rattle.dr_run_serve.specs.Sweeps.{Sweeping, TurnsIf, sweeping}
use Rattle.dr_run_serve.specs.declared.shutting.EndStage.{EndStage}
use Rattle.dr_run_serve.specs.declared.shutting.EndStage.TheVariants.{Serving}
use Rattle.dr_run_serve.proofs.keeper.keep_on.Goals as goal

pub returns-then-not-begun : goal.returns-then-not-begun
returns-then-not-begun g c = ([], Serving, refl, inl (refl, subst (g.W.Calling.begins c.args.calling.now) c.if-not-begun.true c.begun.ensures))

pub loop-look-init : goal.loop-look-init
loop-look-init g c = (([], refl), refl)

pub loop-look-preserved : goal.loop-look-preserved
loop-look-preserved g c =
    let tells = g.C.Clock.tells c.args.node.now.clock.now in
    let pages = TellsPage g.L.Ledger.site g.L.Ledger.book g.L.Ledger.bodies g.L.Ledger.stands g.L.Ledger.failed g.B.Sharing.site g.B.Sharing.first g.L.Views.numbered in
    let old = c.args.sweeper.now in
    let mid = c.loop-look.sweeper in
    let new = c.sweep_if.new.sweeper in
    let stage = c.stops-stage.result in
    let first = sweeping old.next old.sweep old.past old.pass.made.count old.pass.receipts.items in
    let here = sweeping mid.next mid.sweep mid.past mid.pass.made.count mid.pass.receipts.items in
    let last = sweeping new.next new.sweep new.past new.pass.made.count new.pass.receipts.items in
    let h = c.loop-look.invariant in
    let Turn : Option ℕ → Bool → Type 0 = λ after b. TurnsIf g.L.Ledger.site g.L.Ledger.book g.L.Ledger.stands g.L.Ledger.failed g.B.Sharing.site g.B.Sharing.first pages tells after b here last in
    let turn : Turn mid.after (serves stage) = subst (λ (b : Bool). Turn mid.after b) c.serves.ensures c.sweep_if.ensures.turns in
    let moved : Turn old.after (serves stage) = subst (λ (after : Option ℕ). Turn after (serves stage)) h.1 turn in
    let One : EndStage × Sweeping → ℕ → EndStage × Sweeping → Type 0 = KeepsOnce g.L.Ledger.site g.L.Ledger.book g.L.Ledger.stands g.L.Ledger.failed g.B.Sharing.site g.B.Sharing.first pages tells old.after in
    let one : One (c.loop-look.stage, here) c.now-now.result (stage, last) = (c.now-now.ensures.tells, c.stops-stage.ensures, moved) in
    let all = chain_more One h.0.0 (Serving, first) (c.loop-look.stage, here) (stage, last) c.now-now.result h.0.1 one in
    ((h.0.0 ++ c.now-now.result ∷ [], all), c.sweep_if.ensures.terms ∙ h.1)

pub loop-look-preserved-then-looks-eq-PATIENCE : goal.loop-look-preserved-then-looks-eq-PATIENCE
loop-look-preserved-then-looks-eq-PATIENCE g c =
    let tells = g.C.Clock.tells c.args.node.now.clock.now in
    let pages = TellsPage g.L.Ledger.site g.L.Ledger.book g.L.Ledger.bodies g.L.Ledger.stands g.L.Ledger.failed g.B.Sharing.site g.B.Sharing.first g.L.Views.numbered in
    let old = c.args.sweeper.now in
    let mid = c.loop-look.sweeper in
    let new = c.sweep_if.new.sweeper in
    let stage = c.stops-stage.result in
    let first = sweeping old.next old.sweep old.past old.pass.made.count old.pass.receipts.items in
    let here = sweeping mid.next mid.sweep mid.past mid.pass.made.count mid.pass.receipts.items in
    let last = sweeping new.next new.sweep new.past new.pass.made.count new.pass.receipts.items in
    let h = c.loop-look.invariant in
    let Turn : Option ℕ → Bool → Type 0 = λ after b. TurnsIf g.L.Ledger.site g.L.Ledger.book g.L.Ledger.stands g.L.Ledger.failed g.B.Sharing.site g.B.Sharing.first pages tells after b here last in
    let turn : Turn mid.after (serves stage) = subst (λ (b : Bool). Turn mid.after b) c.serves.ensures c.sweep_if.ensures.turns in
    let moved : Turn old.after (serves stage) = subst (λ (after : Option ℕ). Turn after (serves stage)) h.1 turn in
    let One : EndStage × Sweeping → ℕ → EndStage × Sweeping → Type 0 = KeepsOnce g.L.Ledger.site g.L.Ledger.book g.L.Ledger.stands g.L.Ledger.failed g.B.Sharing.site g.B.Sharing.first pages tells old.after in
    let one : One (c.loop-look.stage, here) c.now-now.result (stage, last) = (c.now-now.ensures.tells, c.stops-stage.ensures, moved) in
    let all = chain_more One h.0.0 (Serving, first) (c.loop-look.stage, here) (stage, last) c.now-now.result h.0.1 one in
    ((h.0.0 ++ c.now-now.result ∷ [], all), c.sweep_if.ensures.terms ∙ h.1)

pub returns-then-ends : goal.returns-then-ends
returns-then-ends g c =
    let tells = g.C.Clock.tells c.args.node.now.clock.now in
    let pages = TellsPage g.L.Ledger.site g.L.Ledger.book g.L.Ledger.bodies g.L.Ledger.stands g.L.Ledger.failed g.B.Sharing.site g.B.Sharing.first g.L.Views.numbered in
    let old = c.args.sweeper.now in
    let mid = c.loop-look.sweeper in
    let new = c.sweep_if.new.sweeper in
    let stage = c.stops-stage.result in
    let first = sweeping old.next old.sweep old.past old.pass.made.count old.pass.receipts.items in
    let here = sweeping mid.next mid.sweep mid.past mid.pass.made.count mid.pass.receipts.items in
    let last = sweeping new.next new.sweep new.past new.pass.made.count new.pass.receipts.items in
    let h = c.loop-look.invariant in
    let Turn : Option ℕ → Bool → Type 0 = λ after b. TurnsIf g.L.Ledger.site g.L.Ledger.book g.L.Ledger.stands g.L.Ledger.failed g.B.Sharing.site g.B.Sharing.first pages tells after b here last in
    let turn : Turn mid.after (serves stage) = subst (λ (b : Bool). Turn mid.after b) c.serves.ensures c.sweep_if.ensures.turns in
    let moved : Turn old.after (serves stage) = subst (λ (after : Option ℕ). Turn after (serves stage)) h.1 turn in
    let One : EndStage × Sweeping → ℕ → EndStage × Sweeping → Type 0 = KeepsOnce g.L.Ledger.site g.L.Ledger.book g.L.Ledger.stands g.L.Ledger.failed g.B.Sharing.site g.B.Sharing.first pages tells old.after in
    let one : One (c.loop-look.stage, here) c.now-now.result (stage, last) = (c.now-now.ensures.tells, c.stops-stage.ensures, moved) in
    let all = chain_more One h.0.0 (Serving, first) (c.loop-look.stage, here) (stage, last) c.now-now.result h.0.1 one in
    let shut = subst (λ (b : Bool). TellsShut g.L.Ledger.site g.L.Ledger.book g.L.Ledger.bodies g.L.Ledger.stands g.L.Ledger.failed g.B.Sharing.site g.B.Sharing.first b) c.if-ends.true c.ends.ensures in
    (h.0.0 ++ c.now-now.result ∷ [], stage, all, inr (some_more h.0.0 c.now-now.result, inl shut))

pub returns-then-news-3 : goal.returns-then-news-3
returns-then-news-3 g c =
    let tells = g.C.Clock.tells c.args.node.now.clock.now in
    let pages = TellsPage g.L.Ledger.site g.L.Ledger.book g.L.Ledger.bodies g.L.Ledger.stands g.L.Ledger.failed g.B.Sharing.site g.B.Sharing.first g.L.Views.numbered in
    let old = c.args.sweeper.now in
    let mid = c.loop-look.sweeper in
    let new = c.sweep_if.new.sweeper in
    let stage = c.stops-stage.result in
    let first = sweeping old.next old.sweep old.past old.pass.made.count old.pass.receipts.items in
    let here = sweeping mid.next mid.sweep mid.past mid.pass.made.count mid.pass.receipts.items in
    let last = sweeping new.next new.sweep new.past new.pass.made.count new.pass.receipts.items in
    let h = c.loop-look.invariant in
    let Turn : Option ℕ → Bool → Type 0 = λ after b. TurnsIf g.L.Ledger.site g.L.Ledger.book g.L.Ledger.stands g.L.Ledger.failed g.B.Sharing.site g.B.Sharing.first pages tells after b here last in
    let turn : Turn mid.after (serves stage) = subst (λ (b : Bool). Turn mid.after b) c.serves.ensures c.sweep_if.ensures.turns in
    let moved : Turn old.after (serves stage) = subst (λ (after : Option ℕ). Turn after (serves stage)) h.1 turn in
    let One : EndStage × Sweeping → ℕ → EndStage × Sweeping → Type 0 = KeepsOnce g.L.Ledger.site g.L.Ledger.book g.L.Ledger.stands g.L.Ledger.failed g.B.Sharing.site g.B.Sharing.first pages tells old.after in
    let one : One (c.loop-look.stage, here) c.now-now.result (stage, last) = (c.now-now.ensures.tells, c.stops-stage.ensures, moved) in
    let all = chain_more One h.0.0 (Serving, first) (c.loop-look.stage, here) (stage, last) c.now-now.result h.0.1 one in
    (h.0.0 ++ c.now-now.result ∷ [], stage, all, inr (some_more h.0.0 c.now-now.result, inr (c.news-news.result, c.news-news.ensures, c.if-news-2.true, c.if-news-3.true)))
