use Rattle.std.proofs.Common.{◌≡◌, ◌++◌, ◌/◌, OnOk, List, ℕ, subst}
use Rattle.dr_run_page.specs.Documents.{figures_under, light}
use Rattle.dr_run_page.proofs.written.put_node.Goals as goal

pub returns : goal.returns
returns c =
    let shown = c.args.shown.now in
    let new = c.put_figures.new.out.items in
    let old = c.args.out.now.items in
    let lit = light shown.counts.failures c.args.queues.now in
    subst
    (λ (n : ℕ). OnOk c.put_figures.result
    (new ≡ old ++ figures_under lit shown.name.now (n / 1000) shown.counts))
    c.saturating_sub-served.ensures
    (subst
    (λ (words : List ℕ). OnOk c.put_figures.result
    (new ≡ old
    ++ figures_under words shown.name.now (c.saturating_sub-served.result / 1000) shown.counts))
    c.light-lit.ensures c.put_figures.ensures)
