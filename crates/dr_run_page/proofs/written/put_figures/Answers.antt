use Rattle.std.proofs.Common.{◌≡◌, ◌++◌, OnOk, List, ℕ, subst}
use Rattle.dr_run_page.specs.Documents.{figures_under}
use Rattle.dr_run_page.proofs.written.put_figures.Goals as goal

pub returns : goal.returns
returns c =
    subst
    (λ (name : List ℕ). OnOk c.put_pieces.result
    (c.put_pieces.new.out.items
    ≡ c.args.out.now.items ++ figures_under c.args.lit.now name c.args.served c.args.counts))
    c.as_bytes.ensures c.put_pieces.ensures
