-- A data set whose item is refused has none.
use Rattle.std.proofs.Common.{◌≡◌, ◌≢◌, ℕ, List, Result, Ok, Err}
use Rattle.dr_base.specs.declared.syntax.Syntax.{Syntax}
use Rattle.dr_ledger.specs.declared.content.ItemFault.{ItemFault}
use Rattle.dr_ledger.specs.declared.content.ItemFault.TheVariants.{Memory}
use Rattle.dr_ledger.specs.declared.content.Job.{Job}
use Rattle.dr_ledger.specs.Items.{IsItem, ReadsItem}
use Rattle.dr_ledger.proofs.Reading.{items_are_one}

pub no_item : (syntax : Syntax) (body : List ℕ) (fault : ItemFault) → fault ≢ Memory → ReadsItem syntax body (Err fault) →
    (item : Job) → IsItem item → item.key.syntax ≡ syntax → item.body ≡ body → ⊥
no_item syntax body fault other refused item is of_syntax of_body =
    let both : ◌≡◌ {A = Result Job ItemFault} (Err fault) (Ok item) =
    items_are_one syntax body (Err fault) (Ok item) (λ e. other (cc)) (λ e. cc) refused (is, of_syntax, of_body) in
    cc
