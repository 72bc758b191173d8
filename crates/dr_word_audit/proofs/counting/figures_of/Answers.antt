use Rattle.std.proofs.Common.{◌≡◌, ◌∙◌, List, refl, ap}
use Rattle.std.specs.Prelude.{map as mapped}
use Rattle.dr_ledger.specs.Books.{Line}
use Rattle.dr_ledger_history.specs.Lines.{line_of}
use Rattle.dr_word_audit.specs.Figures.{how_many}
use Rattle.dr_word_audit.specs.declared.counting.LineKind.TheVariants as kind
use Rattle.dr_word_audit.proofs.Counted.{counts_told}
use Rattle.dr_word_audit.proofs.counting.figures_of.Goals as goal

pub returns : goal.returns
returns c =
    let others = c.args.others.now in
    let since = c.since_of-since.result.now in
    let first = c.how_many.ensures ∙ counts_told kind.First others since ∙ ap (λ (ls : List Line). how_many kind.First others ls) c.since_of-since.ensures in
    let dropped = c.how_many-2.ensures ∙ counts_told kind.Dropped others since ∙ ap (λ (ls : List Line). how_many kind.Dropped others ls) c.since_of-since.ensures in
    let answered = c.how_many-3.ensures ∙ counts_told kind.Answered others since ∙ ap (λ (ls : List Line). how_many kind.Answered others ls) c.since_of-since.ensures in
    λ i. record {
      arrivals = first i;
      kept = c.args.kept;
      waiting = c.how_many_rows.ensures i;
      held = c.how_many_rows-2.ensures i;
      dropped = dropped i;
      others = answered i;
    }
