use Rattle.std.proofs.Common.{List, subst}
use Rattle.dr_ledger_history.specs.declared.line.JournalLine.{JournalLine}
use Rattle.std.specs.Prelude.{None}
use Rattle.dr_world_audit.specs.Sites.{FirstUnfair}
use Rattle.dr_world_audit.proofs.Stopping.{all_fair}
use Rattle.dr_world_audit.proofs.audit.test_answers.Goals as goal

pub returns-in_default : goal.returns-in_default
returns-in_default c = λ plan. (
    let P : List JournalLine → Type 0 = λ ls. FirstUnfair c.args.ours.now.keys ls None in
    all_fair c.args.ours.now.keys c.args.node.now (subst P c.as_slice.ensures c.in_default.ensures)
    )
