use Rattle.std.proofs.Common.{Option, subst}
use Rattle.std.specs.Prelude.{IfSome}
use Rattle.dr_base.specs.Texts.{Text}
use Rattle.dr_word_audit_at.specs.declared.cutting.MissingLine.{MissingLine}
use Rattle.dr_word_audit_at.specs.Cuts.{RestsOn}
use Rattle.dr_word_audit_at.proofs.Reached.{stays}
use Rattle.dr_word_audit_at.proofs.moving.move_for.Goals as goal

pub returns-in_default : goal.returns-in_default
returns-in_default c plan = stays plan c.args.read.now c.args.counts.now.items

pub returns : goal.returns
returns c plan =
    let rests = subst (λ (found : Option (MissingLine × Text)). IfSome found (λ both. RestsOn c.args.name.now c.args.line.now both.0 both.1)) c.in-Some.is c.in_ok-missing.ensures in
    c.in_ok-move_if.ensures plan c.args.name.now c.args.line.now c.requires.before rests
