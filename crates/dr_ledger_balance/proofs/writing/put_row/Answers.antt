use Rattle.std.proofs.Common.{◌∙◌, ◌∷◌, codes}
use Rattle.dr_ledger_balance.specs.Fields.{field_then, progress_then}
use Rattle.dr_ledger_balance.proofs.Added.{extended, pushed}
use Rattle.dr_ledger_balance.proofs.writing.put_row.Goals as goal

pub returns : goal.returns
returns c = λ rest.
    let at = c.args.at.now in
    let three = 10 ∷ rest in
    let two = progress_then c.args.progress three in
    let one = field_then at.1 two in
    pushed c.put_progress.new.out.items c.push.new.self.items 10 c.in_ok-push.ensures.items rest
    ∙ c.in_ok-put_progress.ensures three
    ∙ c.in_ok-put_field-2.ensures two
    ∙ c.in_ok-put_field.ensures one
    ∙ extended c.args.out.now.items c.extend_from_slice.new.self.items (codes "row") c.in_ok-extend_from_slice.ensures.items (field_then at.0 one)
