use Rattle.std.proofs.Common.{◌∙◌, ◌∷◌, codes}
use Rattle.dr_ledger_balance.specs.Fields.{field_then}
use Rattle.dr_ledger_balance.proofs.Added.{extended, pushed}
use Rattle.dr_ledger_balance.proofs.writing.put_kept.Goals as goal

pub returns : goal.returns
returns c = λ rest.
    let one = 10 ∷ rest in
    pushed c.put_field.new.out.items c.push.new.self.items 10 c.in_ok-push.ensures.items rest
    ∙ c.in_ok-put_field.ensures one
    ∙ extended c.args.out.now.items c.extend_from_slice.new.self.items (codes "kept") c.in_ok-extend_from_slice.ensures.items (field_then c.args.uid.now one)
