use Rattle.std.proofs.Common.{◌∙◌, ◌∷◌, codes}
use Rattle.dr_ledger_balance.specs.Fields.{digest_then, field_then, number_then}
use Rattle.dr_ledger_balance.specs.Spelling.{key_then}
use Rattle.dr_ledger_balance.proofs.Added.{extended, pushed}
use Rattle.dr_ledger_balance.proofs.writing.put_item.Goals as goal

pub returns : goal.returns
returns c = λ rest.
    let item = c.args.item.now in
    let four = 10 ∷ rest in
    let three = digest_then item.digest four in
    let two = number_then item.size three in
    let one = key_then item.key two in
    pushed c.put_digest.new.out.items c.push.new.self.items 10 c.in_ok-push.ensures.items rest
    ∙ c.in_ok-put_digest.ensures four
    ∙ c.in_ok-put_number.ensures three
    ∙ c.in_ok-put_key.ensures two
    ∙ c.in_ok-put_field.ensures one
    ∙ extended c.args.out.now.items c.extend_from_slice.new.self.items (codes "instance") c.in_ok-extend_from_slice.ensures.items (field_then item.uid one)
