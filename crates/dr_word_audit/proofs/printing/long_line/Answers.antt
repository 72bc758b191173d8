use Rattle.std.proofs.Common.{◌∙◌, ◌++◌, ◌∷◌, [], ap}
use Rattle.dr_base.specs.Texts.{Text, next_field}
use Rattle.dr_word_audit.specs.Places.{line_start}
use Rattle.dr_ledger_report.specs.Reports.{number_field}
use Rattle.dr_word_audit.proofs.Pieces.{behind}
use Rattle.dr_word_audit.proofs.printing.long_line.Goals as goal

pub returns : goal.returns
returns c =
    let head : Text = line_start c.args.code.now c.args.node.now in
    let place : Text = next_field (number_field c.args.number) in
    let uid : Text = next_field c.args.uid.now in
    let other : Text = next_field c.args.other.now in
    let l : Text = 10 ∷ [] in
    let first = c.in_ok-add_field.ensures ∙ ap (λ (t : Text). c.put_place.new.out.items ++ next_field t) c.as_bytes.ensures in
    let second = c.in_ok-add_field-2.ensures ∙ ap (λ (t : Text). c.add_field.new.out.items ++ next_field t) c.as_bytes-2.ensures in
    c.from_vec.ensures ∙ behind (head ++ place ++ uid ++ other) l c.add_field-2.new.out.items c.push.new.self.items
    (behind (head ++ place ++ uid) other c.add_field.new.out.items c.add_field-2.new.out.items
    (behind (head ++ place) uid c.put_place.new.out.items c.add_field.new.out.items
    (behind head place c.in_ok-out.out.items c.put_place.new.out.items c.in_ok-out.ensures c.in_ok-put_place.ensures) first) second) c.in_ok-push.ensures.items
