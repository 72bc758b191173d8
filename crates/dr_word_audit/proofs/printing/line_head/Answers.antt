use Rattle.std.proofs.Common.{◌∙◌, ◌++◌, [], ap}
use Rattle.std.specs.Prelude.{codes}
use Rattle.dr_base.specs.Texts.{Text, next_field}
use Rattle.dr_word_audit.proofs.Pieces.{behind}
use Rattle.dr_word_audit.proofs.printing.line_head.Goals as goal

pub returns : goal.returns
returns c =
    let word : Text = codes "no" in
    let code : Text = next_field c.args.code.now in
    let node : Text = next_field c.args.node.now in
    let named = c.in_ok-add_field-2.ensures ∙ ap (λ (t : Text). c.add_field.new.out.items ++ next_field t) c.as_bytes.ensures in
    let first = behind [] word c.new-out.result.items c.extend_from_slice.new.self.items c.new-out.ensures.items c.in_ok-extend_from_slice.ensures.items in
    behind (word ++ code) node c.add_field.new.out.items c.add_field-2.new.out.items
    (behind word code c.extend_from_slice.new.self.items c.add_field.new.out.items first c.in_ok-add_field.ensures) named
