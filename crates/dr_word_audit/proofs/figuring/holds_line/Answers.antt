use Rattle.std.proofs.Common.{◌++◌, ◌∷◌, []}
use Rattle.std.specs.Prelude.{codes, decimal}
use Rattle.dr_base.specs.Texts.{Text, next_field}
use Rattle.dr_word_audit.proofs.Pieces.{behind}
use Rattle.dr_word_audit.proofs.figuring.holds_line.Goals as goal

pub returns : goal.returns
returns c =
    let word : Text = codes "holds" in
    let number : Text = next_field (decimal c.args.count) in
    let l : Text = 10 ∷ [] in
    let first = behind [] word c.new-out.result.items c.extend_from_slice.new.self.items c.new-out.ensures.items c.in_ok-extend_from_slice.ensures.items in
    behind (word ++ number) l c.add_number.new.out.items c.push.new.self.items
    (behind word number c.extend_from_slice.new.self.items c.add_number.new.out.items first c.in_ok-add_number.ensures) c.in_ok-push.ensures.items
