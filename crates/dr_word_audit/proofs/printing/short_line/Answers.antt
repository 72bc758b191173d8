use Rattle.std.proofs.Common.{◌∙◌, ◌∷◌, []}
use Rattle.dr_base.specs.Texts.{Text}
use Rattle.dr_word_audit.specs.Places.{line_start}
use Rattle.dr_word_audit.proofs.Pieces.{behind}
use Rattle.dr_word_audit.proofs.printing.short_line.Goals as goal

pub returns : goal.returns
returns c =
    let l : Text = 10 ∷ [] in
    c.from_vec.ensures ∙ behind (line_start c.args.code.now c.args.node.now) l c.in_ok-out.out.items c.push.new.self.items c.in_ok-out.ensures c.in_ok-push.ensures.items
