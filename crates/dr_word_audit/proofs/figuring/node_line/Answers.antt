use Rattle.std.proofs.Common.{◌∙◌, ◌++◌, ◌∷◌, [], ℕ, List, ap}
use Rattle.std.specs.Prelude.{codes}
use Rattle.dr_base.specs.Texts.{Text, next_field}
use Rattle.dr_word_audit.specs.Figures.{figure_fields}
use Rattle.dr_word_audit.proofs.Pieces.{behind}
use Rattle.dr_word_audit.proofs.figuring.node_line.Goals as goal

pub returns : goal.returns
returns c =
    let word : Text = codes "node" in
    let name : Text = next_field c.args.name.now in
    let fields : Text = figure_fields c.args.figures.now in
    let l : Text = 10 ∷ [] in
    let named = c.in_ok-add_field.ensures ∙ ap (λ (t : Text). c.extend_from_slice.new.self.items ++ next_field t) c.as_bytes.ensures in
    let first = behind [] word c.new-out.result.items c.extend_from_slice.new.self.items c.new-out.ensures.items c.in_ok-extend_from_slice.ensures.items in
    c.from_vec.ensures ∙ behind (word ++ name ++ fields) l c.put_figures.new.out.items c.push.new.self.items
    (behind (word ++ name) fields c.add_field.new.out.items c.put_figures.new.out.items
    (behind word name c.extend_from_slice.new.self.items c.add_field.new.out.items first named) c.in_ok-put_figures.ensures) c.in_ok-push.ensures.items
