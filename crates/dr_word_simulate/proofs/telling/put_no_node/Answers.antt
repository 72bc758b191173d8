use Rattle.std.proofs.Common.{◌≡◌, ◌∙◌, ◌++◌, ◌∷◌, [], ℕ, List, ap}
use Rattle.std.specs.Prelude.{codes}
use Rattle.dr_base.specs.Texts.{Text}
use Rattle.dr_word_simulate.proofs.Reporting.{chained}
use Rattle.dr_word_simulate.proofs.telling.put_no_node.Goals as goal

pub returns : goal.returns
returns c =
    let old = c.args.out.now.items in
    let word : Text = codes "Refused" in
    let what : Text = 9 ∷ codes "foreign" in
    let name : Text = 9 ∷ c.args.node.now in
    let why : Text = 9 ∷ codes "no-node" in
    let named : c.add_field-2.new.out.items ≡ c.add_field.new.out.items ++ name =
    c.in_ok-add_field-2.ensures ∙ ap (λ (x : List ℕ). c.add_field.new.out.items ++ (9 ∷ x)) c.as_bytes.ensures in
    chained old (word ++ what ++ name ++ why) (10 ∷ []) c.add_field-3.new.out.items c.push.new.self.items
    (chained old (word ++ what ++ name) why c.add_field-2.new.out.items c.add_field-3.new.out.items
    (chained old (word ++ what) name c.add_field.new.out.items c.add_field-2.new.out.items
    (chained old word what c.extend_from_slice.new.self.items c.add_field.new.out.items c.in_ok-extend_from_slice.ensures.items c.in_ok-add_field.ensures) named) c.in_ok-add_field-3.ensures) c.in_ok-push.ensures.items
