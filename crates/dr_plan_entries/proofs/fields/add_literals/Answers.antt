use Rattle.std.proofs.Common.{◌≡◌, ◌+◌, sym, ap, ◌∙◌, List, [], ◌∷◌, ◌++◌, map, take}
use Rattle.std.proofs.lemmas.List.{take_more}
use Rattle.std.proofs.lemmas.List.Elements.{All-push}
use Rattle.dr_base.specs.Texts.{Text}
use Rattle.dr_route.specs.declared.cell.OwnedField.{OwnedField}
use Rattle.dr_route.specs.declared.cell.OwnedField.TheVariants as part
use Rattle.dr_plan_entries.specs.declared.fields.ShownPart.{ShownPart}
use Rattle.dr_plan_entries.specs.Entering.{HasItsText, part_of}
use Rattle.dr_plan_entries.proofs.FieldLemmas.{made_more, map_push}
use Rattle.dr_plan_entries.proofs.fields.add_literals.Goals as goal

pub loop-literal-preserved : goal.loop-literal-preserved
loop-literal-preserved c =
    let e = take_more c.args.literals.now c.loop-literal.literal-index c.literal-item.result c.loop-literal-test.true in
    let more : take (c.loop-literal.literal-index + 1) c.args.literals.now ≡ take c.loop-literal.literal-index c.args.literals.now ++ c.literal-item.result ∷ [] = rw (← c.literal-item.is) at e in
    let xs : List ShownPart = c.loop-literal.shown.items in
    let first : List OwnedField = map part_of c.args.shown.now.items in
    let make : Text → OwnedField = λ t. part.Literal t in
    record {
      parts = ap (λ (ys : List ShownPart). map part_of ys) c.in_ok-push.ensures.items
          ∙ (map_push part_of xs _
          ∙ (ap (λ (t : Text). map part_of xs ++ part.Literal t ∷ []) c.in_ok-clone.ensures
          ∙ (made_more make first (map part_of xs) (take c.loop-literal.literal-index c.args.literals.now) c.literal-item.result c.loop-literal.invariant.parts
          ∙ ap (λ (ts : List Text). first ++ map make ts) (sym more))));
      texts = λ old. rw c.in_ok-push.ensures.items (All-push HasItsText xs _ (c.loop-literal.invariant.texts old) (c.in_ok-text.ensures ∙ sym c.in_ok-clone.ensures));
    }
