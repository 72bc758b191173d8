use Rattle.std.proofs.Common.{◌≡◌, ◌+◌, sym, ap, ◌∙◌, List, [], ◌∷◌, ◌++◌, map, take}
use Rattle.std.specs.Prelude.{codes}
use Rattle.std.proofs.lemmas.List.{take_more}
use Rattle.std.proofs.lemmas.List.Elements.{All-push}
use Rattle.dr_base.specs.Texts.{Text}
use Rattle.dr_route.specs.declared.cell.OwnedField.{OwnedField}
use Rattle.dr_route.specs.declared.cell.OwnedField.TheVariants as part
use Rattle.dr_plan_entries.specs.declared.fields.ShownPart.{ShownPart}
use Rattle.dr_plan_entries.specs.Entering.{HasItsText, part_of}
use Rattle.dr_plan_entries.proofs.FieldLemmas.{made_more, map_push}
use Rattle.dr_plan_entries.proofs.fields.add_prefixes.Goals as goal

pub loop-prefix-preserved : goal.loop-prefix-preserved
loop-prefix-preserved c =
    let e = take_more c.args.prefixes.now c.loop-prefix.prefix-index c.prefix-item.result c.loop-prefix-test.true in
    let more : take (c.loop-prefix.prefix-index + 1) c.args.prefixes.now ≡ take c.loop-prefix.prefix-index c.args.prefixes.now ++ c.prefix-item.result ∷ [] = rw (← c.prefix-item.is) at e in
    let xs : List ShownPart = c.loop-prefix.shown.items in
    let first : List OwnedField = map part_of c.args.shown.now.items in
    let make : Text → OwnedField = λ t. part.Prefix t in
    record {
      parts = ap (λ (ys : List ShownPart). map part_of ys) c.in_ok-push.ensures.items
          ∙ (map_push part_of xs _
          ∙ (ap (λ (t : Text). map part_of xs ++ part.Prefix t ∷ []) c.in_ok-clone.ensures
          ∙ (made_more make first (map part_of xs) (take c.loop-prefix.prefix-index c.args.prefixes.now) c.prefix-item.result c.loop-prefix.invariant.parts
          ∙ ap (λ (ts : List Text). first ++ map make ts) (sym more))));
      texts = λ old. rw c.in_ok-push.ensures.items (All-push HasItsText xs _ (c.loop-prefix.invariant.texts old) (c.in_ok-text.ensures ∙ ap (λ (t : Text). t ++ codes "*") (sym c.in_ok-clone.ensures)));
    }
