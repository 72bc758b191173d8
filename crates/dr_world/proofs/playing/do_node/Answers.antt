use Rattle.std.proofs.Common.{List, [], ◌∷◌, ◌++◌, inl, inr, refl, sym, ap, ◌∙◌}
use Rattle.std.proofs.lemmas.List.{append-nil}
use Rattle.dr_base.specs.Texts.{Text}
use Rattle.dr_world.specs.declared.order.RefusedForeign.TheVariants as refused
use Rattle.dr_world.proofs.Orders.{plays_nothing}
use Rattle.dr_world.proofs.playing.do_node.Goals as goal

pub returns-then-has_node-clause-plays : goal.returns-then-has_node-clause-plays
returns-then-has_node-clause-plays c = (
  [],
  [],
  [],
  sym (append-nil c.args.notes.now.changes),
  sym (append-nil c.args.notes.now.refusals),
  record {
    means = (refl, inl (sym c.has_node.ensures ∙ c.if-has_node.true, refl, c.in_ok-push.ensures.ok ∙ ap (λ (n : Text). c.args.notes.now.others ++ n ∷ []) c.in_ok-name.ensures));
    plays = plays_nothing c.args.world.now;
  },
)

pub returns-clause-plays : goal.returns-clause-plays
returns-clause-plays c = (
  [],
  [],
  refused.Node c.args.node.now ∷ [],
  sym (append-nil c.args.notes.now.changes),
  c.in_ok-push-2.ensures.ok ∙ ap (λ (n : Text). c.args.notes.now.refusals ++ refused.Node n ∷ []) c.in_ok-name.ensures,
  record {
    means = (refl, inr (sym c.has_node.ensures ∙ c.if-has_node.false, refl, refl));
    plays = plays_nothing c.args.world.now;
  },
)
