use Rattle.std.proofs.Common.{List, [], ◌∷◌, inl, inr, refl, sym, subst, ◌∙◌}
use Rattle.std.proofs.lemmas.Bool.{false≢true}
use Rattle.std.proofs.lemmas.List.{append-nil}
use Rattle.dr_base.specs.Texts.{Text}
use Rattle.dr_world.specs.Orders.{IsPassedOver}
use Rattle.dr_world.specs.Whole.{contents}
use Rattle.dr_world.proofs.Orders.{plays_nothing}
use Rattle.dr_world.proofs.playing.do_own.Goals as goal

pub returns-then-is_passed_over-clause-plays : goal.returns-then-is_passed_over-clause-plays
returns-then-is_passed_over-clause-plays c =
    let P : List Text → Type 0 = λ others. IsPassedOver others (contents c.args.world.now) c.args.deed.now in
    let over = subst P c.as_slice.ensures (c.is_passed_over.ensures.0 c.if-is_passed_over.true) in (
      [],
      [],
      [],
      sym (append-nil c.args.notes.now.changes),
      sym (append-nil c.args.notes.now.refusals),
      record { means = (refl, refl, inr (over, refl)); plays = plays_nothing c.args.world.now },
    )

pub returns-in-Ok-clause-plays : goal.returns-in-Ok-clause-plays
returns-in-Ok-clause-plays c =
    let P : List Text → Type 0 = λ others. IsPassedOver others (contents c.args.world.now) c.args.deed.now in
    let done = c.in-Ok.ensures.plays in (
      c.args.deed.now ∷ [],
      done.0,
      [],
      done.1,
      sym (append-nil c.args.notes.now.refusals),
      record {
        means = (refl, refl, inl ((λ over. false≢true (sym c.if-is_passed_over.false ∙ c.is_passed_over.ensures.1 (subst P (sym c.as_slice.ensures) over))), refl));
        plays = done.2;
      },
    )
