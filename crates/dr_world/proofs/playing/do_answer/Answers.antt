use Rattle.std.proofs.Common.{List, [], ◌∷◌, inl, inr, refl, sym, subst, ◌∙◌}
use Rattle.std.proofs.lemmas.List.{append-nil}
use Rattle.dr_base.specs.Texts.{Text}
use Rattle.dr_world.specs.declared.deed.Deed.TheVariants as deed
use Rattle.dr_world.specs.declared.order.RefusedForeign.TheVariants as refused
use Rattle.dr_world.specs.declared.order.Spoken.{Spoken}
use Rattle.dr_world.specs.Orders.{AnswersAs}
use Rattle.dr_world.specs.Whole.{contents}
use Rattle.dr_world_script.specs.declared.step.Side.TheVariants as side
use Rattle.dr_world.proofs.Orders.{plays_nothing}
use Rattle.dr_world.proofs.playing.do_answer.Goals as goal

pub returns-in-Ok-clause-plays : goal.returns-in-Ok-clause-plays
returns-in-Ok-clause-plays c =
    let P : List Text × Spoken → Type 0 = λ p. AnswersAs p.0 (contents c.args.world.now) c.args.link c.args.status p.1 in
    let is = subst P (λ j. (c.as_slice.ensures j, c.in-Writes.is j)) c.in_ok-spoken.ensures in (
      deed.Bytes c.args.link side.Acceptor c.in-Writes.bytes ∷ [],
      [],
      [],
      sym (append-nil c.args.notes.now.changes),
      sym (append-nil c.args.notes.now.refusals),
      record { means = (refl, inl (c.in-Writes.bytes, is, refl, refl)); plays = c.in-Ok.ensures.plays },
    )

pub returns-clause-plays : goal.returns-clause-plays
returns-clause-plays c =
    let P : List Text × Spoken → Type 0 = λ p. AnswersAs p.0 (contents c.args.world.now) c.args.link c.args.status p.1 in
    let is = subst P (λ j. (c.as_slice.ensures j, c.in-Refuses.is j)) c.in_ok-spoken.ensures in (
      [],
      [],
      refused.Answer c.args.link c.in-Refuses.why ∷ [],
      sym (append-nil c.args.notes.now.changes),
      c.in_ok-push-in-Refuses.ensures.ok,
      record { means = (refl, inr (c.in-Refuses.why, is, refl, refl)); plays = plays_nothing c.args.world.now },
    )
