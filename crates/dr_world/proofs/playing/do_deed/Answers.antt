use Rattle.std.proofs.Common.{[], ◌∷◌, sym, subst}
use Rattle.std.proofs.lemmas.List.{append-nil}
use Rattle.dr_world.specs.Played.{PlaysOn}
use Rattle.dr_world.specs.declared.deed.Deed.{Deed}
use Rattle.dr_world.proofs.playing.do_deed.Goals as goal

pub returns-in_ok-_note-in-Step-clause-plays : goal.returns-in_ok-_note-in-Step-clause-plays
returns-in_ok-_note-in-Step-clause-plays c =
    let P : Deed → Type 0 = λ d. PlaysOn d [] c.args.world.now c.take_step.new.world in
    ([], sym (append-nil c.args.changes.now), subst P (sym c.in-Step.is) c.in_ok-_note-in-Step.ensures.plays)

pub returns-in_ok-_note-in-Bytes-clause-plays : goal.returns-in_ok-_note-in-Bytes-clause-plays
returns-in_ok-_note-in-Bytes-clause-plays c =
    let P : Deed → Type 0 = λ d. PlaysOn d [] c.args.world.now c.write.new.self in
    ([], sym (append-nil c.args.changes.now), subst P (sym c.in-Bytes.is) c.in_ok-_note-in-Bytes.ensures.plays)

pub returns-in_ok-push-in-Adopt-clause-plays : goal.returns-in_ok-push-in-Adopt-clause-plays
returns-in_ok-push-in-Adopt-clause-plays c =
    let change = c.in_ok-change-in-Adopt.change in
    let P : Deed → Type 0 = λ d. PlaysOn d (change ∷ []) c.args.world.now c.change_to.new.world in
    (change ∷ [], c.in_ok-push-in-Adopt.ensures.ok, subst P (sym c.in-Adopt.is) c.in_ok-change-in-Adopt.ensures.plays)
