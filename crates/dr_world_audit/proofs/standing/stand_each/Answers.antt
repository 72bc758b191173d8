use Rattle.std.proofs.Common.{◌≡◌, ◌+◌, ◌++◌, ◌∷◌, [], arith, List, sym, subst, take}
use Rattle.std.proofs.lemmas.List.{map_more, take_all}
use Rattle.dr_base.specs.Texts.{Text}
use Rattle.dr_ledger.specs.Pairs.{Pair}
use Rattle.dr_ledger_history.specs.Contents.{book_of, content}
use Rattle.dr_world_audit.specs.Standing.{goals_to}
use Rattle.dr_world_audit.proofs.Stood.{AllStand, more_stand, one_stands}
use Rattle.dr_world_audit.proofs.standing.stand_each.Goals as goal

pub loop-next-preserved : goal.loop-next-preserved
loop-next-preserved c =
    let plan = c.args.ends.0.now.plan in
    let name = c.args.ends.1.now in
    let b = book_of (content c.args.told.now.parts) in
    let uid = c.args.instance.now.uid in
    let to = c.args.to.now in
    let i = c.loop-next.next-index in
    let next = c.next-item.result in
    let before = goals_to uid (take i to) in
    let e = map_more {Y = Pair} (λ (t : Text). (uid, t)) to i next c.loop-next-test.true in
    let more : goals_to uid (take (i + 1) to) ≡ before ++ (uid, next) ∷ [] = rw (← c.next-item.is) at e in
    let at : Pair = (c.in_ok-clone.field-0, c.in_ok-clone-2.field-0) in
    let same : ◌≡◌ {A = Pair} at (uid, next) = λ j. (c.in_ok-clone.ensures j, c.in_ok-clone-2.ensures j) in
    let old = c.args.sent.now.items in
    let mid = c.loop-next.sent.items in
    let new = c.stand_at.new.sent.items in
    let P : Pair → Type 0 = λ p. AllStand plan name b (p ∷ []) mid new in
    let Q : List Pair → Type 0 = λ gs. AllStand plan name b gs old new in
    subst Q (sym more) (more_stand plan name b before ((uid, next) ∷ []) old mid new c.loop-next.invariant
    (subst P same (one_stands plan name b at mid new c.in_ok-stand_at.ensures.hops (c.in_ok-stand_at.ensures.fit c.if-not-branch.false))))

pub returns : goal.returns
returns c =
    let plan = c.args.ends.0.now.plan in
    let name = c.args.ends.1.now in
    let b = book_of (content c.args.told.now.parts) in
    let uid = c.args.instance.now.uid in
    let P : List Text → Type 0 = λ to. AllStand plan name b (goals_to uid to) c.args.sent.now.items c.loop-next.sent.items in
    subst P (take_all c.loop-next.next-index c.args.to.now (omega (arith, c.loop-next-test.false))) c.loop-next.invariant
