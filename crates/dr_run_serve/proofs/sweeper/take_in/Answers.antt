use Rattle.std.proofs.Common.{◌∙◌, ◌+◌, ◌++◌, ◌∷◌, [], List, ap, arith, refl, sym}
use Rattle.std.proofs.lemmas.List.{append-nil, append_assoc, length_push}
use Rattle.dr_run_serve.specs.declared.sweep.OverInstance.{OverInstance}
use Rattle.dr_run_serve.proofs.sweeper.take_in.Goals as goal

pub loop-turn-init : goal.loop-turn-init
loop-turn-init g c = ([], sym (append-nil c.args.sweep.now.queue.items), refl)

pub loop-turn-preserved : goal.loop-turn-preserved
loop-turn-preserved g c =
    let had = c.loop-turn.invariant in
    let one = c.in-Some.over in (
      had.0 ++ one ∷ [],
      c.in-Ok.ensures ∙ ap (λ (xs : List OverInstance). xs ++ one ∷ []) had.1 ∙ append_assoc c.args.sweep.now.queue.items had.0 (one ∷ []),
      length_push had.0 one ∙ ap (λ n. n + 1) had.2,
    )

pub returns-in_default : goal.returns-in_default
returns-in_default g c =
    let had = c.loop-turn.invariant in
    let count = had.2 in
    let below = c.loop-turn-test.true in
    (had.0, had.1, omega (arith, count, below))

pub returns-in-Err : goal.returns-in-Err
returns-in-Err g c =
    let had = c.loop-turn.invariant in
    let count = had.2 in
    let below = c.loop-turn-test.true in
    (had.0, c.in-Err.ensures ∙ had.1, omega (arith, count, below))

pub returns : goal.returns
returns g c =
    let had = c.loop-turn.invariant in
    let count = had.2 in
    let last = c.loop-turn-test.false in
    let end = c.loop-turn.auto._turn-end in
    (had.0, had.1, omega (arith, count, last, end))
