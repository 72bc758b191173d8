use Rattle.std.proofs.Common.{◌++◌, ◌∷◌, [], List, ℕ, length, sym, subst, take, drop, suc, ◌<◌}
use Rattle.std.proofs.lemmas.Result.{err_from_is_err_and}
use Rattle.dr_pdu.specs.Items.{bodies}
use Rattle.dr_pdu.specs.Reads.{items}
use Rattle.dr_base.specs.Lists.{Each}
use Rattle.dr_pdu.proofs.EachLemmas.{each_more, each_next, bodies_round, bodies_more}
use Rattle.dr_pdu.proofs.Refusals.{refused}
use Rattle.dr_pdu.proofs.associate.contexts_of.Goals as goal

pub returns-in_err-read : goal.returns-in_err-read
returns-in_err-read g c =
    let p = err_from_is_err_and c.from_residual.result c.from_residual.ensures.1 in
    let here : c.loop-item.item-index < length c.args.found.now = c.loop-item-test.true in
    rw (p.1, p.2) (refused _ (g.C.Context.is_context _) (Each g.C.Context.is_context (bodies c.args.kind (items c.args.found.now)))
    (λ cs h. each_next g.C.Context.is_context (bodies c.args.kind (items (take c.loop-item.item-index c.args.found.now))) (bodies c.args.kind (items (drop (suc c.loop-item.item-index) c.args.found.now))) _ cs
    (subst (λ (t : List (List ℕ)). Each g.C.Context.is_context t cs) (bodies_round c.args.kind c.args.found.now c.loop-item.item-index _ here c.if-item-kind.false) h))
    c.in_err-read.ensures)

pub loop-item-preserved : goal.loop-item-preserved
loop-item-preserved g c =
    let here : c.loop-item.item-index < length c.args.found.now = c.loop-item-test.true in
    rw c.in_ok-push.ensures.items (subst (λ (t : List (List ℕ)). Each g.C.Context.is_context t (c.loop-item.contexts.items ++ c.in_ok-read.field-0 ∷ [])) (sym (bodies_more c.args.kind c.args.found.now c.loop-item.item-index _ here c.if-item-kind.false))
    (each_more g.C.Context.is_context (bodies c.args.kind (items (take c.loop-item.item-index c.args.found.now))) c.loop-item.contexts.items _ c.in_ok-read.field-0 c.loop-item.invariant c.in_ok-read.ensures))
