use Rattle.std.proofs.Common.{◌≡◌, ◌∙◌, ap, sym, subst, rules, ℕ, ◌++◌, List, [], map}
use Rattle.std.proofs.lemmas.List.{append-nil}
use Rattle.std.proofs.lemmas.List.Sorted.{IsNonDecreasingBy-from_sort_by_key}
use Rattle.dr_base.specs.Texts.{Text}
use Rattle.dr_run_serve.specs.Pasts.{IsQueueOf}
use Rattle.dr_run_serve.specs.declared.sweep.OverInstance.{OverInstance}
use Rattle.dr_run_serve.proofs.Noting.{over_of, queue_of}
use Rattle.dr_run_serve.proofs.past.in_order.Goals as goal

pub returns : goal.returns
returns c =
    let all = c.loop-uid.all.items in
    let whole : all ≡ map over_of c.args.ends.entries =
    sym (append-nil all) ∙ ap (λ (left : List (Text × ℕ)). all ++ map over_of left) (sym c.in-None.ensures.steps.0) ∙ c.loop-uid.invariant in
    let sorted = IsNonDecreasingBy-from_sort_by_key (λ (over : OverInstance). over.at) _ c.sort_unstable_by_key.ensures.sorted (λ a r q k. search rules) in
    subst (IsQueueOf c.args.ends) (sym c.in_ok-sweep.ensures)
    (queue_of c.args.ends all c.sort_unstable_by_key.new.self.items c.len.ensures.ordered whole c.sort_unstable_by_key.ensures.permutation sorted)
