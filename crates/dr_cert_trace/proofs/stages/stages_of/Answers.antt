use Rattle.std.proofs.Common.{rules}
use Rattle.std.specs.List.Sorted.{IsNonDecreasingBy}
use Rattle.std.proofs.lemmas.List.Sorted.{IsNonDecreasingBy-from_sort_by_key}
use Rattle.dr_cert_trace.specs.declared.stages.TraceStage.{TraceStage}
use Rattle.dr_cert_trace.proofs.Gathering.{permuted}
use Rattle.dr_cert_trace.proofs.stages.stages_of.Goals as goal

pub returns : goal.returns
returns c =
    let by_depth : IsNonDecreasingBy (λ (s : TraceStage). s.depth) c.sort_by_key.new.self.items = IsNonDecreasingBy-from_sort_by_key (λ (s : TraceStage). s.depth) _ c.in_ok-sort_by_key.ensures.sorted (λ a r q k. search rules) in
    (permuted c.args.sealed.now.plan c.args.key.now c.in_ok-stages.stages.items c.sort_by_key.new.self.items c.sort_by_key.ensures.permutation c.in_ok-stages.ensures, by_depth)
