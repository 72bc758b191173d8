use Rattle.std.proofs.Common.{◌∙◌, ap, get_or}
use Rattle.std.specs.Vec.Iter.{into_iter_items}
use Rattle.dr_word_audit_at.proofs.Joining.{cut_one_more, goes_on}
use Rattle.dr_word_audit_at.proofs.cutting.cut_all.Goals as goal

pub loop-node-preserved : goal.loop-node-preserved
loop-node-preserved c =
    let left = into_iter_items c.next.new.self in
    let parts = goes_on c.args.read.items c.loop-node.yielded c.in-Some.node (into_iter_items c.loop-node.node-iterator) left c.loop-node.invariant.0 c.in-Some.ensures.steps.0 in
    let at = c.count_at-count.ensures ∙ ap (λ k. get_or c.args.counts.now k 0) (c.len.ensures ∙ c.loop-node.journals.ok.0) in (
      parts,
      cut_one_more c.args.counts.now c.args.read.items c.loop-node.yielded c.loop-node.journals.items c.push.new.self.items left c.loop-node.rests.items c.push-in-loop-node.new.self.items c.in-Some.node c.in_ok-journal.journal c.in_ok-journal.rest c.count_at-count.result
          c.requires parts c.loop-node.invariant.1 at c.in_ok-journal.ensures.cut c.in_ok-journal.ensures.whole c.in_ok-push.ensures.items c.in_ok-push-2.ensures.items,
    )
