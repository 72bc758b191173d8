use Rattle.std.proofs.Common.{rules, ◌<◌, ◌≤◌, length, slice_index_or, subst, arith}
use Rattle.std.proofs.lemmas.List.{get_or_default}
use Rattle.dr_store_bodies.specs.declared.extent.Extent.{Extent}
use Rattle.dr_store_bodies.specs.Extents.{end_of}
use Rattle.dr_store_bodies.proofs.order.end_in_order.Goals as goal

pub returns-then-extent-end-clause-unfit : goal.returns-then-extent-end-clause-unfit
returns-then-extent-end-clause-unfit c size small fit =
    let e : Extent = record { at = 0; size = 0 } in
    let i = c.loop-extent.extent-index in
    let low : i < length c.args.extents.now = search rules in
    let early : (slice_index_or c.args.extents.now i e).at < c.loop-extent.end = search rules in
    let late = c.loop-extent.invariant.3 (slice_index_or c.args.extents.now i e).at
    (λ k d before. subst (λ f. end_of (slice_index_or c.args.extents.now k d) ≤ f.at)
    (get_or_default c.args.extents.now i d e low) (fit.apart k i d before low)) in
    omega (arith, early, late)
