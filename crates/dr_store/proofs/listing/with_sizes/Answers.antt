use Rattle.std.proofs.Common.{◌+◌, List, ℕ, take, sym, subst}
use Rattle.dr_base.specs.Texts.{Text}
use Rattle.dr_store.specs.Listing.{AreSized, IsSized}
use Rattle.dr_store.proofs.Zips.{zip_more}
use Rattle.dr_store.proofs.listing.with_sizes.Goals as goal

pub loop-uid-preserved : goal.loop-uid-preserved
loop-uid-preserved c =
    let prints = c.args.prints.now in
    let kept = c.args.kept.now in
    let i = c.loop-uid.uid-index in
    let P : List (Text × ℕ) → Type 0 = λ all. AreSized prints (take (i + 1) kept) all in
    subst P (sym c.in_ok-push.ensures.ok) (zip_more (IsSized prints) kept c.loop-uid.all i c.uid-item.result c.in_ok-with_size.field-0 c.loop-uid-test.true c.uid-item.is c.loop-uid.invariant c.in_ok-with_size.ensures)
