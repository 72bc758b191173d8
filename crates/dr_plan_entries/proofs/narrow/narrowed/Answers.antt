use Rattle.std.proofs.Common.{◌≡◌, ℕ, ◌+◌, ◌<◌, refl, sym, subst, List, [], ◌∷◌, ◌++◌, length, take, get_or, Some, arith}
use Rattle.std.specs.Prelude.{slice_get}
use Rattle.std.proofs.lemmas.Bool.{false≢true}
use Rattle.std.proofs.lemmas.Option.{slice_get_read}
use Rattle.std.proofs.lemmas.List.{take_more, take_all}
use Rattle.dr_plan_entries.specs.Entering.{AreNarrowed}
use Rattle.dr_plan_entries.proofs.Narrowing.{narrowed_one_more, narrowed_passed_over}
use Rattle.dr_plan_model.specs.declared.plan.Flow.{Flow}
use Rattle.dr_plan_model.specs.declared.listed.Listed.{Listed}
use Rattle.dr_plan_model.specs.Listings.{IsListedBy}
use Rattle.dr_plan_model.proofs.SetLemmas.{zipped_at}
use Rattle.std.proofs.lemmas.Slice.Zip.{AllZip-long}
use Rattle.dr_plan_entries.proofs.narrow.narrowed.Goals as goal
use Rattle.dr_plan_entries.proofs.narrow.narrowed.Goals.{then-speaks_of+in_ok-push, else-speaks_of}

pub bounds-all-place : goal.bounds-all-place
bounds-all-place c =
    let long : length c.args.all.now ≡ length c.args.flows.now = AllZip-long IsListedBy c.args.flows.now c.args.all.now c.requires.listed in
    let below : get_or c.args.among.now c.loop-place.place-index 0 < length c.args.flows.now = c.requires.below c.loop-place.place-index 0 c.loop-place-test.true in
    omega (arith, long, below)

pub speaks_of-requires : goal.speaks_of-requires
speaks_of-requires c =
    let F : Flow → Type 0 = λ f. IsListedBy f c.index-all-place.result in
    let L : Listed → Type 0 = λ l. IsListedBy (get_or c.args.flows.now (get_or c.args.among.now c.loop-place.place-index 0) c.index-flows-place.result) l in
    subst F (sym c.index-flows-place.is) (subst L (sym c.index-all-place.is)
    (zipped_at IsListedBy c.args.flows.now c.args.all.now (get_or c.args.among.now c.loop-place.place-index 0) c.index-flows-place.result c.index-all-place.result c.requires.listed
    (c.requires.below c.loop-place.place-index 0 c.loop-place-test.true)))

pub loop-place-preserved : goal.loop-place-preserved
loop-place-preserved c =
    let i : ℕ = c.loop-place.place-index in
    let place : ℕ = get_or c.args.among.now i 0 in
    let more : take (i + 1) c.args.among.now ≡ take i c.args.among.now ++ place ∷ [] = take_more c.args.among.now i 0 c.loop-place-test.true in
    let in_range : place < length c.args.flows.now = c.requires.below i 0 c.loop-place-test.true in
    let at : slice_get c.args.flows.now place ≡ Some c.index-flows-place.result = slice_get_read _ _ place c.index-flows-place.result refl in_range c.index-flows-place.is in
    elim c.if-speaks_of.branch [
      | then-speaks_of+in_ok-push w ↦ λ k. rw (w.found-is, more, w.in_ok-push.ensures.items)
          (narrowed_one_more c.args.flows.now (take i c.args.among.now) c.loop-place.found.items c.args.part.now place c.index-flows-place.result at
          (w.if-speaks_of.ensures.0 refl) c.loop-place.invariant k)
      | else-speaks_of w ↦ λ k. rw (w.found-is, more)
          (narrowed_passed_over c.args.flows.now (take i c.args.among.now) c.loop-place.found.items c.args.part.now place c.index-flows-place.result at
          (λ h. false≢true (w.if-speaks_of.ensures.1 h)) c.loop-place.invariant k)
    ]

pub returns : goal.returns
returns c =
    let P : List ℕ → Type 0 = λ among. AreNarrowed c.args.flows.now among c.args.part.now c.loop-place.found.items in
    subst P (take_all c.loop-place.place-index c.args.among.now (omega arith)) c.loop-place.invariant
