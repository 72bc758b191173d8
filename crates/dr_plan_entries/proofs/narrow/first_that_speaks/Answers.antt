use Rattle.std.proofs.Common.{◌≡◌, ℕ, ◌+◌, ◌<◌, inl, inr, refl, sym, ◌∙◌, subst, List, [], ◌∷◌, ◌++◌, length, take, get_or, Contains, Some, arith}
use Rattle.std.specs.Prelude.{slice_get}
use Rattle.std.proofs.lemmas.Bool.{false≢true}
use Rattle.std.proofs.lemmas.Option.{slice_get_read, same_Some}
use Rattle.std.proofs.lemmas.List.{take_more, take_all}
use Rattle.std.proofs.lemmas.List.Elements.{Contains-push_cases, Contains-get_or}
use Rattle.dr_plan_model.specs.declared.plan.Flow.{Flow}
use Rattle.dr_plan_model.proofs.Gathered.{nothing_in_nil}
use Rattle.dr_plan_entries.specs.Entering.{SpeaksOf, NoneSpeaks}
use Rattle.dr_plan_model.specs.declared.listed.Listed.{Listed}
use Rattle.dr_plan_model.specs.Listings.{IsListedBy}
use Rattle.dr_plan_model.proofs.SetLemmas.{zipped_at}
use Rattle.std.proofs.lemmas.Slice.Zip.{AllZip-long}
use Rattle.dr_plan_entries.proofs.narrow.first_that_speaks.Goals as goal

pub bounds-all-place : goal.bounds-all-place
bounds-all-place c =
    let long : length c.args.all.now ≡ length c.args.flows.now = AllZip-long IsListedBy c.args.flows.now c.args.all.now c.requires.listed in
    let below : get_or c.args.among.now c.loop-place.place-index 0 < length c.args.flows.now = c.requires.below c.loop-place.place-index 0 c.loop-place-test.true in
    omega (arith, long, below)

pub speaks_of-requires : goal.speaks_of-requires
speaks_of-requires c =
    let F : Flow → Type 0 = λ f. IsListedBy f c.index-all-place.result in
    let L : Listed → Type 0 = λ l. IsListedBy (get_or c.args.flows.now (get_or c.args.among.now c.loop-place.place-index 0) c.index-flows-place.result) l in
    subst F (sym c.index-flows-place.is) (subst L (sym c.index-all-place.is)
    (zipped_at IsListedBy c.args.flows.now c.args.all.now (get_or c.args.among.now c.loop-place.place-index 0) c.index-flows-place.result c.index-all-place.result c.requires.listed
    (c.requires.below c.loop-place.place-index 0 c.loop-place-test.true)))

pub loop-place-init : goal.loop-place-init
loop-place-init c = λ k has speaks. nothing_in_nil k has

pub loop-place-preserved : goal.loop-place-preserved
loop-place-preserved c = λ k has speaks.
    let i : ℕ = c.loop-place.place-index in
    let place : ℕ = get_or c.args.among.now i 0 in
    let more : take (i + 1) c.args.among.now ≡ take i c.args.among.now ++ place ∷ [] = take_more c.args.among.now i 0 c.loop-place-test.true in
    let in_range : place < length c.args.flows.now = c.requires.below i 0 c.loop-place-test.true in
    let at : slice_get c.args.flows.now place ≡ Some c.index-flows-place.result = slice_get_read _ _ place c.index-flows-place.result refl in_range c.index-flows-place.is in
    let P : List ℕ → Type 0 = λ ks. Contains ks k in
    elim (Contains-push_cases (take i c.args.among.now) place k (subst P more has)) [
      | inl before ↦ c.loop-place.invariant k before speaks
      | inr same ↦
          let Q : ℕ → Type 0 = λ n. slice_get c.args.flows.now n ≡ Some c.index-flows-place.result in
          let e : speaks.0 ≡ c.index-flows-place.result = same_Some _ _ (sym speaks.1 ∙ subst Q same at) in
          let S : Flow → Type 0 = λ f. SpeaksOf f c.args.part.now in
          false≢true (c.if-speaks_of.ensures.1 (subst S e speaks.2))
    ]

pub returns-then-speaks_of : goal.returns-then-speaks_of
returns-then-speaks_of c =
    let i : ℕ = c.loop-place.place-index in
    let place : ℕ = get_or c.args.among.now i 0 in
    let in_range : place < length c.args.flows.now = c.requires.below i 0 c.loop-place-test.true in
    let at : slice_get c.args.flows.now place ≡ Some c.index-flows-place.result = slice_get_read _ _ place c.index-flows-place.result refl in_range c.index-flows-place.is in
    (Contains-get_or c.args.among.now i 0 c.loop-place-test.true, (c.index-flows-place.result, at, c.if-speaks_of.ensures.0 refl))

pub returns : goal.returns
returns c =
    let P : List ℕ → Type 0 = λ among. NoneSpeaks c.args.flows.now among c.args.part.now in
    subst P (take_all c.loop-place.place-index c.args.among.now (omega arith)) c.loop-place.invariant
