use Rattle.std.proofs.Common.{◌≡◌, ℕ, ◌+◌, ◌<◌, inr, refl, sym, subst, List, [], ◌∷◌, ◌++◌, length, take, get_or, Some, arith}
use Rattle.std.specs.Prelude.{slice_get}
use Rattle.std.proofs.lemmas.Option.{slice_get_read}
use Rattle.std.proofs.lemmas.List.{take_more, take_all}
use Rattle.std.proofs.lemmas.List.Elements.{Contains-get_or}
use Rattle.std.proofs.lemmas.Slice.Zip.{AllZip-long}
use Rattle.dr_plan_model.specs.declared.plan.Flow.{Flow}
use Rattle.dr_plan_model.specs.declared.listed.Listed.{Listed}
use Rattle.dr_plan_model.specs.Listings.{IsListedBy}
use Rattle.dr_plan_model.proofs.SetLemmas.{zipped_at}
use Rattle.dr_plan_entries.proofs.RowLemmas.{AreGathered, gathered_more, gathered_all}
use Rattle.dr_plan_entries.proofs.rows.names_in.Goals as goal

pub bounds-all-place : goal.bounds-all-place
bounds-all-place c =
    let long : length c.args.all.now ≡ length c.args.flows.now = AllZip-long IsListedBy c.args.flows.now c.args.all.now c.requires.listed in
    let below : get_or c.args.among.now c.loop-place.place-index 0 < length c.args.flows.now = c.requires.below c.loop-place.place-index 0 c.loop-place-test.true in
    omega (arith, long, below)

pub listed_alone-requires : goal.listed_alone-requires
listed_alone-requires c =
    let F : Flow → Type 0 = λ f. IsListedBy f c.index-all-place.result in
    let L : Listed → Type 0 = λ l. IsListedBy (get_or c.args.flows.now (get_or c.args.among.now c.loop-place.place-index 0) c.index-flows-place.result) l in
    subst F (sym c.index-flows-place.is) (subst L (sym c.index-all-place.is)
    (zipped_at IsListedBy c.args.flows.now c.args.all.now (get_or c.args.among.now c.loop-place.place-index 0) c.index-flows-place.result c.index-all-place.result c.requires.listed
    (c.requires.below c.loop-place.place-index 0 c.loop-place-test.true)))

pub loop-place-preserved : goal.loop-place-preserved
loop-place-preserved c =
    let i : ℕ = c.loop-place.place-index in
    let among : List ℕ = c.args.among.now in
    let place : ℕ = get_or among i 0 in
    let more : take (i + 1) among ≡ take i among ++ place ∷ [] = take_more among i 0 c.loop-place-test.true in
    let below : place < length c.args.flows.now = c.requires.below i 0 c.loop-place-test.true in
    let here : slice_get c.args.flows.now place ≡ Some c.index-flows-place.result = slice_get_read _ _ place c.index-flows-place.result refl below c.index-flows-place.is in
    let G : List ℕ → Type 0 = λ passed. AreGathered c.args.side c.args.flows.now among passed c.add_unless_same.new.names.keys in
    record {
      gathered = subst G (sym more) (gathered_more c.args.side c.args.flows.now among (take i among) place c.index-flows-place.result
          c.loop-place.names.keys c.add_unless_same.new.names.keys c.in-Some.texts.now (Contains-get_or among i 0 c.loop-place-test.true) here c.in-Some.ensures
          c.in_ok-add_unless_same.ensures c.loop-place.invariant.gathered);
      last = λ t h. (c.in_ok-add_unless_same.ensures t).1 (inr h);
    }

pub returns : goal.returns
returns c =
    let all : take c.loop-place.place-index c.args.among.now ≡ c.args.among.now = take_all c.loop-place.place-index c.args.among.now (omega arith) in
    let G : List ℕ → Type 0 = λ passed. AreGathered c.args.side c.args.flows.now c.args.among.now passed c.loop-place.names.keys in
    gathered_all c.args.side c.args.flows.now c.args.among.now c.loop-place.names.keys c.in_ok-names.names c.in_ok-names.ensures.same c.in_ok-names.ensures.ordered
    (subst G all c.loop-place.invariant.gathered)
