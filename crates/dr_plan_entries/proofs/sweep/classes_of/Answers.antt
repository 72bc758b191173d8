use Rattle.std.proofs.Common.{◌≡◌, ℕ, ◌+◌, ◌<◌, inl, inr, refl, sym, ◌∙◌, ap, subst, List, [], ◌∷◌, ◌++◌, length, take, get_or, Contains, Some, arith}
use Rattle.std.specs.Prelude.{slice_get}
use Rattle.std.proofs.lemmas.Option.{slice_get_read, same_Some}
use Rattle.std.proofs.lemmas.List.{take_more, take_all}
use Rattle.std.proofs.lemmas.List.Elements.{Contains-push_cases}
use Rattle.dr_base.specs.Texts.{Text}
use Rattle.dr_plan_model.specs.declared.plan.Flow.{Flow}
use Rattle.dr_plan_entries.proofs.sweep.classes_of.Goals as goal

pub loop-place-preserved : goal.loop-place-preserved
loop-place-preserved c = λ k flow class among at has.
    let i : ℕ = c.loop-place.place-index in
    let place : ℕ = get_or c.args.among.now i 0 in
    let more : take (i + 1) c.args.among.now ≡ take i c.args.among.now ++ place ∷ [] = take_more c.args.among.now i 0 c.loop-place-test.true in
    let in_range : place < length c.args.flows.now = c.requires i 0 c.loop-place-test.true in
    let here : slice_get c.args.flows.now place ≡ Some c.index-flows-place.result = slice_get_read _ _ place c.index-flows-place.result refl in_range c.index-flows-place.is in
    let added = c.in_ok-add_names.ensures class in
    let A : List ℕ → Type 0 = λ ks. Contains ks k in
    elim (Contains-push_cases (take i c.args.among.now) place k (subst A more among)) [
      | inl before ↦ added.1 (inl (c.loop-place.invariant k flow class before at has))
      | inr same ↦
          let P : ℕ → Type 0 = λ n. slice_get c.args.flows.now n ≡ Some c.index-flows-place.result in
          let e : flow ≡ c.index-flows-place.result = same_Some _ _ (sym at ∙ subst P same here) in
          let Q : Flow → Type 0 = λ f. Contains f.classes class in
          let R : List Text → Type 0 = λ ts. Contains ts class in
          added.1 (inr (subst R (sym c.as_slice.ensures) (subst R (ap (λ (f : Flow). f.classes) c.index-flows-place.is) (subst Q e has))))
    ]

pub returns-clause-whole : goal.returns-clause-whole
returns-clause-whole c = λ k flow class among at has.
    let all : take c.loop-place.place-index c.args.among.now ≡ c.args.among.now = take_all c.loop-place.place-index c.args.among.now (omega arith) in
    let A : List ℕ → Type 0 = λ ks. Contains ks k in
    (c.in_ok-classes.ensures.same class).1 (c.loop-place.invariant k flow class (subst A (sym all) among) at has)
