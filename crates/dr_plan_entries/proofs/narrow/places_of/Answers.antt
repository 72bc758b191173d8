use Rattle.std.proofs.Common.{◌≡◌, ℕ, ◌<◌, inl, inr, refl, sym, ◌∙◌, ap, subst, List, [], ◌∷◌, ◌++◌, length, Contains, Some, arith}
use Rattle.std.specs.Prelude.{slice_get}
use Rattle.std.proofs.lemmas.Bool.{cases_lt}
use Rattle.std.proofs.lemmas.Option.{slice_get_read, same_Some}
use Rattle.std.proofs.lemmas.List.Elements.{Contains-push, Contains-push_cases, Contains-append_left}
use Rattle.dr_plan_model.specs.declared.plan.Flow.{Flow}
use Rattle.dr_plan_model.proofs.WalksAlike.{all_from_each}
use Rattle.dr_plan_entries.specs.Entering.{TakesIn}
use Rattle.dr_plan_entries.proofs.narrow.places_of.Goals as goal
use Rattle.dr_plan_entries.proofs.narrow.places_of.Goals.{then-may_enter+in_ok-push, else-may_enter}

pub loop-place-preserved : goal.loop-place-preserved
loop-place-preserved c =
    let i : ℕ = c.loop-place.place in
    let xs : List ℕ = c.loop-place.places.items in
    let here : slice_get c.args.flows.now i ≡ Some c.index-flows-place.result =
    slice_get_read _ _ i c.index-flows-place.result refl c.loop-place-test.true c.index-flows-place.is in
    elim c.if-may_enter.branch [
      | then-may_enter+in_ok-push w ↦
          let pushed : c.if-may_enter.places.items ≡ xs ++ i ∷ [] = ap (λ v. v.items) w.places-is ∙ w.in_ok-push.ensures.items in
          record {
            below = λ k has.
                let P : List ℕ → Type 0 = λ ks. Contains ks k in
                elim (Contains-push_cases xs i k (subst P pushed has)) [
                  | inl before ↦ c.loop-place.invariant.below k before
                  | inr same ↦ (let lt : i < length c.args.flows.now = c.loop-place-test.true in omega (arith, same, lt))
                ];
            whole = λ k flow cell before at takes.
                let P : List ℕ → Type 0 = λ ks. Contains ks k in
                subst P (sym pushed) (elim (cases_lt k i) [
                  | inl less ↦ Contains-append_left xs (i ∷ []) k (c.loop-place.invariant.whole k flow cell less at takes)
                  | inr more ↦
                      let same : i ≡ k = omega (arith, more, before) in
                      let Q : ℕ → Type 0 = λ m. Contains (xs ++ i ∷ []) m in
                      subst Q same (Contains-push xs i)
                ]);
          }
      | else-may_enter w ↦
          let kept : c.if-may_enter.places.items ≡ xs = ap (λ v. v.items) w.places-is in
          record {
            below = λ k has. let P : List ℕ → Type 0 = λ ks. Contains ks k in c.loop-place.invariant.below k (subst P kept has);
            whole = λ k flow cell before at takes.
                let P : List ℕ → Type 0 = λ ks. Contains ks k in
                subst P (sym kept) (elim (cases_lt k i) [
                  | inl less ↦ c.loop-place.invariant.whole k flow cell less at takes
                  | inr more ↦
                      let same : i ≡ k = omega (arith, more, before) in
                      let Q : ℕ → Type 0 = λ m. slice_get c.args.flows.now m ≡ Some c.index-flows-place.result in
                      let e : flow ≡ c.index-flows-place.result = same_Some _ _ (sym at ∙ subst Q same here) in
                      let T : Flow → Type 0 = λ f. TakesIn f cell in
                      absurd (w.if-may_enter.ensures refl cell (subst T e takes))
                ]);
          }
    ]

pub returns-clause-below : goal.returns-clause-below
returns-clause-below c = all_from_each (λ k. k < length c.args.flows.now) c.loop-place.places.items c.loop-place.invariant.below
