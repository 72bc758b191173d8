use Rattle.std.proofs.Common.{◌≡◌, ◌+◌, ◌++◌, ◌∷◌, [], arith, inl, inr, refl, Contains, List, subst, sym, take}
use Rattle.std.proofs.lemmas.List.{take_all, take_more}
use Rattle.std.proofs.lemmas.List.Elements.{Contains-push_cases}
use Rattle.dr_base.specs.Texts.{Text}
use Rattle.dr_plan_model.specs.Plans.{NamesNoNode}
use Rattle.dr_word_adopt.proofs.names.stranger_in.Goals as goal

pub loop-name-preserved : goal.loop-name-preserved
loop-name-preserved c =
    let all = c.args.names.now in
    let i = c.loop-name.name-index in
    let one = c.name-item.result in
    let e = take_more all i one c.loop-name-test.true in
    let more : take (i + 1) all ≡ take i all ++ one ∷ [] = rw (← c.name-item.is) at e in
    λ name among.
    let P : List Text → Type 0 = λ ns. Contains ns name in
    let Q : Text → Type 0 = λ n. NamesNoNode c.args.plan.now n → ⊥ in
    elim (Contains-push_cases (take i all) one name (subst P more among)) [
      | inl was ↦ c.loop-name.invariant name was
      | inr same ↦ subst Q same (c.if-is_stranger.ensures.no refl)
    ]

pub returns-then-is_stranger : goal.returns-then-is_stranger
returns-then-is_stranger c = ((c.loop-name.name-index, c.loop-name-test.true, sym c.name-item.is), c.is_stranger.ensures.yes c.if-is_stranger.true)

pub returns : goal.returns
returns c = λ name among. (
    let P : List Text → Type 0 = λ ns. Contains ns name in
    c.loop-name.invariant name (subst P (sym (take_all c.loop-name.name-index c.args.names.now (omega (arith, c.loop-name-test.false)))) among)
    )
