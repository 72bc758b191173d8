-- What a no shows, no sound plan has.
use Rattle.std.proofs.Common.{◌≡◌, ◌≢◌, ℕ, ◌<◌, ◌≤◌, inl, inr, refl, sym, ◌∙◌, subst, List, [], ◌∷◌, ◌++◌, length, Contains, get_or, arith, length-append}
use Rattle.std.specs.Prelude.{AllPairs}
use Rattle.std.proofs.lemmas.List.{get_or_append_left}
use Rattle.dr_base.specs.Texts.{Text}
use Rattle.dr_route.specs.Routes.{local}
use Rattle.dr_route.specs.declared.key.Key.{Key}
use Rattle.dr_plan_model.specs.Networks.{Network}
use Rattle.dr_plan_model.specs.Walks.{IsReached, last_place, places}
use Rattle.dr_plan_sound.specs.Soundness.{IsSound}
use Rattle.dr_plan_sound.proofs.Hopping.{last_hop}
use Rattle.dr_check.specs.declared.fault.Fault.{Fault}
use Rattle.dr_check.specs.declared.fault.Fault.TheVariants.{NoContext, Cycle, DeadEnd, TooManyContexts}
use Rattle.dr_check.specs.Shown.{IsShown}

get_or_pushed : {X : Type 0} (xs : List X) (x : X) → get_or (xs ++ x ∷ []) (length xs) x ≡ x
get_or_pushed [] x = refl
get_or_pushed (y ∷ ys) x = get_or_pushed ys x

-- a pair that stands before the last, and is the last
twice : {X : Type 0} (all before : List X) (last : X) → all ≡ before ++ last ∷ [] → Contains before last → AllPairs (λ a b. a ≢ b) all → ⊥
twice {X} all before last whole among apart =
    let P : List X → Type 0 = λ xs. AllPairs (λ a b. a ≢ b) xs in
    let pairs : AllPairs (λ a b. a ≢ b) (before ++ last ∷ []) = subst P whole apart in
    let i : ℕ = among.0 in
    let low : i < length before = among.1 in
    let long = length-append before (last ∷ []) in
    let here : get_or (before ++ last ∷ []) i last ≡ last = get_or_append_left before (last ∷ []) last i low ∙ among.2 in
    let there : get_or (before ++ last ∷ []) (length before) last ≡ last = get_or_pushed before last in
    pairs i (length before) last low (omega (arith, long)) (here ∙ sym there)

pub no_sound_plan : (plan : Network) (fault : Fault) → IsShown plan fault → IsSound plan → ⊥
no_sound_plan plan (NoContext walk cell) shown sound =
    let key : Key = shown.some.0 in
    let e = shown.each key shown.some.1 in
    let last : Text × Text = last_place local shown.site shown.over in
    elim (last_hop plan key local shown.site shown.over last.0 last.1 e.1 refl) [
      | inl none ↦ e.2.0 none.0
      | inr more ↦ e.2.1 (sound.accepted key last.0 last.1 (more.1, (shown.site, more.0, e.0, more.2, more.3), more.4))
    ]
no_sound_plan plan (Cycle walk cell) shown sound =
    let key : Key = shown.some.0 in
    let e = shown.each key shown.some.1 in
    twice (places local shown.site shown.over) e.2.0 (last_place local shown.site shown.over) e.2.1 e.2.2 (sound.no_pair_twice key shown.site shown.over e.0 e.1)
no_sound_plan plan (DeadEnd walk cell) shown sound =
    let key : Key = shown.some.0 in
    let e = shown.each key shown.some.1 in
    let last : Text × Text = last_place local shown.site shown.over in
    let reached : IsReached plan key last.0 last.1 = (shown.site, shown.over, e.0, e.1, refl) in
    elim (sound.goes_on key last.0 last.1 reached) [
      | inl kept ↦ e.2.0 kept
      | inr sent ↦ e.2.1 sent.0 sent.1
    ]
no_sound_plan plan (TooManyContexts from to) shown sound =
    let many = shown.0 in
    let few : length many.0 ≤ 128 = sound.few_pairs from to many.0 many.1 many.2 in
    let long : length many.0 ≡ 129 = many.3 in
    omega arith
