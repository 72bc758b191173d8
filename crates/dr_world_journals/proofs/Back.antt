-- Going back from an arrival to its reason, and from that to its own, ends: the walks of a key in a sound plan are no longer than the greatest rank of its entries.
use Rattle.std.proofs.Common.{◌≡◌, ◌⊎◌, inl, inr, refl, sym, subst, ℕ, ◌+◌, ◌≤◌, List, [], ◌∷◌, ◌++◌, length, Contains, arith}
use Rattle.std.proofs.lemmas.List.{length-append}
use Rattle.dr_base.specs.Texts.{Text}
use Rattle.dr_route.specs.Routes.{local}
use Rattle.dr_route.specs.declared.key.Key.{Key}
use Rattle.dr_plan_model.specs.declared.plan.Flow.{Flow}
use Rattle.dr_plan_model.specs.Networks.{Network}
use Rattle.dr_plan_model.specs.Walks.{IsEntry, IsReached, IsWalk, Sends, last_place}
use Rattle.dr_plan_model.proofs.Gathered.{nothing_in_nil, Contains-cons_cases, Contains-here}
use Rattle.dr_plan_model.proofs.WalksAlike.{no_rule_sends}
use Rattle.dr_plan_sound.specs.Soundness.{IsSound}
use Rattle.dr_plan_sound.proofs.Hopping.{reached_entry}
use Rattle.dr_plan_sound.proofs.Listed.{targets_listed}
use Rattle.dr_plan_sound.proofs.Ranks.{sound_has_rank}

module _ (plan : Network) (key : Key) where
  -- where something enters at the node, or not
  entry_or_not : (site : Text) → IsEntry plan site key ⊎ (IsEntry plan site key → ⊥)
  entry_or_not site = (let all = targets_listed plan site local key in which all.0 (λ to. (all.1 to).1) (λ to. (all.1 to).0))
    where
      enters : (to : Text) → Sends plan site local key to → IsEntry plan site key
      enters to (inl flow) = (to, flow.1)
      enters to (inr rule) = absurd (no_rule_sends rule.0.rules key to rule.2)

      which : (found : List Text) → ((to : Text) → Contains found to → Sends plan site local key to) → ((to : Text) → Sends plan site local key to → Contains found to) → IsEntry plan site key ⊎ (IsEntry plan site key → ⊥)
      which [] there back = inr (λ e. nothing_in_nil e.0 (back e.0 (inl (refl, e.1))))
      which (to ∷ more) there back = inl (enters to (there to (Contains-here to more)))

  -- from none of these flows' nodes, where the key enters there, is a walk longer
  abbrev Bounds : List Flow → ℕ → Type 0
  Bounds flows most = (flow : Flow) → Contains flows flow → IsEntry plan flow.at key → (over : List Text) → IsWalk plan key local flow.at over → length over ≤ most

  bounded : IsSound plan → (flows : List Flow) → (most : ℕ) × Bounds flows most
  bounded sound [] = (0, λ flow h e over walk. absurd (nothing_in_nil flow h))
  bounded sound (first ∷ flows) =
      let rest = bounded sound flows in
      elim (entry_or_not first.at) [
        | inr none ↦ (
          rest.0,
          λ flow h e over walk. elim (Contains-cons_cases first flows flow h) [
            | inl same ↦ absurd (none (let P : Flow → Type 0 = λ f. IsEntry plan f.at key in subst P (sym same) e))
            | inr later ↦ rest.1 flow later e over walk
          ],
        )
        | inl enters ↦ (
            let ranked = sound_has_rank plan sound key local first.at (reached_entry plan key first.at enters) in (
              ranked.0 + rest.0,
              λ flow h e over walk. elim (Contains-cons_cases first flows flow h) [
                | inl same ↦ (
                    let P : Flow → Type 0 = λ f. IsWalk plan key local f.at over in
                    let short : length over ≤ ranked.0 = ranked.1.greatest over (subst P (sym same) walk) in
                    omega (arith, short))
                | inr later ↦ (let short : length over ≤ rest.0 = rest.1 flow later e over walk in omega (arith, short))
              ],
            )
            )
      ]

  -- one walk after another
  joined : (caller name : Text) (before over : List Text) → IsWalk plan key caller name before →
      IsWalk plan key (last_place caller name before).0 (last_place caller name before).1 over → IsWalk plan key caller name (before ++ over)
  joined caller name [] over walk later = later
  joined caller name (next ∷ rest) over walk later = (walk.0, joined name next rest over walk.1 later)

  -- one bound for all walks from where the key comes to
  pub walks_end : IsSound plan → (most : ℕ) × ((caller name : Text) (over : List Text) → IsReached plan key caller name → IsWalk plan key caller name over → length over ≤ most)
  walks_end sound =
      let all = bounded sound plan.flows in (
        all.0,
        λ caller name over r walk.
            let flow = r.2.1 in
            let P : Text × Text → Type 0 = λ p. IsWalk plan key p.0 p.1 over in
            let whole = joined local r.0 r.1 over r.3 (subst P (sym r.4) walk) in
            let E : Text → Type 0 = λ site. IsEntry plan site key in
            let W : Text → Type 0 = λ site. IsWalk plan key local site (r.1 ++ over) in
            let long : length (r.1 ++ over) ≤ all.0 = all.1 flow.0 flow.1 (subst E (sym flow.2) r.2) (r.1 ++ over) (subst W (sym flow.2) whole) in
            let sum : length (r.1 ++ over) ≡ length r.1 + length over = length-append r.1 over in
            omega arith,
      )
