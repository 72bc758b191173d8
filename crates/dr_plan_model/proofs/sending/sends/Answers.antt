use Rattle.std.proofs.Common.{◌≡◌, inl, inr, refl, sym, subst, List}
use Rattle.std.specs.List.Sorted.{IsStrictlySortedBy}
use Rattle.std.proofs.lemmas.Bool.{false≢true}
use Rattle.dr_base.specs.Texts.{Text, IsInByteOrder}
use Rattle.dr_route.specs.Routes.{local, SendsBy, KeepsBy}
use Rattle.dr_plan_model.specs.declared.plan.Node.{Node}
use Rattle.dr_plan_model.proofs.Gathered.{nothing_in_nil}
use Rattle.dr_plan_model.proofs.WalksAlike.{no_rule_sends, no_rule_keeps}
use Rattle.dr_plan_model.proofs.sending.sends.Goals as goal

pub returns-then-is_local-clause-to : goal.returns-then-is_local-clause-to
returns-then-is_local-clause-to c = λ to.
    let same : c.args.caller.now ≡ local = c.if-is_local.ensures.0 refl in
    let by = c.in_ok-to.ensures.to to in (
      λ h. inl (same, by.0 h),
      λ s. elim s [
        | inl entered ↦ by.1 entered.1
        | inr ruled ↦ absurd (no_rule_sends ruled.0.rules c.args.key.now to (let P : Text → Type 0 = λ t. SendsBy ruled.0.rules t c.args.key.now to in subst P same ruled.2))
      ],
    )

pub returns-then-is_local-clause-keep : goal.returns-then-is_local-clause-keep
returns-then-is_local-clause-keep c =
    let same : c.args.caller.now ≡ local = c.if-is_local.ensures.0 refl in (
      λ never. absurd (false≢true never),
      λ kept. absurd (no_rule_keeps kept.0.rules c.args.key.now (let P : Text → Type 0 = λ t. KeepsBy kept.0.rules t c.args.key.now in subst P same kept.2)),
    )

pub returns-in_default-clause-to : goal.returns-in_default-clause-to
returns-in_default-clause-to c = λ to.
    let other : c.args.caller.now ≡ local → ⊥ = λ same. false≢true (c.if-is_local.ensures.1 same) in (
      λ h. absurd (nothing_in_nil to (rw c.new.ensures at h)),
      λ s. elim s [ inl entered ↦ absurd (other entered.0) | inr ruled ↦ absurd (c.in_default.ensures ruled.0 ruled.1) ],
    )

pub returns-in_default-clause-ordered : goal.returns-in_default-clause-ordered
unfolding IsStrictlySortedBy
returns-in_default-clause-ordered c = let P : List Text → Type 0 = λ names. IsInByteOrder names in subst P (sym c.new.ensures) tt

pub returns-in_default-clause-keep : goal.returns-in_default-clause-keep
returns-in_default-clause-keep c = (λ never. absurd (false≢true never), λ kept. absurd (c.in_default.ensures kept.0 kept.1))

pub returns-clause-to : goal.returns-clause-to
returns-clause-to c = λ to.
    let other : c.args.caller.now ≡ local → ⊥ = λ same. false≢true (c.if-is_local.ensures.1 same) in
    let rules : c.as_slice.result.now ≡ c.in-Some.node.now.rules = c.as_slice.ensures in
    let by = rw rules at (c.in_ok-targets.ensures.to to) in (
      λ h. inr (c.in-Some.node.now, c.in-Some.ensures.0, by.0 h),
      λ s. elim s [
        | inl entered ↦ absurd (other entered.0)
        | inr ruled ↦ by.1 (let P : Node → Type 0 = λ n. SendsBy n.rules c.args.caller.now c.args.key.now to in subst P (c.in-Some.ensures.1 ruled.0 ruled.1) ruled.2)
      ],
    )

pub returns-clause-keep : goal.returns-clause-keep
returns-clause-keep c =
    let rules : c.as_slice.result.now ≡ c.in-Some.node.now.rules = c.as_slice.ensures in
    let by = rw rules at c.in_ok-targets.ensures.keep in (
      λ h. (c.in-Some.node.now, c.in-Some.ensures.0, by.0 h),
      λ kept. by.1 (let P : Node → Type 0 = λ n. KeepsBy n.rules c.args.caller.now c.args.key.now in subst P (c.in-Some.ensures.1 kept.0 kept.1) kept.2),
    )
