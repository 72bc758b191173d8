use Rattle.std.proofs.Common.{◌≡◌, ◌∙◌, ap, inl, inr, refl, sym, subst}
use Rattle.std.proofs.lemmas.Bool.{false≢true}
use Rattle.dr_base.specs.Texts.{Text}
use Rattle.dr_route.specs.Routes.{local, SendsBy, KeepsBy}
use Rattle.dr_plan_model.specs.Walks.{FlowsAmong}
use Rattle.dr_plan_model.proofs.WalksAlike.{no_rule_sends, no_rule_keeps}
use Rattle.dr_site.specs.Parts.{Part}
use Rattle.dr_site.proofs.Shown.{shown}
use Rattle.dr_site.proofs.site.Site.targets.Goals as goal

pub returns-then-is_local-clause-to : goal.returns-then-is_local-clause-to
returns-then-is_local-clause-to c = λ to.
    let is : c.args.caller.now ≡ local = c.if-is_local.ensures.0 refl in
    let F : Part → Type 0 = λ p. FlowsAmong p.flows p.name c.args.key.now to in
    let same : shown c.as_ref-parts.result.now ≡ c.args.self.now = ap shown c.as_ref-parts.ensures ∙ c.self.view_is in
    let by = rw c.as_slice.ensures at (c.in_ok-to.ensures.to to) in (
      λ h. inl (is, subst F same (by.0 h)),
      λ s. elim s [
        | inl entered ↦ by.1 (subst F (sym same) entered.1)
        | inr ruled ↦ absurd (no_rule_sends c.args.self.now.rules c.args.key.now to (let P : Text → Type 0 = λ t. SendsBy c.args.self.now.rules t c.args.key.now to in subst P is ruled))
      ],
    )

pub returns-then-is_local-clause-keep : goal.returns-then-is_local-clause-keep
returns-then-is_local-clause-keep c =
    let same : c.args.caller.now ≡ local = c.if-is_local.ensures.0 refl in (
      λ never. absurd (false≢true never),
      λ kept. absurd (no_rule_keeps c.args.self.now.rules c.args.key.now (let P : Text → Type 0 = λ t. KeepsBy c.args.self.now.rules t c.args.key.now in subst P same kept)),
    )
