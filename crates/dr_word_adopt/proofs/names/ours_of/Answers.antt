use Rattle.std.proofs.Common.{◌∙◌, inl, inr, List, ap, subst, sym}
use Rattle.std.specs.Prelude.{Contains, filter}
use Rattle.dr_base.specs.Texts.{Text}
use Rattle.dr_plan_model.specs.Networks.{Network}
use Rattle.dr_plan_model.specs.Plans.{AreNames, NamesNoNode}
use Rattle.dr_run_open.specs.declared.halt.Halt.{Halt}
use Rattle.dr_word_adopt.specs.Names.{AreNodes, IsUnnamed, is_besides}
use Rattle.dr_word_adopt.proofs.names.ours_of.Goals as goal

pub returns-in-Some : goal.returns-in-Some
returns-in-Some c =
    let none = subst (λ (p : Network). NamesNoNode p c.in-Some.name.now) c.plan.ensures.same c.in-Some.ensures.1 in
    let P : Halt → Type 0 = λ halt. IsUnnamed c.args.old.now.plan c.args.next.now.plan c.args.others.now halt in
    subst P (sym c.at.ensures) (inl (c.in-Some.name.now, c.in-Some.ensures.0, none))

pub returns-in-Some-stranger_in : goal.returns-in-Some-stranger_in
returns-in-Some-stranger_in c =
    let name = c.in-Some-stranger_in.name.now in
    let are = subst (λ (p : Network). AreNames p c.in_ok-names.names.items) c.plan-2.ensures.same c.in_ok-names.ensures in
    let among = subst (λ (names : List Text). Contains names name) c.as_slice.ensures.value c.in-Some-stranger_in.ensures.0 in
    let none = subst (λ (p : Network). NamesNoNode p name) c.plan-3.ensures.same c.in-Some-stranger_in.ensures.1 in
    let P : Halt → Type 0 = λ halt. IsUnnamed c.args.old.now.plan c.args.next.now.plan c.args.others.now halt in
    subst P (sym c.at-in-Some-stranger_in.ensures) (inr (name, c.in_ok-names.names.items, are, among, none))

pub returns : goal.returns
returns c =
    let in_next = subst (λ (p : Network). AreNodes p c.as_slice.result.now) c.plan-3.ensures.same c.in_default-stranger_in.ensures in
    record {
      names = c.in_ok-names.names.items;
      are = subst (λ (p : Network). AreNames p c.in_ok-names.names.items) c.plan-2.ensures.same c.in_ok-names.ensures;
      stay = subst (λ (names : List Text). AreNodes c.args.next.now.plan names) c.as_slice.ensures.value in_next;
      known = subst (λ (p : Network). AreNodes p c.args.others.now) c.plan.ensures.same c.in_default.ensures;
      besides = c.in_ok-ours.ensures ∙ ap (λ (names : List Text). filter (is_besides c.args.others.now) names) c.as_slice-2.ensures.value;
    }
