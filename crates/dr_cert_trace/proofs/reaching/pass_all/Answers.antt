use Rattle.std.proofs.Common.{◌≡◌, ◌↔◌, ◌⊎◌, ◌<◌, inl, inr, sym, subst, rules, List, [], ◌∷◌, get_or, length, take, Contains, arith}
use Rattle.std.proofs.lemmas.List.{take_all}
use Rattle.dr_base.specs.Texts.{Text}
use Rattle.dr_route.specs.Names.{HasName}
use Rattle.dr_plan_model.proofs.Gathered.{nothing_in_nil, only_one, Contains-here}
use Rattle.dr_cert_trace.specs.Found.{HasPair}
use Rattle.dr_cert_trace.specs.Reaches.{SendsFrom, IsAt, KeepsAt, PassesAll}
use Rattle.dr_cert_trace.proofs.Spreading.{gathers_none, gathers_more}
use Rattle.dr_cert_trace.proofs.reaching.pass_all.Goals as goal

pub loop-place-init : goal.loop-place-init
loop-place-init c =
    let empty : c.new-next.result.keys ≡ [] = search rules in
    record {
      behind = λ pair. (
        λ h. absurd (nothing_in_nil pair (subst (λ (keys : List (Text × Text)). Contains keys pair) empty h)),
        λ h. elim h [ inl none ↦ absurd none | inr m ↦ absurd (nothing_in_nil m.0 m.1) ],
      );
      comes = gathers_none IsAt (HasName c.args.nodes.now);
      ends = gathers_none (KeepsAt c.args.plan.now c.args.key.now) (HasName c.args.keeps.now);
    }

pub loop-place-preserved : goal.loop-place-preserved
loop-place-preserved c =
    let front = c.args.front.now in
    let place = c.place-item.result in
    let i = c.loop-place.place-index in
    let plan = c.args.plan.now in
    let key = c.args.key.now in
    let before = c.loop-place.invariant in
    let on = c.in_ok-go_on.ensures in
    let one : c.from_ref.result.now ≡ place.1 ∷ [] = c.from_ref.ensures.value in
    let named : (name : Text) → HasName c.add_names.new.names name ↔ (HasName c.loop-place.nodes name ⊎ IsAt place name) = λ name. (
      λ h. elim ((c.in_ok-add_names.ensures name).0 h) [
        | inl earlier ↦ inl earlier
        | inr new ↦ inr (only_one place.1 name (subst (λ (xs : List Text). Contains xs name) one new))
      ],
      λ h. elim h [
        | inl earlier ↦ (c.in_ok-add_names.ensures name).1 (inl earlier)
        | inr same ↦ (c.in_ok-add_names.ensures name).1 (inr (subst (λ (xs : List Text). Contains xs name) (sym one) (subst (λ (x : Text). Contains (place.1 ∷ []) x) same (Contains-here place.1 []))))
      ],
    ) in
    record {
      behind = gathers_more (SendsFrom plan key) front i place (λ pair. ⊥) (HasPair c.loop-place.next) (HasPair c.go_on.new.pairs) c.loop-place-test.true c.place-item.is before.behind on.pairs;
      comes = gathers_more IsAt front i place (HasName c.args.nodes.now) (HasName c.loop-place.nodes) (HasName c.add_names.new.names) c.loop-place-test.true c.place-item.is before.comes named;
      ends = gathers_more (KeepsAt plan key) front i place (HasName c.args.keeps.now) (HasName c.loop-place.keeps) (HasName c.go_on.new.keeps) c.loop-place-test.true c.place-item.is before.ends on.keeps;
    }

pub returns : goal.returns
returns c =
    let all : take c.loop-place.place-index c.args.front.now ≡ c.args.front.now = take_all _ _ (omega arith) in
    subst (λ (xs : List (Text × Text)). PassesAll c.args.plan.now c.args.key.now xs c.loop-place.next c.args.nodes.now c.loop-place.nodes c.args.keeps.now c.loop-place.keeps) all c.loop-place.invariant
