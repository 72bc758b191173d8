use Rattle.std.proofs.Common.{◌↔◌, inl, inr, sym, subst, List, Contains}
use Rattle.dr_base.specs.Texts.{Text}
use Rattle.dr_plan_model.specs.Walks.{Sends}
use Rattle.dr_cert_trace.proofs.walking.go_on.Goals as goal

pub returns : goal.returns
returns c =
    let t = c.in_ok-targets.targets in
    let place = c.args.place.now in
    let sent : (name : Text) → Contains c.as_slice.result.now name ↔ Sends c.args.plan.now place.1 place.0 c.args.key.now name =
    subst (λ (xs : List Text). (name : Text) → Contains xs name ↔ Sends c.args.plan.now place.1 place.0 c.args.key.now name) (sym c.as_slice.ensures) c.in_ok-targets.ensures.to in
    record {
      pairs = λ pair. (
        λ h. elim ((c.in_ok-add_pairs.ensures pair).0 h) [ inl earlier ↦ inl earlier | inr more ↦ inr (more.0, (sent pair.1).0 more.1) ],
        λ h. elim h [ inl earlier ↦ (c.in_ok-add_pairs.ensures pair).1 (inl earlier) | inr more ↦ (c.in_ok-add_pairs.ensures pair).1 (inr (more.0, (sent pair.1).1 more.1)) ],
      );
      keeps = λ name. (
        λ h. elim ((c.in_ok-add_if.ensures name).0 h) [ inl earlier ↦ inl earlier | inr more ↦ inr (more.0, c.in_ok-targets.ensures.keep.0 more.1) ],
        λ h. elim h [ inl earlier ↦ (c.in_ok-add_if.ensures name).1 (inl earlier) | inr more ↦ (c.in_ok-add_if.ensures name).1 (inr (more.0, c.in_ok-targets.ensures.keep.1 more.1)) ],
      );
    }
