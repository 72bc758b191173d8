use Rattle.std.proofs.Common.{◌≡◌, ◌∙◌, sym, subst, List, Contains, Option, Some}
use Rattle.std.specs.Prelude.{All}
use Rattle.dr_base.specs.Texts.{Text}
use Rattle.dr_cert_trace.specs.declared.reaching.Reach.{Reach}
use Rattle.dr_cert_trace.specs.Reaches.{IsReach, Reaches}
use Rattle.dr_cert_expect.proofs.Judging.{is_met, lacks_keep, lacks_never}
use Rattle.dr_cert_expect.proofs.row.judge.Goals as goal

pub returns-in-Some-first_outside : goal.returns-in-Some-first_outside
returns-in-Some-first_outside c =
    let plan = c.args.sealed.now.plan in
    let row = c.args.row.now in
    let site = c.args.site.now in
    let key = c.args.key.now in
    let reach = c.in-Some.reach in
    let is : IsReach plan site key reach = subst (λ (o : Option Reach). Reaches plan site key o) c.in-Some.is c.in_ok-reach.ensures in
    let name = c.in-Some-first_outside.name.now in
    let found = c.in_ok-lack.ensures in
    lacks_keep plan row site key reach is c.requires name
    (subst (λ (xs : List Text). Contains xs name) c.as_slice.ensures c.in-Some-first_outside.ensures.0)
    (subst (λ (xs : List Text). Contains xs name → ⊥) c.as_slice-2.ensures c.in-Some-first_outside.ensures.1)
    c.in_ok-lack.lack found.0 found.1 found.2 found.3

pub returns-in-Some-first_inside : goal.returns-in-Some-first_inside
returns-in-Some-first_inside c =
    let plan = c.args.sealed.now.plan in
    let row = c.args.row.now in
    let site = c.args.site.now in
    let key = c.args.key.now in
    let reach = c.in-Some.reach in
    let is : IsReach plan site key reach = subst (λ (o : Option Reach). Reaches plan site key o) c.in-Some.is c.in_ok-reach.ensures in
    let name = c.in-Some-first_inside.name.now in
    let found = c.in_ok-lack-2.ensures in
    lacks_never plan row site key reach is c.requires name
    (subst (λ (xs : List Text). Contains xs name) c.as_slice-3.ensures c.in-Some-first_inside.ensures.0)
    (subst (λ (xs : List Text). Contains xs name) c.as_slice-4.ensures c.in-Some-first_inside.ensures.1)
    c.in_ok-lack-2.lack found.0 found.1 found.2 found.3

pub returns : goal.returns
returns c =
    let plan = c.args.sealed.now.plan in
    let row = c.args.row.now in
    let site = c.args.site.now in
    let key = c.args.key.now in
    let reach = c.in-Some.reach in
    let is : IsReach plan site key reach = subst (λ (o : Option Reach). Reaches plan site key o) c.in-Some.is c.in_ok-reach.ensures in
    let kept : All (λ (name : Text). Contains reach.keeps name) row.keep =
    subst (λ (xs : List Text). All (λ (name : Text). Contains reach.keeps name) xs) c.as_slice.ensures
    (subst (λ (set : List Text). All (λ (name : Text). Contains set name) c.as_slice.result.now) c.as_slice-2.ensures c.in_default-first_outside.ensures) in
    let never : All (λ (name : Text). Contains reach.nodes name → ⊥) row.never =
    subst (λ (xs : List Text). All (λ (name : Text). Contains reach.nodes name → ⊥) xs) c.as_slice-3.ensures
    (subst (λ (set : List Text). All (λ (name : Text). Contains set name → ⊥) c.as_slice-3.result.now) c.as_slice-4.ensures c.in_default-first_inside.ensures) in
    (is.enters, is_met plan row site key reach is c.requires kept never)
