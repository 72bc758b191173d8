use Rattle.std.proofs.Common.{◌≡◌, ap, ◌∙◌, None, Some, List, ℕ}
use Rattle.std.specs.Option.{option_map}
use Rattle.std.proofs.lemmas.Result.{err_from_is_err_and}
use Rattle.dr_pdu.specs.declared.pdu.Front.{Front}
use Rattle.dr_base.specs.Padding.{unpadded}
use Rattle.dr_pdu.specs.Items.{Item, AreItems, bodies, first_body}
use Rattle.dr_pdu.specs.Reads.{items}
use Rattle.dr_pdu.specs.Grammar.{IsFront, IsGreatestLength, IsAssociation}
use Rattle.dr_base.specs.Lists.{Each}
use Rattle.dr_pdu.proofs.ContextLemmas.{items_behind, association_says}
use Rattle.dr_pdu.proofs.Refusals.{refused}
use Rattle.dr_pdu.proofs.associate.association_of.Goals as goal

pub returns-in_err-front : goal.returns-in_err-front
returns-in_err-front g c =
    let p = err_from_is_err_and c.from_residual.result c.from_residual.ensures.1 in
    rw (p.1, p.2) (refused _ (λ (x : Front × List ℕ). IsFront c.args.body.now x.0 x.1) (IsAssociation c.args.kind g.C.Context.is_context c.args.body.now) (λ a h. ((a.front, h.1), h.2)) c.in_err-front.ensures)

pub returns-in_err-found : goal.returns-in_err-found
returns-in_err-found g c =
    let p = err_from_is_err_and c.from_residual-in_err-found.result c.from_residual-in_err-found.ensures.1 in
    rw (p.1, p.2) (refused _ (λ (is : List Item). AreItems is c.in_ok-front.text.now) (IsAssociation c.args.kind g.C.Context.is_context c.args.body.now)
    (λ a h. (h.0, items_behind c.args.kind g.C.Context.is_context c.args.body.now c.in_ok-front.text.now c.in_ok-front.front a c.in_ok-front.ensures h)) c.in_err-found.ensures)

pub returns-in_default : goal.returns-in_default
returns-in_default g c = λ a h.
    let is = items c.in_ok-found.found.items in
    let says = association_says c.args.kind g.C.Context.is_context c.args.body.now c.in_ok-front.text.now c.in_ok-front.front is a c.in_ok-front.ensures c.in_ok-found.ensures h in
    let none : None ≡ first_body 0x10 is = rw c.deref.ensures.value at c.in_default.ensures in
    let e : option_map unpadded None ≡ Some a.application = ap (option_map unpadded) none ∙ says.application in
    absurd cc

pub returns-in_err-contexts : goal.returns-in_err-contexts
returns-in_err-contexts g c =
    let p = err_from_is_err_and c.from_residual-in_err-contexts.result c.from_residual-in_err-contexts.ensures.1 in
    let is = items c.in_ok-found.found.items in
    rw (p.1, p.2) (refused _ (Each g.C.Context.is_context (bodies c.args.kind is)) (IsAssociation c.args.kind g.C.Context.is_context c.args.body.now)
    (λ a h. (a.contexts, (association_says c.args.kind g.C.Context.is_context c.args.body.now c.in_ok-front.text.now c.in_ok-front.front is a c.in_ok-front.ensures c.in_ok-found.ensures h).contexts))
    (rw c.deref-2.ensures.value at c.in_err-contexts.ensures))

pub returns-in_err-max_pdu : goal.returns-in_err-max_pdu
returns-in_err-max_pdu g c =
    let p = err_from_is_err_and c.from_residual-in_err-max_pdu.result c.from_residual-in_err-max_pdu.ensures.1 in
    let is = items c.in_ok-found.found.items in
    rw (p.1, p.2) (refused _ (IsGreatestLength (first_body 0x50 is)) (IsAssociation c.args.kind g.C.Context.is_context c.args.body.now)
    (λ a h. (a.max_pdu, (association_says c.args.kind g.C.Context.is_context c.args.body.now c.in_ok-front.text.now c.in_ok-front.front is a c.in_ok-front.ensures c.in_ok-found.ensures h).greatest))
    (rw c.deref-3.ensures.value at c.in_err-max_pdu.ensures))
