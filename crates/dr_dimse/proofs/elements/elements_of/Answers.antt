use Rattle.std.proofs.Common.{◌≡◌, ◌≢◌, [], ◌∷◌, ◌++◌, ◌∙◌, sym, subst, ap, false, length, eqb, List, ℕ}
use Rattle.std.proofs.lemmas.Result.{err_from_is_err_and}
use Rattle.std.proofs.lemmas.Bool.{eqb-true, eqb-false}
use Rattle.std.proofs.lemmas.List.{map_push, nil_from_length}
use Rattle.dr_base.specs.Runs.{Run}
use Rattle.dr_base.proofs.RunLemmas.{run_more, starts_then}
use Rattle.dr_dimse.specs.Commands.{CommandElement, StartsCommandElement}
use Rattle.dr_dimse.specs.Reads.{element, elements}
use Rattle.dr_dimse.proofs.ElementLemmas.{element_parts}
use Rattle.dr_dimse.proofs.Refusals.{refused}
use Rattle.dr_dimse.proofs.elements.elements_of.Goals as goal

pub returns-in_err-element : goal.returns-in_err-element
returns-in_err-element c =
    let p = err_from_is_err_and c.from_residual.result c.from_residual.ensures.1 in
    let test : eqb (length c.loop-rest.rest.now) 0 ≡ false = sym c.is_empty.ensures ∙ c.loop-rest-test.true in
    let some : c.loop-rest.rest.now ≢ [] = λ e. eqb-false _ _ test (ap length e) in
    rw (p.1, p.2) (refused _ (λ (x : CommandElement × List ℕ). StartsCommandElement c.loop-rest.rest.now x.0 x.1) (λ es. Run StartsCommandElement es c.args.text.now []) (λ es. starts_then StartsCommandElement element_parts _ es _ _ some c.loop-rest.invariant) c.in_err-element.ensures)

pub loop-rest-preserved : goal.loop-rest-preserved
loop-rest-preserved c =
    let e : elements c.push.new.self.items ≡ elements c.loop-rest.found.items ++ element c.in_ok-element.element ∷ [] = rw c.in_ok-push.ensures.items (map_push _ c.loop-rest.found.items c.in_ok-element.element) in
    rw e (run_more StartsCommandElement _ _ _ _ _ c.loop-rest.invariant c.in_ok-element.ensures)

pub returns : goal.returns
returns c =
    let nothing : c.loop-rest.rest.now ≡ [] = nil_from_length _ (eqb-true _ _ (sym c.is_empty.ensures ∙ c.loop-rest-test.false)) in
    subst (λ (r : List ℕ). Run StartsCommandElement (elements c.loop-rest.found.items) c.args.text.now r) nothing c.loop-rest.invariant
