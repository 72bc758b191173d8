use Rattle.std.proofs.Common.{◌≡◌, ◌≢◌, [], ◌∷◌, ◌++◌, ◌∙◌, sym, ap, false, length, eqb, List, ℕ}
use Rattle.std.proofs.lemmas.Result.{err_from_is_err_and}
use Rattle.std.proofs.lemmas.Bool.{eqb-false}
use Rattle.dr_pdu.specs.Items.{StartsPdv}
use Rattle.dr_pdu.specs.declared.pdu.Pdv.{Pdv}
use Rattle.dr_base.specs.Runs.{Run}
use Rattle.dr_base.proofs.RunLemmas.{run_more, starts_then}
use Rattle.dr_pdu.proofs.PdvLemmas.{pdv_parts}
use Rattle.dr_pdu.proofs.Refusals.{refused}
use Rattle.dr_pdu.proofs.pdvs.pdvs_of.Goals as goal

pub returns-in_err-pdv : goal.returns-in_err-pdv
returns-in_err-pdv c =
    let p = err_from_is_err_and c.from_residual.result c.from_residual.ensures.1 in
    let test : eqb (length c.loop-rest.rest.now) 0 ≡ false = sym c.is_empty.ensures ∙ c.loop-rest-test.true in
    let some : c.loop-rest.rest.now ≢ [] = λ e. eqb-false _ _ test (ap length e) in
    rw (p.1, p.2) (refused _ (λ (x : Pdv × List ℕ). StartsPdv c.loop-rest.rest.now x.0 x.1) (λ is. Run StartsPdv is c.args.text.now []) (λ is. starts_then StartsPdv pdv_parts _ is _ _ some c.loop-rest.invariant) c.in_err-pdv.ensures)

pub loop-rest-preserved : goal.loop-rest-preserved
loop-rest-preserved c =
    let e : c.push.new.self.items ≡ c.loop-rest.found.items ++ c.in_ok-pdv.pdv ∷ [] = c.in_ok-push.ensures.items in
    rw e (run_more StartsPdv _ _ _ _ _ c.loop-rest.invariant c.in_ok-pdv.ensures)
