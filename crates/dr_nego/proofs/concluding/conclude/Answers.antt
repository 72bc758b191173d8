use Rattle.std.proofs.Common.{◌≡◌, Bool, List, sym, ap, ◌∙◌}
use Rattle.std.specs.List.{flat_map}
use Rattle.dr_pdu.specs.declared.pdu.ContextProposal.{ContextProposal}
use Rattle.dr_pdu.specs.declared.pdu.ContextAnswer.{ContextAnswer}
use Rattle.dr_nego.specs.declared.agreed.Pair.{Pair}
use Rattle.dr_nego.specs.declared.agreed.Agreed.{Agreed}
use Rattle.dr_nego.specs.Agreeing.{answer_to, pair_if}
use Rattle.dr_nego.specs.Tests.{has_strange_id, has_strange_syntax}
use Rattle.dr_nego.proofs.Faults.{strange_id_is, strange_id_not, strange_syntax_is, strange_syntax_not, too_small_is, too_small_not}
use Rattle.dr_nego.proofs.concluding.conclude.Goals as goal

-- a test of what two slices hold is one of what they were made of
same_test : (test : List ContextProposal → List ContextAnswer → Bool) (cs ds : List ContextProposal) (as' bs : List ContextAnswer) → cs ≡ ds → as' ≡ bs → test cs as' ≡ test ds bs
same_test test cs ds as' bs c a = ap (λ (x : List ContextProposal). test x as') c ∙ ap (λ (x : List ContextAnswer). test ds x) a

pub returns-then-has_strange_id : goal.returns-then-has_strange_id
returns-then-has_strange_id c = strange_id_is c.args.rq.now c.args.ac.now
    (sym (same_test has_strange_id _ _ _ _ c.as_slice-contexts.ensures c.as_slice-answers.ensures) ∙ sym c.if-has_strange_id.ensures)

pub returns-then-has_strange_syntax : goal.returns-then-has_strange_syntax
returns-then-has_strange_syntax c = (
  strange_id_not c.args.rq.now c.args.ac.now (sym (same_test has_strange_id _ _ _ _ c.as_slice-contexts.ensures c.as_slice-answers.ensures) ∙ sym c.if-has_strange_id.ensures),
  strange_syntax_is c.args.rq.now c.args.ac.now (sym (same_test has_strange_syntax _ _ _ _ c.as_slice-contexts.ensures c.as_slice-answers.ensures) ∙ sym c.if-has_strange_syntax.ensures),
)

pub returns-then-is_too_small : goal.returns-then-is_too_small
returns-then-is_too_small c = (
  strange_id_not c.args.rq.now c.args.ac.now (sym (same_test has_strange_id _ _ _ _ c.as_slice-contexts.ensures c.as_slice-answers.ensures) ∙ sym c.if-has_strange_id.ensures),
  strange_syntax_not c.args.rq.now c.args.ac.now (sym (same_test has_strange_syntax _ _ _ _ c.as_slice-contexts.ensures c.as_slice-answers.ensures) ∙ sym c.if-has_strange_syntax.ensures),
  too_small_is c.args.ac.now.max_pdu (sym c.if-is_too_small.ensures),
)

pub returns : goal.returns
returns c =
    let agreed : List Pair → Agreed = λ pairs. record { pairs = pairs; limit = c.args.ac.now.max_pdu } in
    let made : List ContextProposal → List ContextAnswer → List Pair = λ cs as'. flat_map (λ (x : ContextProposal). pair_if x (answer_to as' x)) cs in (
      strange_id_not c.args.rq.now c.args.ac.now (sym (same_test has_strange_id _ _ _ _ c.as_slice-contexts.ensures c.as_slice-answers.ensures) ∙ sym c.if-has_strange_id.ensures),
      strange_syntax_not c.args.rq.now c.args.ac.now (sym (same_test has_strange_syntax _ _ _ _ c.as_slice-contexts.ensures c.as_slice-answers.ensures) ∙ sym c.if-has_strange_syntax.ensures),
      too_small_not c.args.ac.now.max_pdu (sym c.if-is_too_small.ensures),
      ap agreed (c.in_ok-pairs.ensures ∙ (ap (λ (x : List ContextProposal). made x c.as_slice-answers.result.now) c.as_slice-contexts.ensures ∙ ap (λ (x : List ContextAnswer). made c.args.rq.now.contexts x) c.as_slice-answers.ensures)),
    )
