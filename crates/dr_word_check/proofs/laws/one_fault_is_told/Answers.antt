use Rattle.std.proofs.Common.{◌≡◌, sym, ◌∙◌, ap, subst}
use Rattle.dr_plan_model.specs.Networks.{Network}
use Rattle.dr_check.specs.Answering.{Judges}
use Rattle.dr_check.specs.declared.fault.Fault.{Fault}
use Rattle.dr_check.specs.declared.verdict.Verdict.TheVariants.{No}
use Rattle.dr_word_check.specs.Faults.{no_line}
use Rattle.dr_word_check.proofs.Read.{read_once}
use Rattle.dr_word_check.proofs.laws.one_fault_is_told.Goals as goal

pub returns : goal.returns
returns c = λ text a b one other.
    let P : Network → Type 0 = λ plan. Judges plan (No one.fault) in
    let judged = subst P (read_once text one.plan other.plan one.reads other.reads) one.judged in
    let formed = c.the_plan_of_a_text_is_well_formed.ensures text other.plan other.reads in
    let same : one.fault ≡ other.fault = c.one_is_named_first.ensures other.plan formed one.fault other.fault judged other.judged in
    one.printed ∙ (ap no_line same ∙ sym other.printed)
