use Rattle.std.proofs.Common.{subst}
use Rattle.dr_check.specs.Answering.{Judges}
use Rattle.dr_check.specs.Shown.{IsTooLarge}
use Rattle.dr_check.specs.declared.verdict.Verdict.TheVariants.{No}
use Rattle.dr_certify.proofs.Digests.{of_core}
use Rattle.dr_word_check.proofs.Refuted.{refuted}
use Rattle.dr_word_check.proofs.answer.answer_to_plan.Goals as goal

pub returns-in-Ok : goal.returns-in-Ok
returns-in-Ok c = λ text reads.
    record { plan = c.args.plan.now; reads = reads; has = c.in-Ok.ensures (of_core c.args.plan.now.digest reads.core reads.reads.2) }

pub returns-in-Err-Unsound : goal.returns-in-Err-Unsound
returns-in-Err-Unsound c = λ text reads.
    let judged : Judges c.args.plan.now (No c.in-Err-Unsound.fault) = rw c.in-Err-Unsound.field-0-is at c.in-Err-Unsound.ensures (of_core c.args.plan.now.digest reads.core reads.reads.2) in
    refuted text c.args.plan.now c.in-Err-Unsound.fault c.answer_to_unsound-answer.result reads judged c.answer_to_unsound-answer.ensures

pub returns-in-Err-TooLarge : goal.returns-in-Err-TooLarge
returns-in-Err-TooLarge c = λ text reads.
    let large : IsTooLarge c.args.plan.now = rw c.in-Err-TooLarge.field-0-is at c.in-Err-TooLarge.ensures (of_core c.args.plan.now.digest reads.core reads.reads.2) in
    (c.args.plan.now, reads, large)
