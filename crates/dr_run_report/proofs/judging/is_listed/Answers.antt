use Rattle.std.proofs.Common.{◌≡◌, sym, ◌∙◌, take, arith}
use Rattle.std.proofs.lemmas.Bool.{false≢true}
use Rattle.std.proofs.lemmas.List.{take_all}
use Rattle.dr_run_report.specs.declared.judging.FileId.{FileId}
use Rattle.dr_run_report.proofs.Finding.{none_found, none_more_at}
use Rattle.dr_run_report.proofs.judging.is_listed.Goals as goal

pub loop-file-preserved : goal.loop-file-preserved
loop-file-preserved c =
    none_more_at (λ (file : FileId). file ≡ c.args.id.now) c.args.files.now c.loop-file.file-index _ c.loop-file-test.true
    (λ is. false≢true (sym c.if-is_id.false ∙ c.is_id.ensures.1 is)) c.loop-file.invariant

pub returns : goal.returns
returns c =
    let all : take c.loop-file.file-index c.args.files.now ≡ c.args.files.now = take_all _ _ (omega arith) in
    none_found (λ (file : FileId). file ≡ c.args.id.now) c.args.files.now c.loop-file.file-index all c.loop-file.invariant
