use Rattle.std.proofs.Common.{◌≡◌, take}
use Rattle.dr_run_report.specs.declared.judging.FileId.{FileId}
use Rattle.dr_run_report.proofs.Finding.{NoneOf}
use Rattle.dr_run_report.proofs.judging.is_listed.Given as goal

abbrev pub invariant-loop-file : goal.invariant-loop-file
invariant-loop-file l = NoneOf (λ (file : FileId). file ≡ l.fn.id) (take l.file-index l.fn.files)
