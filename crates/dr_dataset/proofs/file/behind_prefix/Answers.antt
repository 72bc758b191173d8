use Rattle.dr_dataset.proofs.FileLemmas.{short_mark, other_mark, is_file}
use Rattle.dr_dataset.proofs.file.behind_prefix.Goals as goal

pub returns-in_default-split_at_checked : goal.returns-in_default-split_at_checked
returns-in_default-split_at_checked c = λ rest. short_mark c.args.text.now _ c.in-Some.marked.now rest c.in-Some.ensures.cases c.in_default-split_at_checked.ensures.cases

pub returns-then-not-is_dicom : goal.returns-then-not-is_dicom
returns-then-not-is_dicom c =
    λ rest. other_mark c.args.text.now _ c.in-Some.marked.now _ _ rest c.in-Some.ensures.cases c.in-Some-split_at_checked.ensures.cases c.if-not-is_dicom.ensures

pub returns : goal.returns
returns c = is_file c.args.text.now _ c.in-Some.marked.now _ _ c.in-Some.ensures.cases c.in-Some-split_at_checked.ensures.cases c.if-not-is_dicom.ensures
