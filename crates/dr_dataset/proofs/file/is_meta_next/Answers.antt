use Rattle.std.proofs.Common.{refl}
use Rattle.dr_dataset.proofs.FileLemmas.{next_is_meta}
use Rattle.dr_dataset.proofs.file.is_meta_next.Goals as goal

pub returns : goal.returns
returns c = next_is_meta c.args.text.now c.in-Some.tag _ _ c.in-Some.ensures refl
