use Rattle.std.proofs.Common.{arith, sym, List, ℕ, subst}
use Rattle.dr_dataset.specs.Files.{IsMeta}
use Rattle.dr_dataset.proofs.FileLemmas.{file_longer}
use Rattle.dr_dataset.proofs.file.part10.Goals as goal

pub returns-in_default-of_uid : goal.returns-in_default-of_uid
returns-in_default-of_uid c = (
  c.in-Some.rest.now,
  c.unpadded.result.now,
  c.in-Some-meta_at.behind.now,
  c.in-Some.ensures,
  subst (λ (n : List ℕ). IsMeta c.in-Some.rest.now n c.in-Some-meta_at.behind.now) (sym c.unpadded.ensures) c.in-Some-meta_at.ensures.meta,
  c.in_default-of_uid.ensures,
)

pub overflow_sub-start : goal.overflow_sub-start
overflow_sub-start c = omega (arith, file_longer c.args.text.now c.in-Some.rest.now c.in-Some.ensures, c.in-Some-meta_at.ensures.within)

pub returns : goal.returns
returns c = (
  c.in-Some.rest.now,
  c.unpadded.result.now,
  c.in-Some-meta_at.behind.now,
  c.in-Some.ensures,
  subst (λ (n : List ℕ). IsMeta c.in-Some.rest.now n c.in-Some-meta_at.behind.now) (sym c.unpadded.ensures) c.in-Some-meta_at.ensures.meta,
  c.in-Some-of_uid.ensures,
  omega (arith, file_longer c.args.text.now c.in-Some.rest.now c.in-Some.ensures, c.in-Some-meta_at.ensures.within),
)
