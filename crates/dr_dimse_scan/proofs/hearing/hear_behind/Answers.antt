use Rattle.std.proofs.Common.{sym, subst, refl, take}
use Rattle.dr_dataset.specs.declared.hearing.Scan.{Scan}
use Rattle.dr_dataset.specs.Hearing.{Hears}
use Rattle.dr_dimse_scan.proofs.FollowLemmas.{hears_rest}
use Rattle.dr_dimse_scan.proofs.hearing.hear_behind.Goals as goal

pub returns-clause-hears : goal.returns-clause-hears
returns-clause-hears c = (
  refl,
  λ s h. hears_rest s c.args.before c.args.bytes.now c.split_at.result.1.now c.deref_mut.result.now c.feed.new.self c.split_at.ensures.back c.feed.ensures.hears (subst (λ (x : Scan). Hears s (take c.args.before c.args.bytes.now) x) (sym c.deref_mut.ensures.value) h),
)
