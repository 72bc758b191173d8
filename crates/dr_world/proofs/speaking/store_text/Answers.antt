use Rattle.std.proofs.Common.{◌++◌, List, ℕ, ap, ◌∙◌}
use Rattle.dr_ledger.specs.declared.content.Job.{Job}
use Rattle.dr_nego.specs.Fragments.{spellings}
use Rattle.dr_world.specs.Orders.{storing_pdus}
use Rattle.dr_world.proofs.speaking.store_text.Goals as goal

pub returns : goal.returns
returns c =
    c.in_ok-all.ensures ∙ ap (λ (t : List ℕ). c.args.front.now ++ t)
    (c.in_ok-bytes.ensures ∙ ap (λ (j : Job). spellings (storing_pdus c.args.context j)) (c.into_job-job.ensures.same ∙ c.in_ok-copy.ensures))
