use Rattle.dr_run_answer.specs.Answers.{ages_figures, stages_figures}
use Rattle.dr_run_answer.proofs.Chained.{chained}
use Rattle.dr_run_answer.proofs.figures.put_queues.Goals as goal

pub returns : goal.returns
returns c =
    let queues = c.args.queues.now in
    chained c.args.out.now.items (stages_figures queues) (ages_figures queues) c.put_all_stages.new.out.items c.put_ages.new.out.items c.in_ok-put_all_stages.ensures c.in_ok-put_ages.ensures
