use Rattle.dr_world_audit.proofs.Stopping.{settled_unfair}
use Rattle.dr_world_audit.proofs.audit.unfair_at.Goals as goal

pub returns-in_ok-clone-in-Settling-2 : goal.returns-in_ok-clone-in-Settling-2
returns-in_ok-clone-in-Settling-2 c = λ plan.
    settled_unfair c.args._ours.now.keys c.args.node.now c.args.line.now c.in-Settling.uid c.in-Settling.dest c.in-Settling.outcome c.in-Settling.now c.in-Settling.is
    c.in_ok-clone-in-Settling.field-0 c.in_ok-clone-in-Settling-2.field-0 c.in_ok-name.name c.in_ok-clone-in-Settling.ensures c.in_ok-clone-in-Settling-2.ensures c.in_ok-name.ensures c.requires.among c.requires.unfair
