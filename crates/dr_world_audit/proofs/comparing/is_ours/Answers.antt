use Rattle.std.proofs.Common.{sym, ◌∙◌}
use Rattle.std.proofs.lemmas.Map.Views.{btree_set_contains_iff}
use Rattle.dr_ledger.proofs.Maps.{texts}
use Rattle.dr_world_audit.proofs.comparing.is_ours.Goals as goal

pub returns : goal.returns
returns c = (let h = btree_set_contains_iff texts.total texts.exact c.args.ours.now c.args.name.now in (λ t. h.0 (sym c.contains.ensures ∙ t), λ k. c.contains.ensures ∙ h.1 k))
