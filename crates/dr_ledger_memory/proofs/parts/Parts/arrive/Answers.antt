use Rattle.std.proofs.Common.{None, ap, refl, subst}
use Rattle.dr_base.specs.Texts.{Text}
use Rattle.dr_ledger.specs.Pairs.{Pair}
use Rattle.dr_ledger.proofs.Maps.{text_pairs}
use Rattle.dr_ledger_memory.specs.Changes.{IsSetAt}
use Rattle.dr_ledger_memory.proofs.Trees.{same_keys, set_put}
use Rattle.dr_ledger_memory.proofs.parts.Parts.arrive.Goals as goal

pub returns-in-Ok-clause-ok : goal.returns-in-Ok-clause-ok
returns-in-Ok-clause-ok c =
    record { held = refl; arrivals = set_put text_pairs.total c.args.self.now.arrivals c.insert.new.self c.args.arrival c.in-Ok.ensures.updates.0; notes = c.write.ensures }

pub returns-in-Err-clause-err : goal.returns-in-Err-clause-err
returns-in-Err-clause-err c =
    let p = c.args.self.now in
    let P : Text → Type 0 = λ u. IsSetAt p.held u None c.remove.new.self in
    record {
      held = subst P (ap (λ (k : Pair). k.1) c.in-Err.ensures.value_returned) c.remove.ensures.updates.0;
      arrivals = same_keys p.arrivals c.insert.new.self c.in-Err.ensures.err;
      notes = refl;
    }

pub returns-in-Err-clause-ordered : goal.returns-in-Err-clause-ordered
returns-in-Err-clause-ordered c = λ h. c.remove.ensures.ordered
