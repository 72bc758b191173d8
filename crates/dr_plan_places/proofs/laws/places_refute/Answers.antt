use Rattle.dr_plan_places.proofs.Refuted.{refuted_text}
use Rattle.dr_plan_places.proofs.ShortRefuted.{refuted_short}
use Rattle.dr_plan_places.proofs.laws.places_refute.Goals as goal

pub returns-clause-written : goal.returns-clause-written
returns-clause-written c = refuted_text

pub returns-clause-short : goal.returns-clause-short
returns-clause-short c = refuted_short
