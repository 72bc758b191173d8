use Rattle.dr_plan_sound.proofs.Reaching.{lead_to_addresses}
use Rattle.dr_plan_sound.proofs.laws.hops_lead_to_addresses.Goals as goal

pub returns : goal.returns
returns c = lead_to_addresses
