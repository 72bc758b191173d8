use Rattle.std.proofs.Common.{refl}
use Rattle.dr_world_audit.proofs.Sets.{hop_found, hop_not_found}
use Rattle.dr_world_audit.proofs.comparing.is_among.Goals as goal

pub returns-in-Ok : goal.returns-in-Ok
returns-in-Ok c = (λ t. hop_found c.args.hops.now c.args.hop.now c.in-Ok._place c.in-Ok.ensures.bound c.in-Ok.ensures.ok, λ among. refl)

pub returns-in-Err : goal.returns-in-Err
returns-in-Err c = (λ t. absurd (let e : ⊥ = cc in e), λ among. absurd (hop_not_found c.args.hops.now c.args.hop.now c.in-Err._place c.requires c.in-Err.ensures.position among))
