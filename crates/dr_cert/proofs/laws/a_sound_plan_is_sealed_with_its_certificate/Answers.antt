use Rattle.dr_cert.proofs.Faultless.{own_is_taken}
use Rattle.dr_cert.proofs.laws.a_sound_plan_is_sealed_with_its_certificate.Goals as goal

pub returns : goal.returns
returns c = own_is_taken
