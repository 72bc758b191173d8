use Rattle.dr_pdu.specs.declared.pdu.Pdu.TheVariants.{ReleaseRp}
use Rattle.dr_pdu.proofs.WrittenLemmas.{others_fit}
use Rattle.dr_session.proofs.writing.write_release_answer.Goals as goal

pub write_pdu-requires : goal.write_pdu-requires
write_pdu-requires c = others_fit (ReleaseRp) (λ rq e. cc) (λ ac e. cc) (λ pdvs e. cc)
