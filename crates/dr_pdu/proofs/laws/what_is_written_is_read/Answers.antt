use Rattle.std.proofs.Common.{refl}
use Rattle.dr_pdu.specs.Written.{written}
use Rattle.dr_pdu.proofs.WrittenLemmas.{written_spells}
use Rattle.dr_pdu.proofs.laws.what_is_written_is_read.Goals as goal

pub returns : goal.returns
returns c = record {
  spelled = written_spells;
  read = λ limit p more f m. (written p, more, refl, refl, written_spells limit p f m);
}
