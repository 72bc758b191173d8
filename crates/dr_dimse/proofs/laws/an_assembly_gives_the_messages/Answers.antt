use Rattle.std.proofs.Common.{[], refl}
use Rattle.dr_dimse.specs.Taking.{Idle}
use Rattle.dr_dimse.proofs.MessageLemmas.{told}
use Rattle.dr_dimse.proofs.GivenLemmas.{given_awaited}
use Rattle.dr_dimse.proofs.laws.an_assembly_gives_the_messages.Goals as goal

pub returns : goal.returns
returns c = record {
  fresh = λ calls new t. told calls [] Idle new refl t;
  awaited = λ awaited calls new all t. given_awaited awaited calls Idle new tt all t;
  later = λ calls before old new l t. told calls before old new l t;
}
