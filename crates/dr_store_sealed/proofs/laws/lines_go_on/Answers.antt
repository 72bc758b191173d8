use Rattle.std.proofs.Common.{ap, ◌∙◌, sym}
use Rattle.dr_store_sealed.specs.declared.seal.Seal.{Seal}
use Rattle.dr_store_sealed.specs.Seals.{first_seal, seal_after}
use Rattle.dr_store_sealed.proofs.LawLemmas.{lines_more}
use Rattle.dr_store_sealed.proofs.SealLemmas.{after_more, bytes_more}
use Rattle.dr_store_sealed.proofs.laws.lines_go_on.Goals as goal

pub returns-clause-seals : goal.returns-clause-seals
returns-clause-seals c =
    record {
      seals = λ lines more seal is. ap (λ (s : Seal). seal_after s more) is ∙ sym (after_more first_seal lines more);
      bytes = λ seal lines more. bytes_more seal lines more;
    }

pub returns-clause-spans : goal.returns-clause-spans
returns-clause-spans c = λ seen first second third lines more. lines_more seen first second third lines more
