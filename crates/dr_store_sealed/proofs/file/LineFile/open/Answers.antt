use Rattle.std.proofs.Common.{arith}
use Rattle.dr_store_sealed.specs.Lines.{bytes_of}
use Rattle.dr_store_sealed.proofs.FileLemmas.{endures_synced}
use Rattle.dr_store_sealed.proofs.SealLemmas.{reaches}
use Rattle.dr_store_sealed.proofs.file.LineFile.open.Goals as goal

pub returns-in-Ok-clause-held : goal.returns-in-Ok-clause-held
returns-in-Ok-clause-held g c start lines has =
    record {
      spans = has.spans;
      endures = endures_synced start.offset _ (bytes_of start.chain lines) _ c.in-Ok.ensures.synced
          (c.fit.ensures.shows start.offset (bytes_of start.chain lines)
          (omega (arith, reaches start c.args.seal lines has.spans)) has.bytes);
    }
