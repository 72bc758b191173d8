use Rattle.dr_store_sealed.proofs.FileLemmas.{endures_fewer}
use Rattle.dr_store_sealed.proofs.file.LineFile.read_from.Goals as goal

pub returns-clause-keeps : goal.returns-clause-keeps
returns-clause-keeps g c start before held =
    record {
      spans = held.spans;
      endures = endures_fewer start.offset _ _ _ _ _ c.read_lines.ensures.shows
          c.read_lines.ensures.leaves held.endures;
    }
