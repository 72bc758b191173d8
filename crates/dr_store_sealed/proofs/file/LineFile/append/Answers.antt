use Rattle.std.proofs.Common.{arith}
use Rattle.dr_store_sealed.specs.Lines.{bytes_of}
use Rattle.dr_store_sealed.specs.Seals.{lines_between}
use Rattle.dr_store_sealed.proofs.FileLemmas.{endures_more}
use Rattle.dr_store_sealed.proofs.SealLemmas.{reaches, spans_more}
use Rattle.dr_store_sealed.proofs.file.LineFile.append.Goals as goal

pub returns-clause-held : goal.returns-clause-held
returns-clause-held g c start before held =
    let s = c.args.self.now.seal in
    let last = c.in_ok-last.last in
    let more = lines_between s last c.args.lines.now in
    let takes = c.in_ok-last.ensures.takes in
    let seen = g.D.Disk.seen c.append_to.new.file in
    let is = g.D.Disk.may_leave c.append_to.new.file in
    record {
      spans = spans_more start s last before more held.spans (record { after = takes.after; one_file = takes.one_file });
      endures = endures_more seen is start s before more held.spans
          (c.append_to.ensures.keeps start.offset (bytes_of start.chain before) (omega (arith, reaches start s before held.spans)) held.endures)
          c.in_ok-last.ensures.put;
    }

pub returns-clause-keeps : goal.returns-clause-keeps
returns-clause-keeps g c start before held =
    c.append_to.ensures.keeps start.offset (bytes_of start.chain before)
    (omega (arith, reaches start c.args.self.now.seal before held.spans)) held.endures

pub returns-in_err-last-clause-keeps : goal.returns-in_err-last-clause-keeps
returns-in_err-last-clause-keeps g c start before held =
    c.append_to.ensures.keeps start.offset (bytes_of start.chain before)
    (omega (arith, reaches start c.args.self.now.seal before held.spans)) held.endures
