use Rattle.std.proofs.Common.{List, get_or}
use Rattle.std.proofs.lemmas.Option.{slice_get-get_or}
use Rattle.dr_plan_sound.specs.declared.certificate.Line.{Line}
use Rattle.dr_cert.proofs.Marks.{in_lines}
use Rattle.dr_cert.proofs.Following.{stands_there}
use Rattle.dr_cert.proofs.index.rank_of.Goals as goal

pub returns : goal.returns
returns c =
    let lines : List Line = c.args.lines.now in
    stands_there lines c.args.stop.now c.in-Some.place (get_or lines c.in-Some.place c.index-lines-place.result) c.in-Some.ensures
    (slice_get-get_or lines c.in-Some.place c.index-lines-place.result (in_lines lines c.args.stop.now c.in-Some.place c.in-Some.ensures))
