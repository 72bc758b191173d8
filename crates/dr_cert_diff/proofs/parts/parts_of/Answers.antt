use Rattle.dr_plan_model.specs.Plans.{literals_of}
use Rattle.dr_cert_diff.proofs.Gathering.{parts_alike}
use Rattle.dr_cert_diff.proofs.parts.parts_of.Goals as goal

pub returns : goal.returns
returns c =
    let one = c.in_ok-one.one in
    let other = c.in_ok-other.other in
    let old = literals_of c.args.old.now in
    let new = literals_of c.args.new.now in
    let of_one = c.in_ok-one.ensures.same in
    let of_other = c.in_ok-other.ensures.same in
    record {
      modalities = parts_alike one.modalities other.modalities old.modalities new.modalities of_one.modalities of_other.modalities c.in_ok-modalities.modalities.items c.in_ok-modalities.ensures;
      stations = parts_alike one.stations other.stations old.stations new.stations of_one.stations of_other.stations c.in_ok-stations.stations.items c.in_ok-stations.ensures;
    }
