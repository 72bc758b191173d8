use Rattle.std.proofs.Common.{◌≡◌, ◌<◌, ◌≤◌, List, length, Contains, get_or, arith}
use Rattle.std.specs.Prelude.{All, map}
use Rattle.std.proofs.lemmas.List.{length-map}
use Rattle.dr_plan_model.specs.Networks.{Network}
use Rattle.dr_plan_sound.specs.declared.certificate.Stop.{Stop}
use Rattle.dr_plan_sound.specs.declared.certificate.Line.{Line}
use Rattle.dr_plan_sound.specs.declared.certificate.Certificate.{Certificate}
use Rattle.dr_plan_sound.specs.Soundness.{IsSound}
use Rattle.dr_plan_sound.specs.Certificates.{IsCertificateOf}
use Rattle.dr_plan_sound.proofs.Ranks.{sound_has_rank}
use Rattle.dr_plan_sound.proofs.Pigeons.{no_more_than}
use Rattle.dr_cert_hops.proofs.Rows.{map_of}
use Rattle.dr_check.specs.Shown.{IsTooLarge}
use Rattle.dr_check.proofs.laws.too_large_has_many_lines.Goals as goal

many : (plan : Network) → IsTooLarge plan → IsSound plan → (certificate : Certificate) → IsCertificateOf plan certificate → 65536 < length certificate.lines
many plan large sound certificate own =
    let stop_of : Line → Stop = λ line. line.stop in
    let all : List Stop = map stop_of certificate.lines in
    let each : All (Contains all) large.stops = λ k d below.
    let stop : Stop = get_or large.stops k d in
    let come = large.each k d below in
    let rank = sound_has_rank plan sound come.0 stop.caller stop.node come.2 in
    let line : Line = record { stop = stop; rank = rank.0 } in
    map_of stop_of certificate.lines line ((own.lines line).1 (come.0, come.1, come.2, rank.1)) in
    let no_more : length large.stops ≤ length all = no_more_than all large.stops large.apart each in
    let same : length all ≡ length certificate.lines = length-map certificate.lines stop_of in
    let number : length large.stops ≡ 65537 = large.many in
    omega (arith, no_more, same, number)

pub returns : goal.returns
returns c = many
