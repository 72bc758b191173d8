use Rattle.std.proofs.Common.{◌≡◌, ℕ, subst, List, get_or, Contains, Some}
use Rattle.std.specs.Prelude.{slice_get}
use Rattle.std.proofs.lemmas.Bool.Decides.{Decides-eqb}
use Rattle.std.proofs.lemmas.Option.{slice_get-get_or}
use Rattle.dr_plan_sound.specs.declared.certificate.Stop.{Stop}
use Rattle.dr_plan_sound.specs.declared.certificate.Line.{Line}
use Rattle.dr_cert.specs.Indexing.{StandsAt}
use Rattle.dr_cert.proofs.Marks.{in_lines}
use Rattle.dr_cert.proofs.Following.{stands_there}
use Rattle.dr_cert.proofs.Looking.{one_rank_there}
use Rattle.dr_cert.proofs.verify.is_indexed.Goals as goal

pub returns : goal.returns
returns c =
    let index : List Line = c.args.index.now in
    let line : Line = c.args.line.now in
    let P : Stop → Type 0 = λ s. StandsAt index s c.in-Some.place in
    let at : StandsAt index line.stop c.in-Some.place = subst P c.of_cell.ensures c.in-Some.ensures in
    let found : Line = get_or index c.in-Some.place c.index-index-place.result in
    let here : slice_get index c.in-Some.place ≡ Some found = slice_get-get_or index c.in-Some.place c.index-index-place.result (in_lines index line.stop c.in-Some.place at) in
    let there : Contains index (record { stop = line.stop; rank = found.rank }) = stands_there index line.stop c.in-Some.place found at here in
    let decides = Decides-eqb found.rank line.rank in
    let Q : ℕ → Type 0 = λ r. Contains index (record { stop = line.stop; rank = r }) in (
      (λ h. subst Q (decides.0 h) there),
      (λ among. decides.1 (one_rank_there index c.requires line.stop found.rank line.rank there among)),
    )
