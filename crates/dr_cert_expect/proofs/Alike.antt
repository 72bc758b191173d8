-- Keys of one cell come to the same nodes, and the same nodes keep them.
use Rattle.dr_base.specs.Texts.{Text}
use Rattle.dr_route.specs.Routes.{local}
use Rattle.dr_route.specs.declared.key.Key.{Key}
use Rattle.dr_route.specs.declared.cell.OwnedCell.{OwnedCell}
use Rattle.dr_plan_model.specs.Networks.{Network}
use Rattle.dr_plan_model.specs.Plans.{LiesIn}
use Rattle.dr_plan_model.specs.Walks.{IsDestination, last_place}
use Rattle.dr_plan_model.proofs.WalksAlike.{keep_alike, walk_alike}
use Rattle.dr_cert_trace.specs.Reaches.{ComesToNode}
use Rattle.dr_plan_expect.specs.declared.words.Expectation.{Expectation}
use Rattle.dr_cert_expect.specs.Expected.{IsMet}

module _ (plan : Network) (cell : OwnedCell) (k l : Key) (a : LiesIn plan cell k) (b : LiesIn plan cell l) (site : Text) where
  pub kept_alike : (name : Text) → IsDestination plan local site k name → IsDestination plan local site l name
  kept_alike name d = (d.0, walk_alike plan cell k l a b local site d.0 d.1, d.2, keep_alike plan cell k l a b name (last_place local site d.0).0 d.3)

  pub comes_alike : (name : Text) → ComesToNode plan site k name → ComesToNode plan site l name
  comes_alike name w = (w.0, walk_alike plan cell k l a b local site w.0 w.1, w.2)

-- so a row is met by all of them or by none
pub met_alike : (plan : Network) (cell : OwnedCell) (k l : Key) → LiesIn plan cell k → LiesIn plan cell l → (site : Text) (row : Expectation) → IsMet plan row site k → IsMet plan row site l
met_alike plan cell k l a b site row met = record {
  keep = λ name among. kept_alike plan cell k l a b site name (met.keep name among);
  never = λ name among comes. met.never name among (comes_alike plan cell l k b a site name comes);
}
