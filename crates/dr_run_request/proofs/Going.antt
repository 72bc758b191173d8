-- The one route whose path goes on.
use Rattle.std.specs.Prelude.{◌≡◌, true}
use Rattle.std.proofs.Common.{refl}
use Rattle.std.proofs.lemmas.Bool.{false≢true}
use Rattle.dr_run_request.specs.Asking.{goes_on}
use Rattle.dr_run_request.specs.declared.route.Route.{Route}
use Rattle.dr_run_request.specs.declared.route.Route.TheVariants as route

pub only_instance : (asked : Route) → goes_on asked ≡ true → asked ≡ route.Instance
only_instance route.Page goes = absurd (false≢true goes)
only_instance route.Status goes = absurd (false≢true goes)
only_instance route.Rows goes = absurd (false≢true goes)
only_instance route.Instance goes = refl
only_instance route.Journal goes = absurd (false≢true goes)
only_instance route.Metrics goes = absurd (false≢true goes)
only_instance route.Health goes = absurd (false≢true goes)
only_instance route.Requeue goes = absurd (false≢true goes)
only_instance route.GiveUp goes = absurd (false≢true goes)
only_instance route.Forget goes = absurd (false≢true goes)
only_instance route.Visit goes = absurd (false≢true goes)
only_instance route.Backup goes = absurd (false≢true goes)
only_instance route.Stop goes = absurd (false≢true goes)
