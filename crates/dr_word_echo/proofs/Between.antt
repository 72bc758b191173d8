-- From an echo over a link to an address to one between two nodes.
use Rattle.std.proofs.Common.{◌≡◌, ℕ, Bool, List, Some, Ok, Err, Result}
use Rattle.std.specs.declared.io.Error.{Error}
use Rattle.dr_base.specs.Texts.{Text}
use Rattle.dr_plan_model.specs.Listening.{address_of}
use Rattle.dr_plan_model.specs.Networks.{Network}
use Rattle.dr_plan_model.specs.Plans.{IsTheNode}
use Rattle.dr_plan_model.specs.declared.plan.Node.{Node}
use Rattle.dr_session.specs.declared.ends.Heard.{Heard}
use Rattle.dr_word_echo.specs.Outcomes.{IsAskedAt, IsOutcomeOf}
use Rattle.dr_word_echo.specs.declared.outcome.EchoOutcome.{EchoOutcome}
use Rattle.dr_word_echo.specs.declared.outcome.EchoOutcome.TheVariants.{Answered, NoNode, Nowhere, Unreached, Failed, Memory}

pub between : {L : Type 0} (connects : Text → Result L Error → Type 0) (hears : L → Heard → L → Type 0) (sends : L → List ℕ → Bool → L → Type 0) (closes : L → L → Type 0) (tells : ℕ → Type 0)
    (plan : Network) (caller called : Text) (x y : Node) → IsTheNode plan caller x → IsTheNode plan called y → (address : Text) → address_of y.listens ≡ Some address → (outcome : EchoOutcome)
    → IsAskedAt connects hears sends closes tells caller called address outcome → IsOutcomeOf connects hears sends closes tells plan caller called outcome
between connects hears sends closes tells plan caller called x y is_x is_y address at (Answered echoed) asked = (x, y, is_x, is_y, (address, at, asked))
between connects hears sends closes tells plan caller called x y is_x is_y address at (Failed why) asked = (x, y, is_x, is_y, (address, at, asked))
between connects hears sends closes tells plan caller called x y is_x is_y address at (Unreached error) asked = (x, y, is_x, is_y, (address, at, asked))
between connects hears sends closes tells plan caller called x y is_x is_y address at Memory asked = tt
between connects hears sends closes tells plan caller called x y is_x is_y address at NoNode asked = absurd asked
between connects hears sends closes tells plan caller called x y is_x is_y address at Nowhere asked = absurd asked
