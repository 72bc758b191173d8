-- What may be answered to a question about a plan with its certificate.
use Rattle.std.specs.Prelude.{◌≡◌, [], ◌∷◌, ◌++◌, codes, Result, Ok, Err}
use Rattle.dr_base.specs.Texts.{Text}
use Rattle.dr_run_open.specs.declared.status.Status.{Status}
use Rattle.dr_run_open.specs.declared.status.Status.TheVariants.{Success, Refused as No}
use Rattle.dr_run_open.specs.declared.status.Status.TheVariants.{Memory as OutOfMemory}
use Rattle.dr_plan_model.specs.Networks.{Network}
use Rattle.dr_plan_model.specs.Plans.{IsTheNode, NamesNoNode}
use Rattle.dr_plan_model.specs.Walks.{IsEntry}
use Rattle.dr_plan_model.specs.declared.plan.Node.{Node}
use Rattle.dr_route.specs.declared.key.Key.{Key}
use Rattle.dr_cert_trace.specs.Routes.{IsJourneyText}
use Rattle.dr_word_route.specs.declared.reply.Unanswered.{Unanswered}
use Rattle.dr_word_route.specs.declared.reply.Unanswered.TheVariants.{NoNode, File, Item, Memory}
use Rattle.dr_word_route.specs.declared.reply.Response.{Response}
use Rattle.dr_word_route.specs.declared.reply.Response.TheVariants.{Printed, NoLine, Refused}

-- what may be answered for a key that enters at the site: the text of its journey, or that no flow
-- there fits it; want of memory may be the answer to any
abbrev pub IsRouted : Network → Text → Key → Response → Type 0
IsRouted plan site key (Printed text) = IsJourneyText plan site key text
IsRouted plan site key NoLine = IsEntry plan site key → ⊥
IsRouted plan site key (Refused Memory) = Unit {0}
IsRouted plan site key (Refused NoNode) = ⊥
IsRouted plan site key (Refused (File fault)) = ⊥
IsRouted plan site key (Refused (Item fault)) = ⊥

-- what may be answered for what was read as a key
abbrev pub IsRoutedFor : Network → Text → Result Key Unanswered → Response → Type 0
IsRoutedFor plan site (Ok key) reply = IsRouted plan site key reply
IsRoutedFor plan site (Err refusal) reply = reply ≡ Refused refusal

-- why it isn't answered where an instance goes that enters at the node of the name: there is no
-- such node; the instance, of which `Reads` says what is read, has no key; or there was no memory
abbrev pub IsRefusalAt : Network → Text → (Result Key Unanswered → Type 0) → Unanswered → Type 0
IsRefusalAt plan at Reads NoNode = NamesNoNode plan at
IsRefusalAt plan at Reads (File fault) = Reads (Err (File fault))
IsRefusalAt plan at Reads (Item fault) = Reads (Err (Item fault))
IsRefusalAt plan at Reads Memory = Unit {0}

-- what may be answered where an instance goes that enters at the node of the name; `Reads` says
-- what is read of the instance
abbrev pub IsRouteReply : Network → Text → (Result Key Unanswered → Type 0) → Response → Type 0
IsRouteReply plan at Reads (Printed text) =
    (key : Key) × Reads (Ok key) × IsJourneyText plan at key text
IsRouteReply plan at Reads NoLine =
    (node : Node) × IsTheNode plan at node × (key : Key) × Reads (Ok key)
    × (IsEntry plan at key → ⊥)
IsRouteReply plan at Reads (Refused refusal) = IsRefusalAt plan at Reads refusal

-- what may be answered before it is known which instance enters there
abbrev pub IsSiteReply : Network → Text → Response → Type 0
IsSiteReply plan at (Refused NoNode) = NamesNoNode plan at
IsSiteReply plan at (Refused Memory) = Unit {0}
IsSiteReply plan at (Refused (File fault)) = ⊥
IsSiteReply plan at (Refused (Item fault)) = ⊥
IsSiteReply plan at (Printed text) = ⊥
IsSiteReply plan at NoLine = ⊥

-- what may be answered to a question of which `Is` says the text
abbrev pub IsTextReply : (Text → Type 0) → Response → Type 0
IsTextReply Is (Printed text) = Is text
IsTextReply Is (Refused Memory) = Unit {0}
IsTextReply Is (Refused NoNode) = ⊥
IsTextReply Is (Refused (File fault)) = ⊥
IsTextReply Is (Refused (Item fault)) = ⊥
IsTextReply Is NoLine = ⊥

-- what is printed for a reply: its text, or that no line of the certificate is for it; else nothing
abbrev pub printed_for : Response → Text
printed_for (Printed text) = text
printed_for NoLine = codes "no" ++ (9 ∷ codes "G1 NoLine") ++ (10 ∷ [])
printed_for (Refused refusal) = []

-- the status with which the program ends for a refusal
abbrev pub refusal_status : Unanswered → Status
refusal_status Memory = OutOfMemory
refusal_status NoNode = No
refusal_status (File fault) = No
refusal_status (Item fault) = No

-- the status with which the program ends for a reply: success where it is answered, else refused,
-- or out of memory
abbrev pub status_for : Response → Status
status_for (Printed text) = Success
status_for NoLine = No
status_for (Refused refusal) = refusal_status refusal
