-- Whatever comes over a link to another maker's product, as sessions hear it: bytes, its end, a
-- late mark, silence, a fault, or that there is no room.
use Rattle.std.specs.Prelude.{◌≡◌, ℕ, List, Option, Some, Ok}
use Rattle.dr_base.specs.Texts.{Text}
use Rattle.dr_plan_model.specs.Networks.{Network}
use Rattle.dr_plan_sound.specs.declared.certificate.Certificate.{Certificate}
use Rattle.dr_site.specs.Sites.{IsCertified}
use Rattle.dr_pdu.specs.Feeding.{Feeding}
use Rattle.dr_session.specs.declared.ends.Core.{Core}
use Rattle.dr_session.specs.declared.ends.Heard.{Heard}
use Rattle.dr_session.specs.declared.ends.Heard.TheVariants as heard
use Rattle.dr_session.specs.declared.ends.LinkAction.{LinkAction}
use Rattle.dr_session.specs.declared.ends.Moment.{Moment}
use Rattle.dr_session.specs.Ends.{Terminal as End, HearsOf}
use Rattle.dr_world_model.specs.Worlds.{World}
use Rattle.dr_world_model.specs.Among.{Ours, Act}
use Rattle.dr_world_tie.specs.Desks.{Desk, LedgerStep}
use Rattle.dr_world_tie.specs.Channels.{LiveTerminal}
use Rattle.dr_world_tie.specs.Foreign.{Came, ComeAll, NoneCallsAsOurs, StandsIn, WritesControls}
use Rattle.dr_world_tie.specs.ForeignCalls.{CallsIn, LeadsTo, acts_of_all}
use Rattle.dr_world_tie.specs.ForeignCalls as calls

-- an end with its memory, as sessions have it
abbrev pub end_of : LiveTerminal → End
end_of k = record { ear = k.ear; core = Some k.core }

-- no request that comes names one of ours as its caller
abbrev pub NoneComesAsOurs : Ours → Feeding → Heard → Feeding → Type 0
NoneComesAsOurs ours ear (heard.Bytes piece) new = NoneCallsAsOurs ours ear piece new
NoneComesAsOurs ours ear heard.End new = Unit {0}
NoneComesAsOurs ours ear heard.Fault new = Unit {0}
NoneComesAsOurs ours ear heard.Late new = Unit {0}
NoneComesAsOurs ours ear heard.Idle new = Unit {0}
NoneComesAsOurs ours ear heard.Crowded new = Unit {0}
NoneComesAsOurs ours ear heard.Memory new = Unit {0}

-- Whatever comes to an acceptor, where memory doesn't end in it: the end stands in a world that
-- such things lead to, with all that is written.
abbrev pub WhatAcceptorsHear : Type 0
WhatAcceptorsHear =
    (ours : Ours) (plan : Network) (certificate : Certificate)
    → IsCertified plan certificate
    → (name : Text) (w : World) (number : Option ℕ) (k : LiveTerminal) (s : Desk)
    → StandsIn ours plan certificate name w number k s
    → (moment : Moment) (came : Heard) (acts : List LinkAction) (new : End) (t : Desk)
    → NoneComesAsOurs ours k.ear came new.ear
    → HearsOf (LedgerStep plan name) came moment (end_of k) s (Ok acts) new t
    → (core : Core) × (new.core ≡ Some core)
    × ((cames : List Came) × (does : List Act) × (v : World) × (next : Option ℕ)
    × ComeAll ours plan name w number cames does acts v next
    × StandsIn ours plan certificate name v next (record { core = core; ear = new.ear }) t)

-- the same of a requestor
abbrev pub WhatRequestorsHear : Type 0
WhatRequestorsHear =
    (ours : Ours) (plan : Network) (certificate : Certificate)
    → IsCertified plan certificate
    → (name : Text) (w : World) (number : ℕ) (k : LiveTerminal) (s : Desk)
    → CallsIn ours plan certificate name w number k s
    → (moment : Moment) → moment.now ≡ w.time
    → (came : Heard) (acts : List LinkAction) (new : End) (t : Desk)
    → HearsOf (LedgerStep plan name) came moment (end_of k) s (Ok acts) new t
    → (core : Core) × (new.core ≡ Some core)
    × ((all : List calls.Heard) × (v : World)
    × LeadsTo ours plan name w number (acts_of_all number all) v
    × WritesControls acts
    × CallsIn ours plan certificate name v number (record { core = core; ear = new.ear }) t)
