-- A turn at the door of a node: which link has it, and what session runs on such a link.
use Rattle.std.specs.Prelude.{◌≡◌, ℕ, Bool, List, Option, Result, false, None}
use Rattle.dr_site.specs.Parts.{Part}
use Rattle.dr_session.specs.Desks.{DeskCall, DeskAnswer}
use Rattle.dr_session.specs.Ends.{accepting, begins}
use Rattle.dr_session.specs.Links.{EndsAs, place}
use Rattle.dr_session.specs.declared.ends.Ended.{Ended}
use Rattle.dr_session.specs.declared.ends.Heard.{Heard}
use Rattle.dr_session.specs.declared.link.Link.{Ghosts}
use Rattle.dr_session.specs.declared.sessions.SessionFault.{SessionFault}
use Rattle.dr_session.specs.declared.wishes.Kind.TheVariants.{Receive}
use Rattle.dr_desk_workers.specs.declared.gated.GatedLink.{GatedLink}
use Rattle.dr_desk_workers.specs.Hearing.{IsAhead}

-- A connection's link has its turn, and nothing was heard of it yet: its own association isn't
-- among those that the door counts, and ahead of it is what its own connection brought.
abbrev pub HasTurn : {R K G D : Type 0} {ghosts : Ghosts K} → (K → Heard → K → Type 0)
    → K → GatedLink R K G D ghosts → Type 0
HasTurn hears k link =
    (link.turn ≡ None → ⊥)
    × (link.asked ≡ false)
    × (link.guest.inside ≡ false)
    × IsAhead hears k link.ahead link.link

-- A session of the site's node ran on such a link of the connection, and was told of as many others
-- as this link had counted. It began with what its worker's pass had.
abbrev pub RunsInTurn : {R K G D S P : Type 0} {ghosts : Ghosts K} → (K → Heard → K → Type 0)
    → (GatedLink R K G D ghosts → Heard → GatedLink R K G D ghosts → Type 0)
    → (GatedLink R K G D ghosts → List ℕ → Bool → GatedLink R K G D ghosts → Type 0)
    → (GatedLink R K G D ghosts → GatedLink R K G D ghosts → Type 0)
    → (S → DeskCall → DeskAnswer → S → Type 0)
    → (ℕ → Type 0) → (S → P) → Part → K → P → Result Ended SessionFault → Type 0
RunsInTurn {R} {K} {G} {D} {S} {P} {ghosts} heard hears sends closes step tells pass_of site k pass
    result =
    (link left : GatedLink R K G D ghosts) × (port last : S)
    × HasTurn heard k link
    × (pass_of port ≡ pass)
    × EndsAs hears sends closes step tells link.others Receive result
    (place link port (begins site.max_pdu (accepting site link.taken))) left last
