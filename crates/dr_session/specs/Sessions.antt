-- What a session works with, from one call to the next.
use Rattle.std.specs.Prelude.{◌≡◌}
use Rattle.dr_session.specs.declared.sessions.Session.{Session}
use Rattle.dr_session.specs.Ends.{Terminal}
use Rattle.dr_session.specs.Links.{Place, place}

-- where a session stands, with its end
abbrev pub place_of : {L S C : Type 0} → Session L S C → Terminal → Place L S
place_of session terminal = place session.link.now session.port.now terminal

-- It works with the same link and the same desk, at the same clock, beside as many others. So what
-- stands behind its references is what their lender finds.
abbrev pub KeepsParts : {L S C : Type 0} → Session L S C → Session L S C → Type 0
KeepsParts old new =
    (new.link.ghost_name ≡ old.link.ghost_name)
    × (new.port.ghost_name ≡ old.port.ghost_name)
    × (new.clock ≡ old.clock)
    × (new.others ≡ old.others)
