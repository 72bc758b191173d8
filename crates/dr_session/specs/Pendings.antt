-- What an end has sent and not yet heard of.
use Rattle.std.specs.Prelude.{Option, Some, None}
use Rattle.dr_base.specs.Texts.{Text}
use Rattle.dr_nego.specs.declared.agreed.Agreed.{Agreed}
use Rattle.dr_session.specs.declared.ends.Core.{Core}
use Rattle.dr_session.specs.declared.ends.Pending.{Pending}

-- the uid of the instance whose store awaits its response
abbrev pub pending_of : Option Pending → Option Text
pending_of None = None
pending_of (Some p) = Some p.uid

-- of an end; one without memory has nothing
abbrev pub pending_in : Option Core → Option Text
pending_in None = None
pending_in (Some c) = pending_of c.pending

-- the request whose response an end awaits
abbrev pub asked_in : Option Core → Option Pending
asked_in None = None
asked_in (Some c) = c.pending

-- what an end has agreed on
abbrev pub agreed_in : Option Core → Option Agreed
agreed_in None = None
agreed_in (Some c) = c.agreed
