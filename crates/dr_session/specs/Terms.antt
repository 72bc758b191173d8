-- What an end may rely on, so that what it writes is read again.
use Rattle.std.specs.Prelude.{Option, Some, None, Ok}
use Rattle.dr_site.specs.Parts.{Part}
use Rattle.dr_site.specs.Sites.{IsSite}
use Rattle.dr_nego.specs.Agreeing.{IsTooSmall}
use Rattle.dr_nego.specs.declared.agreed.Agreed.{Agreed}
use Rattle.dr_session.specs.declared.ends.Core.{Core}
use Rattle.dr_session.specs.declared.ends.Told.{Told}
use Rattle.dr_session.specs.declared.ends.Told.TheVariants.{Plain, Agreement}
use Rattle.dr_session.specs.Fits.{InputFits}

-- a fragment fits the other side's limit, where one is agreed on
abbrev pub LimitServes : Option Agreed → Type 0
LimitServes None = Unit {0}
LimitServes (Some agreed) = IsTooSmall agreed.limit → ⊥

-- its site, where it has one, is that of a node of a sealed plan
abbrev pub SiteServes : Option Part → Type 0
SiteServes None = Unit {0}
SiteServes (Some site) = IsSite site

-- so of a site and of what was agreed on, which are all that an end writes by
abbrev pub Serves : Option Part → Option Agreed → Type 0
Serves site agreed = SiteServes site × LimitServes agreed

-- so of a whole end; one without memory writes nothing any more
abbrev pub CoreServes : Option Core → Type 0
CoreServes None = Unit {0}
CoreServes (Some c) = Serves c.site c.agreed

-- a request for an association can be written again, and what is agreed on has such a limit
abbrev pub ToldServes : Told → Type 0
ToldServes (Plain i) = InputFits i
ToldServes (Agreement (Ok agreed)) = IsTooSmall agreed.limit → ⊥
ToldServes told = Unit {0}
