-- The parts of a site, as contracts see them.
use Rattle.dr_site.specs.declared.site.SiteParts.{SiteParts}
use Rattle.dr_site.specs.Parts.{Part}

abbrev pub shown : SiteParts → Part
shown p = record { name = p.name; max_pdu = p.max_pdu; digest = p.digest; rules = p.rules; accepts = p.accepts; flows = p.flows; lines = p.lines.items; hops = p.hops; literals = p.literals }
