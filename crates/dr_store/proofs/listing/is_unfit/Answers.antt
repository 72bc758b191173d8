use Rattle.std.proofs.Common.{◌≡◌, ◌∙◌, sym}
use Rattle.dr_store.proofs.listing.is_unfit.Goals as goal

pub returns-in-None : goal.returns-in-None
returns-in-None c = (sym c.is_queued.ensures ∙ c.if-not-is_queued.false, (c.in-Some.key.now, (c.in-Some.ensures, c.in-None.ensures)))
