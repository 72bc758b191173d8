use Rattle.std.proofs.Common.{refl}
use Rattle.dr_session.proofs.figures.table.requests.Goals as goal

pub returns : goal.returns
returns c = λ core now rq. record { accepted = refl; caller = refl; full = refl; misdirected = refl; too_small = refl; again = refl; late = refl }
