use Rattle.dr_word_route.proofs.asking.Asker.respond.Goals as goal

pub returns-in_ok-status-in-RouteOfKey : goal.returns-in_ok-status-in-RouteOfKey
returns-in_ok-status-in-RouteOfKey g c = rw c.in-RouteOfKey.is c.in_ok-status-in-RouteOfKey.ensures
