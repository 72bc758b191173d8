use Rattle.std.proofs.lemmas.Bool.{false≢true}
use Rattle.dr_run_serve.proofs.Oldest.{first_longest, none_longest}
use Rattle.dr_run_serve.proofs.ages.WaitingRows.longest.Goals as goal

pub returns-in_ok-uid-in-Some : goal.returns-in_ok-uid-in-Some
returns-in_ok-uid-in-Some c = first_longest c.args.self.now.ages.keys c.in-Some.age.now c.in_ok-uid-in-Some.uid c.in-Some.ensures.first c.in_ok-uid-in-Some.ensures

pub returns-in-None : goal.returns-in-None
returns-in-None c = none_longest c.args.self.now.ages.keys (λ some. false≢true (c.in-None.ensures.variant.1 some))
