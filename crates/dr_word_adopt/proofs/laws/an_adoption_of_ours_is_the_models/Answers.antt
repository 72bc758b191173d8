use Rattle.dr_word_adopt.proofs.Adopted.{ours_are_adopted}
use Rattle.dr_word_adopt.proofs.laws.an_adoption_of_ours_is_the_models.Goals as goal

pub returns : goal.returns
returns g c = λ folder old next others. ours_are_adopted (g.O.Ledgers.opens c.args.ledgers.now) (g.O.ShowsFiles.shows c.args.ledgers.now) g.O.Ledger.Ledger.site g.O.Ledger.Ledger.book g.O.Ledger.Ledger.stands folder old next others
