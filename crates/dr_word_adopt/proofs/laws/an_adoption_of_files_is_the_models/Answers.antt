use Rattle.dr_word_adopt.proofs.Adopted.{made_is_adopted}
use Rattle.dr_word_adopt.proofs.laws.an_adoption_of_files_is_the_models.Goals as goal

pub returns : goal.returns
returns g c = made_is_adopted (g.O.Ledgers.opens c.args.ledgers.now) (g.O.ShowsFiles.shows c.args.ledgers.now) g.O.Ledger.Ledger.site g.O.Ledger.Ledger.book g.O.Ledger.Ledger.stands
