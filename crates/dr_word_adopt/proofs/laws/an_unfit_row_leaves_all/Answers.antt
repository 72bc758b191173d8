use Rattle.dr_word_adopt.proofs.Standings.{unfit_leaves_all}
use Rattle.dr_word_adopt.proofs.laws.an_unfit_row_leaves_all.Goals as goal

pub returns : goal.returns
returns g c = unfit_leaves_all (g.O.Ledgers.opens c.args.ledgers.now) (g.O.ShowsFiles.shows c.args.ledgers.now) g.O.Ledger.Ledger.site g.O.Ledger.Ledger.book g.O.Ledger.Ledger.stands
