use Rattle.dr_world_model.proofs.Fits.{armed_nodes_forbid, first_unfit_is_one, fit_books_may_turn, ledgers_find_the_first, open_links_forbid, unfit_rows_forbid}
use Rattle.dr_world_model.proofs.laws.unfit_rows_forbid_adoptions.Goals as goal

pub returns-clause-fit : goal.returns-clause-fit
returns-clause-fit c = fit_books_may_turn

pub returns-clause-unfit : goal.returns-clause-unfit
returns-clause-unfit c = unfit_rows_forbid

pub returns-clause-links : goal.returns-clause-links
returns-clause-links c = open_links_forbid

pub returns-clause-armed : goal.returns-clause-armed
returns-clause-armed c = armed_nodes_forbid

pub returns-clause-one : goal.returns-clause-one
returns-clause-one c = first_unfit_is_one

pub returns-clause-first : goal.returns-clause-first
returns-clause-first c = ledgers_find_the_first
