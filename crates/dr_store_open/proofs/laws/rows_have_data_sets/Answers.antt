use Rattle.dr_store_open.proofs.laws.rows_have_data_sets.Goals as goal

pub returns : goal.returns
returns g c = λ db shelf own none uid body there. own.rows none uid body there
