use Rattle.dr_store_open.proofs.Opens.{their_file}
use Rattle.dr_store_open.proofs.laws.marked_tables_have_their_file.Goals as goal

pub returns : goal.returns
returns g c part other db mark said shelf owned is placed = their_file part other db mark said shelf owned is placed
