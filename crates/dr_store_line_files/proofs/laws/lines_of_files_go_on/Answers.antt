use Rattle.dr_store_line_files.proofs.Filing.{file_is_one, files_go_on}
use Rattle.dr_store_line_files.proofs.laws.lines_of_files_go_on.Goals as goal

pub returns-clause-on : goal.returns-clause-on
returns-clause-on c = files_go_on

pub returns-clause-one : goal.returns-clause-one
returns-clause-one c = file_is_one
