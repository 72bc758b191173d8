use Rattle.dr_store_line_files.proofs.Filing.{files_have_one}
use Rattle.dr_store_line_files.proofs.laws.files_have_one_list.Goals as goal

pub returns : goal.returns
returns c = files_have_one
