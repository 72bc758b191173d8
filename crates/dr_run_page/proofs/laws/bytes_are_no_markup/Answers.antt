use Rattle.dr_run_page.proofs.Harmless.{byte}
use Rattle.dr_run_page.proofs.laws.bytes_are_no_markup.Goals as goal

pub returns : goal.returns
returns c b small = byte b small
