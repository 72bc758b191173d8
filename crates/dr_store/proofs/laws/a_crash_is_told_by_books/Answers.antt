use Rattle.dr_store.proofs.Crashes.{crashes_are_told}
use Rattle.dr_store.proofs.laws.a_crash_is_told_by_books.Goals as goal

pub returns : goal.returns
returns c = crashes_are_told
