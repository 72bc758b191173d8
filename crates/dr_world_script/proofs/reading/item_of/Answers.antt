use Rattle.dr_ledger.specs.declared.content.ItemFault.TheVariants.{Data, NoUid}
use Rattle.dr_world_script.proofs.Items.{no_item}
use Rattle.dr_world_script.proofs.reading.item_of.Goals as goal

pub returns-in-Data : goal.returns-in-Data
returns-in-Data c = no_item c.args.syntax c.args.body Data (λ e. cc) (rw c.in-Data.is at c.in-Err.ensures)

pub returns-in-NoUid : goal.returns-in-NoUid
returns-in-NoUid c = no_item c.args.syntax c.args.body NoUid (λ e. cc) (rw c.in-NoUid.is at c.in-Err.ensures)
