-- What a uid is about, with its data set.
use Rattle.std.specs.Prelude.{◌≡◌, Option, Some}
use Rattle.dr_base.specs.Texts.{Text}
use Rattle.dr_ledger.specs.declared.content.Job.{Job}
use Rattle.dr_ledger_memory.specs.declared.held.Held.{Held as Entry}

-- there is an entry, with this key and this data set
pub record IsJobOf (o : Option Entry) (uid : Text) (job : Job) : Type 0 where
  pub entry : Entry
  pub there : o ≡ Some entry
  pub uid_is : job.uid ≡ uid
  pub key : job.key ≡ entry.instance.key
  pub body : entry.body ≡ Some job.body
