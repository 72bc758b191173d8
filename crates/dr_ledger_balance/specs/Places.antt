-- What stands at places.
use Rattle.dr_route.specs.declared.key.Key.{Key}
use Rattle.dr_ledger.specs.declared.item.Instance.{Instance}
use Rattle.dr_ledger_balance.specs.declared.item.ItemFields.{ItemFields}
use Rattle.dr_ledger_balance.specs.declared.item.KeyFields.{KeyFields}

abbrev pub key_of : KeyFields → Key
key_of p = record {
  class = p.class.now;
  syntax = p.syntax;
  modality = p.modality.now;
  station = p.station.now;
}

abbrev pub item_of : ItemFields → Instance
item_of p = record { uid = p.uid.now; key = key_of p.key; size = p.size; digest = p.digest }
