-- What a sharing is of before anyone has picked it.
use Rattle.std.specs.Prelude.{[]}
use Rattle.dr_site.specs.Parts.{Part}

-- the part of no plan, which has no name
abbrev pub nobody : Part
nobody = record {
  name = [];
  max_pdu = 0;
  digest = [];
  rules = [];
  accepts = [];
  flows = [];
  lines = [];
  hops = [];
  literals = record {
    modalities = record { literals = []; prefixes = [] };
    stations = record { literals = []; prefixes = [] };
  };
}
