use Rattle.std.proofs.lemmas.Map.Views.{btree_set_contains_iff}
use Rattle.std.proofs.lemmas.Map.Lookups.{exact_bytes}
use Rattle.std.proofs.lemmas.Cmp.{nat_list_cmp_total}
use Rattle.dr_plan_core.proofs.names.AmongNameTest.test.Goals as goal

pub returns : goal.returns
returns c =
    let members = btree_set_contains_iff nat_list_cmp_total exact_bytes c.args.self.now.0.now c.args.name.now in
    rw c.contains.ensures members
