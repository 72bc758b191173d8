-- Hops as a set of pairs with their ids.
use Rattle.std.specs.Prelude.{◌↔◌, List, Contains}
use Rattle.std.specs.declared.cmp.Ordering.{Ordering}
use Rattle.std.specs.BTreeSet.{BTreeSet}
use Rattle.dr_plan_sound.specs.declared.certificate.Hop.{Hop}
use Rattle.dr_cert.specs.declared.hop_list.NumberedPassage.{NumberedPassage}
use Rattle.dr_cert.specs.contracts.hop_list.NumberedPassageOrd.TheImpl as order

-- a hop of a certificate as its pair (sender, receiver, class, transfer syntax) with its id
abbrev pub numbered : Hop → NumberedPassage
numbered hop = record {
  passage =
      record { «from» = hop.from; «to» = hop.to; class = hop.class; syntax = hop.syntax };
  id = hop.id;
}

-- the order of pairs with their ids: by sender, receiver, class, transfer syntax, and then the id
abbrev pub numbered_cmp : NumberedPassage → NumberedPassage → Ordering
numbered_cmp = order.cmp-value.it

-- the set has just the pairs of these hops
abbrev pub AreTheNumbered : List Hop → BTreeSet NumberedPassage → Type 0
AreTheNumbered hops all = (hop : Hop) → Contains all.keys (numbered hop) ↔ Contains hops hop
