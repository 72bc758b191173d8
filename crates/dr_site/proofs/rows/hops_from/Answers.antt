use Rattle.std.proofs.Common.{sym, subst, List, rules}
use Rattle.std.specs.Prelude.{IsPermutation}
use Rattle.std.specs.List.Sorted.{IsNonDecreasingBy}
use Rattle.std.proofs.lemmas.List.Sorted.{IsNonDecreasingBy-from_sort_by_key}
use Rattle.dr_plan_sound.specs.declared.certificate.Hop.{Hop}
use Rattle.dr_site.specs.Parts.{AreHopsFrom}
use Rattle.dr_site.proofs.rows.hops_from.Goals as goal

pub returns : goal.returns
returns c =
    let P : List Hop → Type 0 = λ hs. AreHopsFrom c.args.node.now c.args.hops.now hs in
    let Q : List Hop → Type 0 = λ hs. IsPermutation hs c.sort_by_key.new.self.items in
    let by_id : IsNonDecreasingBy (λ (h : Hop). h.id) c.sort_by_key.new.self.items = IsNonDecreasingBy-from_sort_by_key (λ (h : Hop). h.id) _ c.in_ok-sort_by_key.ensures.sorted (λ a r q k. search rules) in
    subst P (sym c.from_vec.ensures) (record { same = subst Q c.in_ok-own.ensures c.sort_by_key.ensures.permutation; by_id = by_id })
