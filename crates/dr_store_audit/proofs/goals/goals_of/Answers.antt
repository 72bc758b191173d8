use Rattle.std.proofs.Common.{rules, ◌≡◌, ◌≤◌, ◌-◌, List, drop, filter, length, length-drop, take, subst, sym, arith}
use Rattle.std.proofs.lemmas.List.{take_all}
use Rattle.std.proofs.lemmas.List.Sorted.{IsNonDecreasingBy-drop, IsNonDecreasingBy-take, IsPartitionPoint-from_clause, IsPartitionedBy-leb, IsPartitionedBy-ltb}
use Rattle.dr_store_lists.specs.Lists.{Goal}
use Rattle.dr_store_audit.specs.Goals.{is_at}
use Rattle.dr_store_audit.proofs.Together.{Parts, is_before, is_up_to, together}
use Rattle.dr_store_audit.proofs.goals.goals_of.Goals as goal

pub returns : goal.returns
returns c =
    let goals = c.args.goals.now in
    let n = c.args.n in
    let first = c.partition_point-first.result in
    let end = c.partition_point-end.result in
    let rest = take (length goals - first) (drop first goals) in
    let whole : rest ≡ drop first goals = take_all (length goals - first) (drop first goals) (omega (arith, length-drop first goals)) in
    let in_order = IsNonDecreasingBy-take (λ (g : Goal). g.0) (length goals - first) (drop first goals) (IsNonDecreasingBy-drop (λ (g : Goal). g.0) first goals c.requires) in
    let before : Parts (is_before n) goals first = IsPartitionPoint-from_clause (is_before n) goals first c.partition_point-first.ensures.partitioned (IsPartitionedBy-ltb (λ (g : Goal). g.0) goals n c.requires) (λ a r f called. (search rules, search rules)) in
    let up_to : Parts (is_up_to n) rest end = IsPartitionPoint-from_clause (is_up_to n) rest end c.partition_point-end.ensures.partitioned (IsPartitionedBy-leb (λ (g : Goal). g.0) rest n in_order) (λ a r f called. (search rules, search rules)) in
    let low : end ≤ length rest = c.partition_point-end.ensures.bound in
    let Are : List Goal → Type 0 = λ xs. take end xs ≡ filter (is_at n) goals in
    subst Are (sym whole) (together goals n first end before c.partition_point-first.ensures.bound (subst (λ xs. Parts (is_up_to n) xs end) whole up_to) (subst (λ xs. end ≤ length xs) whole low))
