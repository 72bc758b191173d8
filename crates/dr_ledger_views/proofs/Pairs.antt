-- The order of pairs of texts.
use Rattle.std.specs.Ordering.{nat_cmp}
use Rattle.std.specs.Cmp.{IsTotalOrder}
use Rattle.std.specs.Cmp.Lexicographic.{slice_cmp}
use Rattle.std.specs.FinMap.{IsAntisymmetric}
use Rattle.std.proofs.lemmas.Cmp.{nat_list_cmp_total, on_total, then_total}
use Rattle.std.proofs.lemmas.Map.Lookups.{exact_bytes, exact_pairs}
use Rattle.dr_ledger.specs.Pairs.{Pair, pair_cmp}

pub pairs_total : IsTotalOrder pair_cmp
pairs_total = then_total (on_total (λ (e : Pair). e.0) nat_list_cmp_total) (on_total (λ (e : Pair). e.1) nat_list_cmp_total)

pub pairs_exact : IsAntisymmetric pair_cmp
pairs_exact = exact_pairs (slice_cmp nat_cmp) (slice_cmp nat_cmp) exact_bytes exact_bytes
