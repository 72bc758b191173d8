-- From the index to the certificate: what the tests say of its own lines.
use Rattle.std.proofs.Common.{◌≡◌, ℕ, refl, sym, subst, List, Contains, true, false}
use Rattle.std.specs.Prelude.{◌↔◌, Bool, not}
use Rattle.std.proofs.lemmas.Bool.{false≢true}
use Rattle.dr_plan_model.specs.Networks.{Network}
use Rattle.dr_plan_model.specs.Plans.{IsWellFormed}
use Rattle.dr_plan_sound.specs.declared.certificate.Line.{Line}
use Rattle.dr_plan_sound.specs.declared.certificate.Certificate.{Certificate}
use Rattle.dr_plan_sound.specs.Soundness.{IsSound}
use Rattle.dr_plan_sound.specs.Certificates.{HasLine, IsCertificateOf}
use Rattle.dr_plan_sound.specs.Ranked.{AreRanked}
use Rattle.dr_plan_sound.proofs.RankedLines.{some_cell, no_pair_twice, one_rank, lines_are_the_lines}
use Rattle.dr_cert.specs.Conditions.{HasEachLine, ReachesEachLine, HasRightRanks, HasRightHops, UpToReach}
use Rattle.dr_cert.specs.Indexing.{IsIndexOf}
use Rattle.dr_cert.proofs.Findings.{rank_for}

module _ (plan : Network) (lines index : List Line) (ix : IsIndexOf lines index) where
  pub each_from : HasEachLine plan index → HasEachLine plan lines
  each_from each stop r = let h = each stop r in (h.0, ix.sound (record { stop = stop; rank = h.0 }) h.1)

  pub each_to : HasEachLine plan lines → HasEachLine plan index
  each_to each stop r = ix.whole stop (each stop r)

  pub reaches_all_from : ReachesEachLine plan index → ReachesEachLine plan lines
  reaches_all_from reaches line among = let h = ix.whole line.stop (line.rank, among) in reaches (record { stop = line.stop; rank = h.0 }) h.1

  pub reaches_all_to : ReachesEachLine plan lines → ReachesEachLine plan index
  reaches_all_to reaches line among = reaches line (ix.sound line among)

  pub right_to : HasRightRanks plan lines → HasRightRanks plan index
  right_to right line among = right line (ix.sound line among)

  -- where all ranks are right, no stop has two lines
  pub right_are_indexed : IsWellFormed plan → HasRightRanks plan lines → (line : Line) → Contains lines line → Contains index line
  right_are_indexed formed right line among =
      let h = ix.whole line.stop (line.rank, among) in
      let own = right line among in
      let other : Line = record { stop = line.stop; rank = h.0 } in
      let rank = rank_for plan formed lines right other (ix.sound other h.1) own.0 own.1 in
      let same : h.0 ≡ line.rank = one_rank plan own.0 line.stop.caller line.stop.node h.0 line.rank rank own.3 in
      let P : ℕ → Type 0 = λ r. Contains index (record { stop = line.stop; rank = r }) in
      subst P same h.1

  pub indexed_are_right : IsWellFormed plan → AreRanked plan index → ((line : Line) → Contains lines line → Contains index line) → (line : Line) → Contains lines line ↔ HasLine plan line
  indexed_are_right formed ranked all line =
      let are = lines_are_the_lines plan formed index ranked line in
      ((λ among. are.0 (all line among)), (λ has. ix.sound line (are.1 has)))

pub sealed : (plan : Network) (certificate : Certificate) (index : List Line) → IsWellFormed plan → UpToReach plan certificate → AreRanked plan index →
    ((line : Line) → Contains certificate.lines line ↔ HasLine plan line) → HasRightHops plan certificate.hops → IsSound plan × IsCertificateOf plan certificate
sealed plan certificate index formed so_far ranked lines hops =
    let to_ends = so_far.0 in
    let to_contexts = to_ends.0 in
    let to_lines = to_contexts.0 in
    let to_order = to_lines.0 in (
      record {
        accepted = to_contexts.1;
        no_pair_twice = λ key site over entry walk.
            let cell = some_cell plan key in
            let line = ranked.entries key cell.0 site cell.1 entry in
            no_pair_twice plan formed index ranked key cell.0 cell.1 _ site over line.0 line.1 walk;
        goes_on = to_ends.1;
        few_pairs = hops.0;
      },
      record { format = to_order.0.0; digest = to_order.0.1; lines = lines; hops = hops.1; lines_ordered = to_order.1.0; hops_ordered = to_order.1.1 },
    )

-- ---- a test by its negation
pub on : (b : Bool) → not b ≡ false → b ≡ true
on true e = refl
on false e = absurd (false≢true (sym e))

pub off : (b : Bool) → not b ≡ true → b ≡ true → ⊥
off true e h = false≢true e
off false e h = false≢true h
