use Rattle.std.proofs.Common.{◌≡◌, length, ap, ◌∙◌, rules}
use Rattle.dr_store_bodies.specs.declared.extent.Extent.{Extent}
use Rattle.dr_store_shelf.proofs.cell.passes.Goals as goal

pub returns-then-bytes-extent : goal.returns-then-bytes-extent
returns-then-bytes-extent c =
    let same : length c.args.bytes.now ≡ c.in-Some.extent.size = search rules in (
      λ yes. record {
        ends = c.in-Some.ensures.0;
        whole = same ∙ ap (λ (e : Extent). e.size) c.in-Some.ensures.1;
        each = c.have_digests.ensures.0 yes;
      },
      λ it. c.have_digests.ensures.1 it.each,
    )
