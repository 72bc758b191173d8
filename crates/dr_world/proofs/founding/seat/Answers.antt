use Rattle.std.proofs.Common.{Some, ap, sym, subst, ◌∙◌}
use Rattle.std.specs.BTreeMap as tree
use Rattle.dr_base.specs.Texts.{Text, text_cmp}
use Rattle.dr_site.specs.Parts.{Part, IsPartOf}
use Rattle.dr_world.proofs.founding.seat.Goals as goal

pub returns-clause-founds : goal.returns-clause-founds
returns-clause-founds g c =
    let site = c.in_ok-node.ensures.site in (
      c.in_ok-node.node,
      record {
        named = ap (λ (s : Part). s.name) site ∙ c.in-Ok.ensures.0;
        part = subst (λ (s : Part). IsPartOf c.args.sealed.now.plan c.args.sealed.now.certificate s) (sym site) c.in-Ok.ensures.1;
        links = c.in_ok-node.ensures.links;
        armed = c.in_ok-node.ensures.armed;
        empty = c.in_ok-node.ensures.empty;
      },
      subst (λ (k : Text). tree.Updates text_cmp c.args.nodes.now c.insert.new.self k (Some c.in_ok-node.node)) c.in_ok-name.ensures c.in_ok-insert.ensures.updates,
    )
