use Rattle.std.proofs.Common.{◌≡◌, ◌↔◌, inl, subst, IsTrue}
use Rattle.std.specs.Prelude.{flat_map}
use Rattle.std.specs.Io.KnownBytes.{Appends}
use Rattle.dr_base.specs.Texts.{Text}
use Rattle.dr_cert_diff.specs.Differing.{LosesSome}
use Rattle.dr_cert_diff.specs.Rows.{change_rows}
use Rattle.dr_word_route.proofs.differing.tell_difference.Goals as goal

pub returns-in_ok-tell_changes-in-Ok : goal.returns-in_ok-tell_changes-in-Ok
returns-in_ok-tell_changes-in-Ok g c =
    let found = c.in-Ok.ensures in
    let a = c.in-Ok.text-is in
    let b = c.in-Ok.lost-is in
    let all = found.0 in
    let text : c.in-Ok.text ≡ flat_map change_rows all = found.2 in
    let lost : IsTrue c.in-Ok.lost ↔ LosesSome all = found.3 in
    inl (
      all,
      found.1,
      record {
        printed = subst (λ (t : Text). Appends (g.W.Write.contents c.args.output.now) (g.W.Write.contents c.tell_changes.new.output) t) text c.in_ok-tell_changes-in-Ok.ensures;
        no = λ fails loses. c.status_behind.ensures.lost fails (lost.1 loses);
        yes = λ not. c.status_behind.ensures.kept (λ fails is. not fails (lost.0 is));
      },
    )
