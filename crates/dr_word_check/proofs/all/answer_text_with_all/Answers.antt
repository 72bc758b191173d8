use Rattle.std.proofs.Common.{subst, inl, refl, List}
use Rattle.std.specs.Prelude.{flat_map}
use Rattle.std.specs.Io.KnownBytes.{Appends}
use Rattle.dr_check.specs.declared.fault.Fault.{Fault}
use Rattle.dr_word_check.specs.Faults.{no_line}
use Rattle.dr_word_check.proofs.all.answer_text_with_all.Goals as goal

pub returns-in_ok-tell_faults-in-Some-clause-answered : goal.returns-in_ok-tell_faults-in-Some-clause-answered
returns-in_ok-tell_faults-in-Some-clause-answered g c =
    let P : List Fault → Type 0 = λ faults. Appends (g.W.Write.contents c.args.output.now)
    (g.W.Write.contents c.tell_faults.new.output) (flat_map no_line faults) in
    inl (record {
      plan = c.in-Some.found.plan;
      faults = c.in-Some.found.faults;
      reads = c.in-Some.ensures.0;
      all = c.in-Some.ensures.1;
      some = c.in-Some.ensures.2;
      printed = subst P c.as_slice.ensures c.in_ok-tell_faults-in-Some.ensures;
      ends = refl;
    })
