use Rattle.std.proofs.lemmas.Bool.{false≢true}
use Rattle.dr_cert_diff.proofs.Gathering.{added_unless}
use Rattle.dr_cert_diff.proofs.comparing.add_unless.Goals as goal

pub returns : goal.returns
returns c =
    added_unless c.args.names.now c.add_names.new.names c.args.name.now c.from_ref.result.now c.args.set.now c.from_ref.ensures.value (λ among. false≢true (c.if-is_in_set.ensures.1 among)) c.in_ok-add_names.ensures
