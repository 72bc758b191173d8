use Rattle.std.proofs.Common.{ℕ, ◌+◌, None, Some, false, arith, refl, sym, subst, ap}
use Rattle.dr_dimse.specs.declared.command.Command.TheVariants.{Other}
use Rattle.dr_dimse.specs.Written.{CommandFits}
use Rattle.dr_dimse.proofs.FitLemmas.{other_answer_fits}
use Rattle.dr_session.specs.Reactions.{says}
use Rattle.dr_session.proofs.Effects.{acted}
use Rattle.dr_session.proofs.Fitting.{small_field}
use Rattle.dr_session.proofs.react.acceptor.answer_unknown.Goals as goal

pub answer_field-requires : goal.answer_field-requires
answer_field-requires c = small_field c.args.field c.args.id c.requires.2

pub reply-requires : goal.reply-requires
reply-requires c =
    let P : ℕ → Type 0 = λ n. CommandFits (Other n (Some c.args.id) (Some 0x0211) false) in
    subst P (sym c.answer_field.ensures) (other_answer_fits c.args.field c.args.id 0x0211 None false false c.requires (small_field c.args.field c.args.id c.requires.2) (omega arith))

pub returns : goal.returns
returns c =
    acted c.reply.result (says c.args.core c.args.context (Other c.answer_field.result (Some c.args.id) (Some 0x0211) false))
    (says c.args.core c.args.context (Other (0x8000 + c.args.field) (Some c.args.id) (Some 0x0211) false)) c.args.core c.args.core
    c.reply.ensures (ap (λ (n : ℕ). says c.args.core c.args.context (Other n (Some c.args.id) (Some 0x0211) false)) c.answer_field.ensures) refl
