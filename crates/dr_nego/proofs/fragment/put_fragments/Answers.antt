use Rattle.std.proofs.Common.{◌++◌, ℕ, ap, ◌∙◌, arith}
use Rattle.dr_pdu.proofs.Behind.{behind, further}
use Rattle.dr_nego.specs.Fragments.{spellings, value_pdus, is_command, pieces}
use Rattle.dr_nego.proofs.Cutting.{written_more, written_last}
use Rattle.dr_nego.proofs.fragment.put_fragments.Goals as goal

pub loop-rest-preserved : goal.loop-rest-preserved
loop-rest-preserved c =
    let same = written_more c.piece_size-size.result c.args.id (is_command c.args.kind) c.loop-rest.out.items c.put_fragment.new.out.items c.loop-rest.rest.now c.split_at.result.0.now c.split_at.result.1.now
    (omega (arith, c.piece_size-size.ensures.some)) c.loop-rest-test.true c.split_at.ensures.front c.split_at.ensures.back c.in_ok-put_fragment.ensures.ok in (
      same ∙ c.loop-rest.invariant.0,
      behind _ _ _ _ c.loop-rest.invariant.1 c.in_ok-put_fragment.ensures.ok,
    )

pub returns-in_err-put_fragment-clause-err : goal.returns-in_err-put_fragment-clause-err
returns-in_err-put_fragment-clause-err c = further c.from_residual.result _ _ _ _ c.loop-rest.invariant.1.1 c.in_err-put_fragment.ensures.err

pub returns-in_err-put_fragment-2-clause-err : goal.returns-in_err-put_fragment-2-clause-err
returns-in_err-put_fragment-2-clause-err c = further c.from_residual-in_err-put_fragment-2.result _ _ _ _ c.loop-rest.invariant.1.1 c.in_err-put_fragment-2.ensures.err

pub returns-clause-ok : goal.returns-clause-ok
returns-clause-ok c =
    let b = is_command c.args.kind in
    written_last c.piece_size-size.result c.args.id b c.loop-rest.out.items c.put_fragment-2.new.out.items c.loop-rest.rest.now
    (omega (arith, c.piece_size-size.ensures.some)) c.loop-rest-test.false c.in_ok-put_fragment-2.ensures.ok
    ∙ (c.loop-rest.invariant.0 ∙ ap (λ (n : ℕ). c.args.out.now.items ++ spellings (value_pdus c.args.id b (pieces n c.args.bytes.now))) c.piece_size-size.ensures.size)
