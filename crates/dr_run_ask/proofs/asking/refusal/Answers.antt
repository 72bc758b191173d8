use Rattle.std.proofs.Common.{◌∙◌, ap, inl, refl, sym, ℕ, List}
use Rattle.std.specs.Prelude.{option_map}
use Rattle.std.specs.Borrow.{Bor}
use Rattle.serde_json.specs.View.{view}
use Rattle.dr_run_ask.proofs.Seen.{refuses}
use Rattle.dr_run_ask.proofs.asking.refusal.Goals as goal

pub returns-in-Err : goal.returns-in-Err
returns-in-Err c = inl refl

pub returns-in-Some : goal.returns-in-Some
returns-in-Some c =
    refuses c.args.answer.now (view c.in-Ok.value) c.in-Some.name.now c.as_bytes.result.now c.fault_named.result c.in-Ok.ensures
    (sym c.text_at.ensures ∙ ap (option_map (λ (t : Bor (List ℕ)). t.now)) c.in-Some.is) c.as_bytes.ensures.value c.fault_named.ensures

pub returns : goal.returns
returns c = inl refl
