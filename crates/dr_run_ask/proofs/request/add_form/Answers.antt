use Rattle.std.proofs.Common.{◌∙◌, [], ◌∷◌, ◌++◌, List, ap, append_assoc, codes}
use Rattle.http1.specs.Fields.{Header}
use Rattle.http1.specs.Head.{pairs}
use Rattle.dr_run_ask.proofs.request.add_form.Goals as goal

pub returns : goal.returns
returns c =
    c.in_ok-add_field-2.ensures
    ∙ (ap (λ (fields : List Header). fields ++ ((codes "content-length", c.args.size.now) ∷ [])) c.in_ok-add_field.ensures
    ∙ append_assoc (pairs c.args.fields.now.items) ((codes "content-type", codes "application/x-www-form-urlencoded") ∷ []) ((codes "content-length", c.args.size.now) ∷ []))
