use Rattle.std.proofs.lemmas.Bool.{false≢true}
use Rattle.toml.specs.View.{table_view}
use Rattle.dr_plan_expand.proofs.Expanded.{not_toml, no_short, not_within, no_meaning, own_of, same_of}
use Rattle.dr_plan_expand.proofs.expand.is_own.Goals as goal

pub returns-in-Err-2 : goal.returns-in-Err-2
returns-in-Err-2 c = (
  λ h. absurd (false≢true h),
  λ own. absurd (not_toml c.args.core.now (rw c.as_bytes.ensures at (c.in-Err.ensures.refused (λ m. false≢true (c.if-is_memory.ensures.1 m)))) own),
)

pub returns-in-Ok-stand_in : goal.returns-in-Ok-stand_in
returns-in-Ok-stand_in c =
    let tree = rw c.as_bytes.ensures at c.in-Ok.ensures.ok in (
      λ is. own_of c.args.core.now c.in-Ok-stand_in.again (table_view c.in-Ok.root) tree c.in-Ok-stand_in.ensures.ok (c.is_same.ensures.0 is),
      λ own. c.is_same.ensures.1 (same_of c.args.core.now c.in-Ok-stand_in.again (table_view c.in-Ok.root) tree c.in-Ok-stand_in.ensures.ok own),
    )

pub returns-in-Field : goal.returns-in-Field
returns-in-Field c =
    let tree = rw c.as_bytes.ensures at c.in-Ok.ensures.ok in
    (λ h. absurd (false≢true h), λ own. absurd (no_short c.args.core.now (table_view c.in-Ok.root) tree (c.in-Err-stand_in.ensures.field c.in-Field.is) own))

pub returns-in-Limit : goal.returns-in-Limit
returns-in-Limit c =
    let tree = rw c.as_bytes.ensures at c.in-Ok.ensures.ok in
    let told = c.in-Err-stand_in.ensures.limit c.in-Limit.is in
    (λ h. absurd (false≢true h), λ own. absurd (not_within c.args.core.now (table_view c.in-Ok.root) tree told.0 told.1 told.2 own))

pub returns-in-Unknown : goal.returns-in-Unknown
returns-in-Unknown c =
    let tree = rw c.as_bytes.ensures at c.in-Ok.ensures.ok in
    let told = c.in-Err-stand_in.ensures.unknown c.in-Unknown.is in
    (λ h. absurd (false≢true h), λ own. absurd (no_meaning c.args.core.now (table_view c.in-Ok.root) tree told.0 told.1 told.3 own))
