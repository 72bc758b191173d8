use Rattle.std.proofs.Common.{◌≡◌, ◌∙◌, ap, ℕ, true, cond, None}
use Rattle.std.specs.BTreeMap as tree
use Rattle.std.specs.BTreeMap.{is_at}
use Rattle.std.specs.BTreeSet as set
use Rattle.dr_base.specs.Texts.{Text, text_cmp}
use Rattle.dr_run_serve.specs.Pasts.{is_uid}
use Rattle.dr_run_serve.proofs.Noting.{both}
use Rattle.dr_run_serve.proofs.past.Past.note_kept.Goals as goal

pub returns-clause-known : goal.returns-clause-known
returns-clause-known c = λ q.
    let uid = c.args.uid.now in
    let old = c.args.self.now in
    let here = set.contains text_cmp old.kept q in
    let put : set.contains text_cmp c.insert.new.self q ≡ cond (is_uid uid q) true here =
    c.in_ok-_is_first.ensures.updates.0 q ∙ ap (λ (t : Text). cond (is_at (text_cmp t) q) true here) c.in_ok-copy.ensures in
    both (is_uid uid q) _ true here _ None (tree.get text_cmp old.ends q) put (c.remove-end.ensures.updates.0 q)
