use Rattle.std.proofs.Common.{ℕ, refl, map, ◌∙◌, List, Bor, Contains, string_bytes}
use Rattle.std.proofs.lemmas.Bool.{false≢true}
use Rattle.dr_plan_text.proofs.Keys.{HasOnly-keys, AreKnown-keys}
use Rattle.dr_plan_text.proofs.form.has_only.Goals as goal

pub loop-key-init : goal.loop-key-init
loop-key-init c =
    let listed = c.into_iter-key-iterator.ensures.into_iter_gives ∙ c.keys-key-items.ensures.rest in
    record {
      enough = λ h. HasOnly-keys _ c.args.table.now.entries (rw listed at h);
      needed = λ h. rw listed (AreKnown-keys _ c.args.table.now.entries h);
    }

pub loop-key-preserved : goal.loop-key-preserved
loop-key-preserved c =
    let among : Contains (map (λ (k : Bor (List ℕ)). k.now) c.args.known.now) (string_bytes c.in-Some.key.now) =
    rw c.as_str.ensures.value at (c.if-not-is_among.ensures.0 refl) in
    record {
      enough = λ h. c.loop-key.invariant.enough (rw c.in-Some.ensures.steps (among, h));
      needed = λ h. (rw c.in-Some.ensures.steps at (c.loop-key.invariant.needed h)).1;
    }

pub returns-then-not-is_among : goal.returns-then-not-is_among
returns-then-not-is_among c = (
  λ h. absurd (false≢true h),
  λ h.
      let known = rw c.in-Some.ensures.steps at (c.loop-key.invariant.needed h) in
      c.if-not-is_among.ensures.1 (rw c.as_str.ensures.value known.0),
)

pub returns : goal.returns
returns c = (λ _. c.loop-key.invariant.enough (rw c.in-None.ensures.steps.0 tt), λ _. refl)
