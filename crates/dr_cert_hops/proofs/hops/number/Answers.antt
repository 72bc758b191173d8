use Rattle.std.proofs.Common.{◌≡◌, ℕ, ◌+◌, ◌<◌, ◌≤◌, refl, sym, ◌∙◌, ap, subst, List, [], ◌∷◌, ◌++◌, take, drop, Some, arith, append_assoc}
use Rattle.std.specs.Prelude.{unwrap_or}
use Rattle.std.specs.BTreeMap.{Updates, get}
use Rattle.std.proofs.lemmas.List.{take_more, drop_more, take_all, drop_all, take-append-drop}
use Rattle.dr_base.specs.Texts.{Text}
use Rattle.dr_plan_sound.specs.declared.certificate.Hop.{Hop}
use Rattle.dr_cert_hops.specs.declared.hops.Passage.{Passage}
use Rattle.dr_cert_hops.specs.declared.hops.Ends.{Ends}
use Rattle.dr_cert_hops.specs.Numbering.{counted, count_over, numbered_after, ends_cmp, ends_at, hop_after}
use Rattle.dr_cert_hops.proofs.Counting.{counts_more, few_more}
use Rattle.dr_cert_hops.proofs.hops.number.Goals as goal

pub returns-then-before-ge-MOST_CONTEXTS : goal.returns-then-before-ge-MOST_CONTEXTS
returns-then-before-ge-MOST_CONTEXTS c =
    let i : ℕ = c.loop-passage.passage-index in
    let q : Passage = c.passage-item.result in
    let ps : List Passage = c.args.passages.now in
    let d = drop_more ps i q c.loop-passage-test.true in
    let split : drop i ps ≡ q ∷ drop (i + 1) ps = rw (← c.passage-item.is) at d in
    let value : c.unwrap_or-before.result ≡ counted c.loop-passage.counts q = c.unwrap_or-before.ensures ∙ (ap (λ o. unwrap_or o 0) (c.copied.ensures ∙ c.get.ensures.value) ∙ ap (λ (x : Ends). unwrap_or (get ends_cmp c.loop-passage.counts x) 0) c.in_ok-ends.ensures) in
    let count : c.unwrap_or-before.result ≡ count_over q.from q.to (take i ps) = value ∙ c.loop-passage.invariant.counts q in
    let few = c.loop-passage.invariant.few q.from q.to in
    let many : 128 ≤ c.unwrap_or-before.result = c.if-before-ge-MOST_CONTEXTS.true in
    let exact : count_over q.from q.to (take i ps) ≡ 128 = omega (arith, few, count) in
    let ends : ends_at q ≡ c.in_ok-ends.ends = sym c.in_ok-ends.ensures in
    let P : Ends → Type 0 = λ x. count_over x.from x.to (take i ps) ≡ 128 in (
      take i ps,
      q,
      drop (i + 1) ps,
      sym (take-append-drop i ps) ∙ ap (λ (rest : List Passage). take i ps ++ rest) split,
      ap (λ (x : Ends). x.from) ends,
      ap (λ (x : Ends). x.to) ends,
      subst P ends exact,
      c.loop-passage.invariant.few,
    )

pub loop-passage-preserved : goal.loop-passage-preserved
loop-passage-preserved c =
    let i : ℕ = c.loop-passage.passage-index in
    let q : Passage = c.passage-item.result in
    let ps : List Passage = c.args.passages.now in
    let before : ℕ = c.unwrap_or-before.result in
    let e = take_more ps i q c.loop-passage-test.true in
    let more : take (i + 1) ps ≡ take i ps ++ q ∷ [] = rw (← c.passage-item.is) at e in
    let d = drop_more ps i q c.loop-passage-test.true in
    let split : drop i ps ≡ q ∷ drop (i + 1) ps = rw (← c.passage-item.is) at d in
    let value : before ≡ counted c.loop-passage.counts q = c.unwrap_or-before.ensures ∙ (ap (λ o. unwrap_or o 0) (c.copied.ensures ∙ c.get.ensures.value) ∙ ap (λ (x : Ends). unwrap_or (get ends_cmp c.loop-passage.counts x) 0) c.in_ok-ends.ensures) in
    let count : before ≡ count_over q.from q.to (take i ps) = value ∙ c.loop-passage.invariant.counts q in
    let small : before < 128 = omega (arith, c.if-before-ge-MOST_CONTEXTS.false) in
    let updates : Updates ends_cmp c.loop-passage.counts c.insert.new.self (ends_at q) (Some (before + 1)) =
    (let P : Ends → Type 0 = λ x. Updates ends_cmp c.loop-passage.counts c.insert.new.self x (Some (before + 1)) in subst P c.in_ok-ends.ensures c.in_ok-insert.ensures.updates) in
    let C : List Passage → Type 0 = λ done. (p : Passage) → counted c.insert.new.self p ≡ count_over p.from p.to done in
    let F : List Passage → Type 0 = λ done. (a b : Text) → count_over a b done ≤ 128 in
    let here : Hop = hop_after q (count_over q.from q.to (take i ps)) in
    let pushed : c.push.new.self.items ≡ c.loop-passage.hops.items ++ here ∷ [] =
    c.in_ok-push.ensures.items ∙ ap (λ (h : Hop). c.loop-passage.hops.items ++ h ∷ []) (c.in_ok-hop_of.ensures ∙ ap (λ (n : ℕ). hop_after q n) count) in
    record {
      counts = subst C (sym more) (counts_more c.loop-passage.counts c.insert.new.self q (take i ps) before count updates c.loop-passage.invariant.counts);
      hops =
          ap (λ (hs : List Hop). hs ++ numbered_after (take (i + 1) ps) (drop (i + 1) ps)) pushed
          ∙ (append_assoc c.loop-passage.hops.items (here ∷ []) (numbered_after (take (i + 1) ps) (drop (i + 1) ps))
          ∙ (ap (λ (done : List Passage). c.loop-passage.hops.items ++ here ∷ numbered_after done (drop (i + 1) ps)) more
          ∙ (ap (λ (rest : List Passage). c.loop-passage.hops.items ++ numbered_after (take i ps) rest) (sym split)
          ∙ c.loop-passage.invariant.hops)));
      few = subst F (sym more) (few_more q (take i ps) before count small c.loop-passage.invariant.few);
    }
