use Rattle.std.proofs.Common.{◌≡◌, ◌∙◌, IsTrue, length, drop, take_at, ap, subst, sym, rules}
use Rattle.std.specs.Prelude.{◌↔◌, List, ℕ}
use Rattle.sqlite_disk.specs.Disk.{Holds}
use Rattle.dr_store_data.specs.Heads.{head_of}
use Rattle.dr_store_data.proofs.HeadLemmas.{head_length, one_text}
use Rattle.dr_store_data.proofs.head.has_head.Goals as goal

pub returns-clause-is : goal.returns-clause-is
returns-clause-is g c = λ clean.
    let seen : List ℕ = g.D.Disk.seen c.args.file.now in
    let mark = c.args.mark.now in
    let long : length mark ≡ 16 = search rules in
    let wide : length c.read_at.new.buf ≡ c.in_ok-found.found.len = search rules in
    let many : c.in_ok-found.found.len ≡ 4096 = search rules in
    let found : c.as_slice.result.now ≡ c.read_at.new.buf =
    c.as_slice.ensures.value ∙ take_at c.read_at.new.buf (drop (length c.read_at.new.buf) c.in_ok-found.found.items) c.in_ok-found.found.len wide in
    let head : c.as_slice-2.result.now ≡ head_of mark = c.as_slice-2.ensures.value ∙ c.in_ok-head.ensures in
    let is : IsTrue c.eq.result ↔ (c.as_slice.result.now ≡ c.as_slice-2.result.now) = search rules in
    let read : Holds seen 0 c.read_at.new.buf = search rules in (
      λ yes. subst (Holds seen 0) (sym found ∙ is.0 yes ∙ head) read,
      λ has. is.1 (found ∙ one_text seen c.read_at.new.buf (head_of mark) 0 (wide ∙ many ∙ sym (head_length mark long)) read has ∙ sym head),
    )
