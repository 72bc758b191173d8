use Rattle.std.proofs.Common.{◌≡◌, ap, sym, Some, Option, List, ℕ, length, subst, ◌^◌, ◌<◌}
use Rattle.std.specs.Option.{MatchOption}
use Rattle.std.specs.Int.{w32, to_be_bytes}
use Rattle.dr_pdu.specs.Items.{first_body}
use Rattle.dr_pdu.specs.Reads.{items}
use Rattle.dr_pdu.proofs.ContextLemmas.{length_says}
use Rattle.dr_pdu.proofs.associate.greatest_length_of.Goals as goal

pub returns-then-length-ne4 : goal.returns-then-length-ne4
returns-then-length-ne4 c = λ n h.
    let is = items c.in_ok-inside.inside.items in
    let says = length_says (first_body 0x50 (items c.args.found.now)) c.in-Some.body.now is n c.in-Some.ensures c.in_ok-inside.ensures h in
    let here : Some c.in-Some-first.length.now ≡ first_body 0x51 is = rw c.deref.ensures.value at c.in-Some-first.ensures in
    let it = subst (λ (o : Option (List ℕ)). MatchOption o (n ≡ 0) (λ b. (n < 2 ^ 32) × (b ≡ to_be_bytes w32 n))) (sym here) says in
    let four : length c.in-Some-first.length.now ≡ 4 = ap (λ (t : List ℕ). length t) it.1 in
    absurd (c.if-length-ne4.true four)
