use Rattle.std.proofs.Common.{◌∙◌, refl, subst, ℕ, List}
use Rattle.std.specs.Prelude.{true}
use Rattle.dr_word_at.proofs.caller.CallerAsks.ask.Goals as goal

pub returns : goal.returns
returns g c =
    let sent = c.in_ok-answer.ensures in (
      refl,
      (
        c.in_ok-link.link,
        sent.0,
        c.in_ok-link.ensures,
        subst (λ (b : List ℕ). g.N.Socket.Link.sends c.in_ok-link.link b true sent.0) (c.as_slice.ensures.value ∙ c.in_ok-bytes.ensures) sent.1,
      ),
    )
