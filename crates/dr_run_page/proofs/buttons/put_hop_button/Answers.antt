use Rattle.std.proofs.Common.{◌≡◌, ◌++◌, OnOk, List, ℕ, subst}
use Rattle.dr_run_page.specs.Documents.{hop_button}
use Rattle.dr_run_page.proofs.buttons.put_hop_button.Goals as goal

pub returns : goal.returns
returns c =
    let old = c.args.out.now.items in
    let new = c.put_pieces.new.out.items in
    let made = hop_button c.args.act.now c.args.label.now in
    subst
    (λ (key : List ℕ). OnOk c.put_pieces.result (new ≡ old ++ made key c.args.dest.now))
    c.as_bytes.ensures
    (subst
    (λ (dest : List ℕ). OnOk c.put_pieces.result (new ≡ old ++ made c.as_bytes.result.now dest))
    c.as_bytes-2.ensures c.put_pieces.ensures)
