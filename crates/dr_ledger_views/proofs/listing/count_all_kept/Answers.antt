use Rattle.std.proofs.Common.{◌∙◌, ℕ, map, sym}
use Rattle.std.proofs.lemmas.Cmp.{nat_list_cmp_total}
use Rattle.std.proofs.lemmas.List.{length-map}
use Rattle.std.proofs.lemmas.Map.Lookups.{exact_bytes}
use Rattle.dr_base.specs.Texts.{Text}
use Rattle.dr_ledger_views.proofs.Sets.{set_listed}
use Rattle.dr_ledger_views.proofs.listing.count_all_kept.Goals as goal

pub returns-clause-reply : goal.returns-clause-reply
returns-clause-reply g c = λ stands.
    let all = c.in_ok-all.all in
    let uid : Text × ℕ → Text = λ e. e.0 in
    c.len.ensures ∙ sym (length-map all uid) ∙ sym (set_listed nat_list_cmp_total exact_bytes (g.L.Ledger.book c.args.ledger.now).kept (map uid all) (c.in_ok-all.ensures.reply stands).0)
