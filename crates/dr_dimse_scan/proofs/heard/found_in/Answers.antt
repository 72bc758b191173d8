use Rattle.std.proofs.Common.{subst}
use Rattle.std.specs.Prelude.{IfSome}
use Rattle.dr_dimse_scan.specs.Stores.{store_text, IsScanOf}
use Rattle.dr_dimse_scan.proofs.FoundLemmas.{read_by_scan, read_at_once}
use Rattle.dr_dimse_scan.proofs.heard.found_in.Goals as goal

pub returns-in-Some-scan : goal.returns-in-Some-scan
returns-in-Some-scan c =
    let heard = subst (λ x. IfSome x (λ b. IsScanOf c.args.syntax (store_text c.args.message.now) b.value)) c.in-Some-scan.is c.requires in
    read_by_scan c.args.syntax c.in-Some.syntax (store_text c.args.message.now) c.in-Some-scan.scan.value c.finish.result c.in-Some.is heard c.finish.ensures

pub returns-in-None : goal.returns-in-None
returns-in-None c = read_at_once c.args.syntax c.in-Some.syntax c.in-Some-text_in.text.now (store_text c.args.message.now) c.attributes.result c.in-Some.is c.in-Some-text_in.ensures c.attributes.ensures
