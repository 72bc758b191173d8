use Rattle.std.proofs.Common.{refl}
use Rattle.dr_store.proofs.ledger.SqlLedgerMoments.at.Goals as goal

pub invariant_of-self : goal.invariant_of-self
invariant_of-self g c = record { idle = c.args.self.now.idle; kept = c.args.self.now.kept }

pub returns : goal.returns
returns g c = record {
  site = refl;
  book = refl;
  bodies = refl;
  failed = refl;
  armed = refl;
  stands = (λ safe. safe, λ safe. safe);
  trusts = (λ clean. clean, λ clean. clean);
}
