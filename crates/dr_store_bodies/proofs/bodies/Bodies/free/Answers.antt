use Rattle.std.proofs.Common.{◌≡◌, ◌==◌, ◌<◌, ◌^◌, not, filter, rules}
use Rattle.std.proofs.lemmas.Fn.{filter_same}
use Rattle.std.proofs.lemmas.List.Elements.{All-filter}
use Rattle.std.proofs.lemmas.List.Kept.{AllPairs-filter}
use Rattle.dr_store_bodies.specs.declared.extent.Extent.{Extent}
use Rattle.dr_store_bodies.specs.Extents.{LiesBefore, IsSafe, end_of}
use Rattle.dr_store_bodies.proofs.bodies.Bodies.free.Goals as goal

pub returns-clause-listed : goal.returns-clause-listed
returns-clause-listed g c =
    filter_same _ (λ e. not (e.at == c.args.extent.at)) _ (λ x b f' k. search rules) _ _ c.retain.ensures.filtered

pub invariant_of-self : goal.invariant_of-self
invariant_of-self g c =
    let test = λ (e : Extent). not (e.at == c.args.extent.at) in
    let kept : c.retain.new.self.items ≡ filter test c.args.self.now.extents.items = filter_same _ test _ (λ x b f' k. search rules) _ _ c.retain.ensures.filtered in
    rw kept (record {
      filled = All-filter test (λ e. 0 < e.size) _ c.args.self.now.filled;
      apart = AllPairs-filter LiesBefore test _ c.args.self.now.apart;
      named = All-filter test (λ e. end_of e < 2 ^ 64) _ c.args.self.now.named;
      safe = λ clean. All-filter test (IsSafe (g.D.Disk.seen c.args.self.now.disk) (g.D.Disk.may_leave c.args.self.now.disk)) _ (c.args.self.now.safe clean);
    })
