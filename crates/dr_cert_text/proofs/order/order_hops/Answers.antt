use Rattle.dr_cert_text.proofs.Injective.{hops_apart}
use Rattle.dr_cert_text.proofs.order.order_hops.Goals as goal

pub in_printed_order-requires : goal.in_printed_order-requires
in_printed_order-requires c = hops_apart c.args.hops.items c.requires.printable c.requires.different
