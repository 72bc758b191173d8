use Rattle.dr_cert_text.proofs.Injective.{lines_apart}
use Rattle.dr_cert_text.proofs.order.order_lines.Goals as goal

pub in_printed_order-requires : goal.in_printed_order-requires
in_printed_order-requires c = lines_apart c.args.lines.items c.requires.printable c.requires.different
