use Rattle.std.proofs.Common.{sym, ◌∙◌}
use Rattle.std.proofs.lemmas.Bool.{false≢true}
use Rattle.dr_ledger_read.proofs.Bytes.{feed_unescaped, is_escaped, no_slash, plain_unescaped, quote_unescaped}
use Rattle.dr_ledger_read.proofs.quoted.has_digits.Goals as goal

pub returns-then-is_plain : goal.returns-then-is_plain
returns-then-is_plain c = ((λ t. absurd (false≢true t)), λ e. absurd (plain_unescaped c.args.byte (sym c.is_plain.ensures ∙ c.if-is_plain.true) e))

pub returns-then-byte-eq10 : goal.returns-then-byte-eq10
returns-then-byte-eq10 c = ((λ t. absurd (false≢true t)), λ e. absurd (feed_unescaped c.args.byte c.if-byte-eq10.true e))

pub returns-then-byte-eq-QUOTE : goal.returns-then-byte-eq-QUOTE
returns-then-byte-eq-QUOTE c = ((λ t. absurd (false≢true t)), λ e. absurd (quote_unescaped c.args.byte c.if-byte-eq-QUOTE.true e))

pub returns : goal.returns
returns c = (is_escaped c.args.byte (sym c.is_plain.ensures ∙ c.if-is_plain.false) c.if-byte-eq10.false c.if-byte-eq-QUOTE.false, no_slash c.args.byte)
