-- What stands for a piece of a document.
use Rattle.std.specs.Prelude.{decimal}
use Rattle.dr_base.specs.Texts.{Text}
use Rattle.dr_run_page.specs.declared.pieces.Piece.{Piece}
use Rattle.dr_run_page.specs.declared.pieces.Piece.TheVariants as piece
use Rattle.dr_run_page.specs.Documents.{ago_words, cause_words, due_words, visit_words}
use Rattle.dr_run_page.specs.Documents.{waited_words}
use Rattle.dr_run_page.specs.Markup.{in_markup}

abbrev pub text_of : Piece → Text
text_of (piece.Markup markup) = markup.now
text_of (piece.Words words) = in_markup words.now
text_of (piece.Number value) = decimal value
text_of (piece.Cause why) = cause_words why
text_of (piece.Due now due) = due_words now due
text_of (piece.Waited waited) = waited_words waited
text_of (piece.Visit now visit) = visit_words now visit
text_of (piece.Ago now at) = ago_words now at
