use Rattle.books.proofs.Bits.{in_row_without}
use Rattle.books.proofs.forms.without.Goals as goal

pub returns : goal.returns
returns c = in_row_without c.args.row c.args.other
