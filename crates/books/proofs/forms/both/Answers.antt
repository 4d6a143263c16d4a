use Rattle.books.proofs.Bits.{in_row_and}
use Rattle.books.proofs.forms.both.Goals as goal

pub returns : goal.returns
returns c = in_row_and c.args.row c.args.other
