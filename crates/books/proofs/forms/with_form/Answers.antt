use Rattle.books.proofs.Bits.{in_row_with}
use Rattle.books.proofs.forms.with_form.Goals as goal

pub returns : goal.returns
returns c x = in_row_with c.args.row c.args.b x c.requires
