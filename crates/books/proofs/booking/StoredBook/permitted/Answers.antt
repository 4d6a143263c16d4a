use Rattle.std.proofs.Common.{◌∙◌}
use Rattle.books.specs.Linked.{orderly}
use Rattle.books.proofs.booking.StoredBook.permitted.Goals as goal

pub returns-else-one-two : goal.returns-else-one-two
returns-else-one-two g c =
    let s = c.args.self.now in
    let one = c.args.one in
    let two = c.args.two in
    c.has_form-else-one-two.ensures ∙ c.forward-else-one-two.ensures one.form
    ∙ (orderly s.frame (g.S.Store.cell s.rows)).either_order two.label two.form one.label one.form
