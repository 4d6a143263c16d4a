use Rattle.std.proofs.Common.{rules}
use Rattle.books.specs.Frames.{book_view}
use Rattle.books.specs.Linked.{orderly}
use Rattle.books.proofs.Partners.{partner_range}
use Rattle.books.proofs.booking.StoredBook.partners.Goals as goal

pub returns-else-w-j : goal.returns-else-w-j
returns-else-w-j g c =
    let s = c.args.self.now in
    let cell = g.S.Store.cell s.rows in
    let v = book_view s.frame cell in
    let o = orderly s.frame cell in
    let w = c.args.w in
    c.forms_where.ensures (v.permitted w.label w.form c.args.j) (λ b r post. search (rules, o.either_order w.label w.form c.args.j b)) (partner_range v o w.label w.form c.args.j)
