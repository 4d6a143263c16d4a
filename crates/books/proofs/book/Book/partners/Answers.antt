use Rattle.std.proofs.Common.{rules}
use Rattle.books.proofs.Partners.{partner_range}
use Rattle.books.proofs.book.Book.partners.Goals as goal

pub returns : goal.returns
returns g c =
    let v = g.Self.Book.view c.args.self.now in
    let w = c.args.w in
    c.forms_where.ensures (v.permitted w.label w.form c.args.j) (λ b r post. search rules) (partner_range v (g.met.Self.Book.limits c.args.self.now) w.label w.form c.args.j)
