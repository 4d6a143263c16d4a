use Rattle.std.proofs.Common.{◌||◌, eqb, rules}
use Rattle.books.specs.Compact.{uncut, Mending}
use Rattle.books.proofs.Struck.{exact_struck, cells_struck}
use Rattle.books.proofs.compact.CompactRowsStore.follow.Goals as goal

-- the tables of the label are mended, and no others
mended : (c : goal.After-mend_where) → Mending c.args.frame.now uncut c.args.self.now c.mend_where.new.self (λ p q. eqb q c.args.i || eqb p c.args.i)
mended c = c.mend_where.ensures (λ p q. eqb q c.args.i || eqb p c.args.i) (λ labels r post. search rules)

pub returns-clause-keeps : goal.returns-clause-keeps
returns-clause-keeps c = exact_struck c.args.frame.now c.args.i c.args.self.now c.mend_where.new.self (mended c)

pub returns-clause-unmoved : goal.returns-clause-unmoved
returns-clause-unmoved c = cells_struck c.args.frame.now c.args.i c.args.self.now c.mend_where.new.self (mended c)
