use Rattle.std.proofs.Common.{ap, rules}
use Rattle.rules.specs.Tables.{in_row}
use Rattle.books.proofs.full.FullRows.cut.Goals as goal

pub returns-clause-inside : goal.returns-clause-inside
returns-clause-inside c a b w = search (rules, c.rewrite.ensures.inside a 0 w)

pub returns-clause-outside : goal.returns-clause-outside
returns-clause-outside c n b far = ap (λ row. in_row row b) (c.rewrite.ensures.outside n 0 far)
