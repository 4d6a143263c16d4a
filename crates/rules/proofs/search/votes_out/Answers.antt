use Rattle.std.proofs.Common.{arith, rules}
use Rattle.rules.proofs.Rows.{table_bounded}
use Rattle.rules.proofs.search.votes_out.Goals as goal
use Rattle.rules.proofs.search.votes_out.Goals.{then-contains, else-contains}

pub returns-else-has-clause-no : goal.returns-else-has-clause-no
returns-else-has-clause-no g c =
    let table = c.args.table in
    elim c.if-contains.branch [
      | then-contains w ↦ λ none first second. search (rules, first, second)
      | else-contains w ↦ λ none first second. absurd (grind (arith, table_bounded table.lent.rows.now table.lent.size table.is_table c.args.one.0 c.args.one.1 first))
    ]
