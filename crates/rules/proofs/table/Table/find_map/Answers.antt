use Rattle.std.proofs.Common.{None, arith}
use Rattle.rules.proofs.Rows.{table_bounded}
use Rattle.rules.proofs.Pairs.{all_pairs}
use Rattle.rules.proofs.table.Table.find_map.Goals as goal

pub returns : goal.returns
returns g c p h =
    let table = c.args.self in
    all_pairs table.lent.rows.now (λ a b. goal.F-post g c.args.answer (a, b) None) (table_bounded table.lent.rows.now table.lent.size table.is_table) (λ a l. c.loop-a.invariant a (omega arith)) p.0 p.1 h
