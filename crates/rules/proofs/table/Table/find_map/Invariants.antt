use Rattle.std.proofs.Common.{None}
use Rattle.rules.proofs.Pairs.{RowsBefore, RowBefore}
use Rattle.rules.proofs.table.Table.find_map.Given as goal

abbrev pub invariant-loop-b : goal.invariant-loop-b
invariant-loop-b g l = RowBefore l.self.lent.rows.now (λ a b. goal.F-post g l.answer (a, b) None) l.a l.b

abbrev pub invariant-loop-a : goal.invariant-loop-a
invariant-loop-a g l = RowsBefore l.self.lent.rows.now (λ a b. goal.F-post g l.answer (a, b) None) l.a
