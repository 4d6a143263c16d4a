use Rattle.std.proofs.Common.{refl}
use Rattle.books.specs.Frames.{table_at}
use Rattle.books.proofs.label_pair.LabelPair.table.Goals as goal

pub returns-clause-place : goal.returns-clause-place
unfolding table_at
returns-clause-place c = rw (c.from-first.ensures, c.from-second.ensures) refl
