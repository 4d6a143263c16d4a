use Rattle.books.proofs.Narrowed.{exact_narrowed, cells_here, cells_elsewhere}
use Rattle.books.proofs.compact.CompactRowsStore.narrow.Goals as goal

pub returns-clause-keeps : goal.returns-clause-keeps
returns-clause-keeps c =
    exact_narrowed c.args.frame.now c.args.labels.first c.args.labels.second c.args.rows.now c.args.self.now c.mend.new.self c.mend.ensures c.requires.held

pub returns-clause-narrowed : goal.returns-clause-narrowed
returns-clause-narrowed c =
    let f = c.args.frame.now in
    let i = c.args.labels.first in
    let j = c.args.labels.second in
    record {
      inside = cells_here f i j c.args.rows.now c.args.self.now c.mend.new.self c.mend.ensures c.requires.held c.requires.labels;
      outside = cells_elsewhere f i j c.args.rows.now c.args.self.now c.mend.new.self c.mend.ensures c.requires.held;
    }
