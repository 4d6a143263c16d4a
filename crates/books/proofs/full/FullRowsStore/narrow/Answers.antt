use Rattle.std.proofs.Common.{◌&&◌, get_or, sym, ap, ◌∙◌}
use Rattle.rules.specs.Tables.{in_row}
use Rattle.rules.proofs.Rows.{permits_at}
use Rattle.books.specs.Frames.{row_at}
use Rattle.books.specs.Labels.{live_form}
use Rattle.books.proofs.Places.{row_apart}
use Rattle.books.proofs.full.FullRowsStore.narrow.Goals as goal

pub returns-clause-narrowed : goal.returns-clause-narrowed
returns-clause-narrowed c =
    let f = c.args._frame.now in
    let i = c.args.labels.first in
    let j = c.args.labels.second in
    record {
      inside = λ x y lx ly.
          let form = live_form f i x lx in
          c.cut.ensures.inside x y form ∙ ap (λ t. in_row (get_or c.args.self.now.rows (row_at i j x) 0) y && t) (sym (permits_at c.args.rows.now x y form.0));
      outside = λ p q o ne x y lx ly.
          c.cut.ensures.outside (row_at p q x) y
          (row_apart i j p q x c.args.labels.ordered.0 c.args.labels.ordered.1.0 o.0 o.1.0 (live_form f p x lx) ne);
    }
