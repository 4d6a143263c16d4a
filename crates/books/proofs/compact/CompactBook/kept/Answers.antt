use Rattle.std.proofs.Common.{◌≡◌, ◌<◌, length, slice_index_or, rules, refl, ap, ◌∙◌}
use mathlib.Core.Logic.{∥∥₁_map}
use Rattle.std.proofs.lemmas.List.{get_or_default}
use Rattle.rules.specs.Limits.{Within, max_forms}
use Rattle.books.specs.Changes.{Ordered}
use Rattle.books.specs.Frames.{book_view, row_at}
use Rattle.books.specs.Compact.{pairs, compact_row, empty_row}
use Rattle.books.proofs.Mended.{kept_as}
use Rattle.books.proofs.compact.CompactBook.kept.Goals as goal

pub returns : goal.returns
returns c =
    let s = c.args.self.now in
    let i = c.args.w.label in
    let j = c.args.j in
    let a = c.args.w.form in
    let o : Ordered s.frame.count i j = search rules in
    let w : Within max_forms a = search rules in
    let first : c.in_ok-labels.labels.first ≡ i = search rules in
    let second : c.in_ok-labels.labels.second ≡ j = search rules in
    let place : c.row.result ≡ row_at i j a = c.row.ensures.place ∙ rw (first, second) in
    let room : c.row.result < length s.rows.rows = search rules in
    let here : slice_index_or s.rows.rows c.row.result c.index-self-row.result ≡ compact_row s.rows (row_at i j a) =
    get_or_default s.rows.rows c.row.result c.index-self-row.result empty_row room ∙ ap (compact_row s.rows) place in
    (o, (w, ∥∥₁_map s.keeps (λ exact. kept_as ((book_view s.frame (pairs s.rows)).permitted i a j) ((book_view s.frame (pairs s.rows)).permitted i a j) (compact_row s.rows (row_at i j a)) _ (λ b. refl) here (exact i j a o w))))
