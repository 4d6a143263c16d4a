-- The rows of the full book.
use Rattle.std.specs.Prelude.{ℕ, Bool, slice_index}
use Rattle.rules.specs.Tables.{in_row}
use Rattle.books.specs.declared.rows.Rows.{Rows}

-- the rows of all tables, a bit for each form; bits of forms that are not live say nothing
abbrev pub FullRows : Type 0
FullRows = Rows ℕ

-- the row at n has form b
abbrev pub bits : FullRows → ℕ → ℕ → Bool
bits s n b = in_row (slice_index s.rows n) b
