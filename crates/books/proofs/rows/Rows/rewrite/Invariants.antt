use Rattle.std.proofs.Common.{◌≡◌, ℕ, ◌+◌, ◌<◌, ◌≤◌, length, slice_index_or}
use Rattle.books.proofs.rows.Rows.rewrite.Given as goal

abbrev pub invariant-loop-k : goal.invariant-loop-k
invariant-loop-k g l = (length l.row-items ≡ 16)
    × ((m : ℕ) (d : _) → m < l.k → goal.F-post g l.anew (m + 1) (slice_index_or l.initial.row-items m d) (slice_index_or l.row-items m d))
    × ((m : ℕ) (d : _) → l.k ≤ m → slice_index_or l.row-items m d ≡ slice_index_or l.initial.row-items m d)
