use Rattle.std.proofs.Common.{◌≡◌, ℕ, ◌<◌, length, slice_index, slice_index_or}
use Rattle.rules.specs.Tables.{in_row}
use Rattle.books.specs.Sizing.{no_label}
use Rattle.books.specs.Frames.{within}
use Rattle.books.proofs.framing.FrameTryFromRefSliceU8.try_from.Given as goal

abbrev pub invariant-loop-k : goal.invariant-loop-k
invariant-loop-k l = (length l.labels ≡ 16)
    × ((m : ℕ) → m < l.k → (slice_index_or l.labels m no_label).size ≡ slice_index l.sizes m)
    × ((m : ℕ) → m < l.k → (a : ℕ) → in_row (slice_index_or l.labels m no_label).live a ≡ within (slice_index l.sizes m) a)
