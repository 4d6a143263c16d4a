use Rattle.std.proofs.Common.{◌≡◌, ℕ, ◌<◌, length, slice_index}
use Rattle.walk.proofs.walking.sixteen.Given as goal

abbrev pub invariant-loop-k : goal.invariant-loop-k
invariant-loop-k l = (length l.row-items ≡ 16) × ((m : ℕ) → m < l.k → slice_index l.row-items m ≡ slice_index l.rows m)
