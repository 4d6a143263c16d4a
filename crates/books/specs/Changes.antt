-- What an opening, a strike and a narrowing ask for, and what they leave. Assumes nothing.
use Rattle.std.specs.Prelude.{◌≡◌, ℕ, ◌+◌, ◌<◌, ◌≤◌, Bool, not, ◌&&◌, T, List, length, ◌==◌, ◌≢◌, slice_index}
use Rattle.rules.specs.Limits.{max_labels, max_forms, Within}
use Rattle.rules.specs.Tables.{Table, permits}
use Rattle.books.specs.Views.{View}
use Rattle.books.specs.Holding.{Holds, cut}

-- sizes that a panel can have
pub record Sizes (sizes : List ℕ) : Type 0 where
  pub few : length sizes ≤ max_labels
  pub each : (k : ℕ) → k < length sizes → Within max_forms (slice_index sizes k)

-- w is a panel of these sizes with all forms live and all pairs permitted
pub record Opened (sizes : List ℕ) (w : View) : Type 0 where
  pub labels : w.labels ≡ length sizes
  pub size : (k : ℕ) → k < length sizes → w.size (k + 1) ≡ slice_index sizes k
  pub live : (i a : ℕ) → Within (w.size i) a → T (w.live i a)
  pub permitted : (i a j b : ℕ) → (i ≢ j) → T (w.live i a) → T (w.live j b) → T (w.permitted i a j b)

-- form x of label k is form a of label i
abbrev pub is_form : ℕ → ℕ → ℕ → ℕ → Bool
is_form i a k x = k == i && x == a

-- w is v with form a of label i not live; its pairs cease with it
pub record Struck (v : View) (i a : ℕ) (w : View) : Type 0 where
  pub labels : w.labels ≡ v.labels
  pub size : (k : ℕ) → w.size k ≡ v.size k
  pub live : (k x : ℕ) → w.live k x ≡ (v.live k x && not (is_form i a k x))
  pub permitted : (k x l y : ℕ) → w.permitted k x l y ≡ (v.permitted k x l y && (w.live k x && w.live l y))

-- i and j are labels of a panel of n, and i is the lower: a table may be given for them
abbrev pub Ordered : ℕ → ℕ → ℕ → Type 0
Ordered n i j = (1 ≤ i) × ((i < j) × (j ≤ n))

-- each pair of the rows is of forms that the two labels have, live or not
abbrev pub FitsSizes : List ℕ → ℕ → ℕ → Type 0
FitsSizes rows height width = (a b : ℕ) → T (permits rows a b) → (a ≤ height) × (b ≤ width)

-- the book can hold what the rows permit of the live forms of i and j
abbrev pub Holdable : Holds → View → ℕ → ℕ → List ℕ → Type 0
Holdable holds v i j rows = holds (v.live i) (v.live j) (cut (v.live i) (v.live j) (permits rows))

-- w is v with the pairs of labels i and j narrowed to those that the table permits too
pub record Narrowed (v : View) (i j : ℕ) (t : Table) (w : View) : Type 0 where
  pub labels : w.labels ≡ v.labels
  pub size : (k : ℕ) → w.size k ≡ v.size k
  pub live : (k x : ℕ) → w.live k x ≡ v.live k x
  pub here : (x y : ℕ) → w.permitted i x j y ≡ (v.permitted i x j y && t x y)
  pub elsewhere : (k x l y : ℕ) → ((k ≡ i) × (l ≡ j) → ⊥) → ((k ≡ j) × (l ≡ i) → ⊥) → w.permitted k x l y ≡ v.permitted k x l y
