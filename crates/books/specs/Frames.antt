-- The labels of a book with their sizes and live forms, and the view of a book whose rows stand by place. The two books of
-- this crate are defined by it; of the contracts that callers see, that of `CompactBook::kept` alone cites this file.
use Rattle.std.specs.Prelude.{◌≡◌, ℕ, ◌+◌, ◌-◌, ◌*◌, ◌/◌, ◌<◌, Bool, cond, not, ◌&&◌, T, List, length, ◌==◌, nat_le, nat_lt, slice_index, slice_index_or, MatchOption, MatchResult, Option, Result}
use Rattle.rules.specs.Limits.{Within}
use Rattle.rules.specs.Tables.{Table, in_row, permits}
use Rattle.rules.specs.declared.refusal.Refusal.{Refusal}
use Rattle.rules.specs.declared.refusal.Refusal.TheVariants.{OutsideLimits, NoLabel, NoForm}
use Rattle.books.specs.declared.frame.Frame.{Frame}
use Rattle.books.specs.declared.label.Label.{Label}
use Rattle.books.specs.declared.label_pair.LabelPair.{LabelPair}
use Rattle.books.specs.Sizing.{no_label}
use Rattle.books.specs.Views.{View, Forms}
use Rattle.books.specs.Holding.{cut}
use Rattle.books.specs.Changes.{Sizes, Ordered, is_form}

-- k is from 1 to n, as a test
abbrev pub within : ℕ → ℕ → Bool
within n k = nat_le 1 k && nat_le k n

-- label i of a frame, where it has one
abbrev pub label_at : Frame → ℕ → Label
label_at f i = slice_index_or f.labels (i - 1) no_label

-- how many forms label i has; 0 where there is no such label
unfoldable pub frame_size : Frame → ℕ → ℕ
frame_size f i = cond (within f.count i) (label_at f i).size 0

-- the live forms of label i
unfoldable pub frame_live : Frame → ℕ → Forms
frame_live f i a = within f.count i && in_row (label_at f i).live a

-- the pairs of the rows that are of live forms of labels i and j
abbrev pub frame_cut : Frame → ℕ → ℕ → List ℕ → Table
frame_cut f i j rows = cut (frame_live f i) (frame_live f j) (permits rows)

-- what an opening makes of the labels
pub record FrameOpened (sizes : List ℕ) (f : Frame) : Type 0 where
  pub labels : f.count ≡ length sizes
  pub size : (k : ℕ) → k < length sizes → frame_size f (k + 1) ≡ slice_index sizes k
  pub live : (i a : ℕ) → Within (frame_size f i) a → T (frame_live f i a)

-- a frame of these sizes, or the refusal where no panel can have them
abbrev pub FrameFrom : List ℕ → Result Frame Refusal → Type 0
FrameFrom sizes result = MatchResult result (λ f. Sizes sizes × FrameOpened sizes f) (λ e. (e ≡ OutsideLimits) × (Sizes sizes → ⊥))

-- what a strike makes of the labels
pub record FrameStruck (f : Frame) (i a : ℕ) (g : Frame) : Type 0 where
  pub labels : g.count ≡ f.count
  pub size : (k : ℕ) → frame_size g k ≡ frame_size f k
  pub live : (k x : ℕ) → frame_live g k x ≡ (frame_live f k x && not (is_form i a k x))

-- the label i, or none where there is no such label
abbrev pub LabelOf : Frame → ℕ → Option Label → Type 0
LabelOf f i result = MatchOption result (Within f.count i → ⊥) (λ label. Within f.count i × (label ≡ label_at f i))

-- the labels i and j, or none where a table may not be given for them
abbrev pub PairOf : Frame → ℕ → ℕ → Option LabelPair → Type 0
PairOf f i j result = MatchOption result (Ordered f.count i j → ⊥) (λ labels. Ordered f.count i j × ((labels.first ≡ i) × (labels.second ≡ j)))

-- why a strike is refused, in a panel of so many labels and these sizes
pub data StrikeRefused (labels : ℕ) (size : ℕ → ℕ) (i a : ℕ) : Refusal → Type 0 where
  lacks_label : (Within labels i → ⊥) → StrikeRefused labels size i a NoLabel
  lacks_form : Within labels i → (Within (size i) a → ⊥) → StrikeRefused labels size i a NoForm

-- the panel has form a of label i, or else the refusal of its strike
abbrev pub StrikeJudged : Frame → ℕ → ℕ → Result (Unit {0}) Refusal → Type 0
StrikeJudged f i a result = MatchResult result (λ done. Within f.count i × Within (frame_size f i) a) (StrikeRefused f.count (frame_size f) i a)

-- how many rows the tables of all two labels have
abbrev pub all_rows : ℕ
all_rows = 1920

-- where the sixteen rows of labels i < j begin: tables stand in the order of their second label, then of their first
unfoldable pub table_at : ℕ → ℕ → ℕ
table_at i j = ((j - 1) * (j - 2) / 2 + (i - 1)) * 16

-- where the row of form a of label i towards label j stands
abbrev pub row_at : ℕ → ℕ → ℕ → ℕ
row_at i j a = table_at i j + (a - 1)

-- whether two forms go together by the rows, in either order of their labels; cell n b: the row at n has form b
unfoldable pub linked : (ℕ → ℕ → Bool) → ℕ → ℕ → ℕ → Forms
linked cell i a j b = cond (i == j) (a == b) (cond (nat_lt i j) (cell (row_at i j a) b) (cell (row_at j i b) a))

-- the view of a book with these labels and rows
abbrev pub book_view : Frame → (ℕ → ℕ → Bool) → View
book_view f cell = record {
  labels = f.count;
  size = frame_size f;
  live = frame_live f;
  permitted = λ i a j b. (frame_live f i a && frame_live f j b) && linked cell i a j b;
}
