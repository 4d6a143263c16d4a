-- What a store of rows owes its book when the panel is opened, after a strike and in a narrowing. `cell n b` says that the
-- row at n has form b. No contract of the interface cites this file.
use Rattle.std.specs.Prelude.{◌≡◌, ℕ, Bool, ◌&&◌, T, List}
use Rattle.rules.specs.Tables.{Table}
use Rattle.books.specs.declared.frame.Frame.{Frame}
use Rattle.books.specs.Holding.{Holds}
use Rattle.books.specs.Changes.{Ordered}
use Rattle.books.specs.Frames.{frame_live, frame_cut, row_at}

-- what the rows permit of the live forms of labels i and j can be held
abbrev pub HoldsRows : Holds → Frame → ℕ → ℕ → List ℕ → Type 0
HoldsRows holds f i j rows = holds (frame_live f i) (frame_live f j) (frame_cut f i j rows)

-- every row has every live form
abbrev pub Whole : Frame → (ℕ → ℕ → Bool) → Type 0
Whole f cell = (i j : ℕ) → Ordered f.count i j → (a b : ℕ) → T (frame_live f i a) → T (frame_live f j b) → T (cell (row_at i j a) b)

-- the rows of labels k and l have the same live forms as before
abbrev pub Kept : Frame → (ℕ → ℕ → Bool) → (ℕ → ℕ → Bool) → ℕ → ℕ → Type 0
Kept f before after k l = (x y : ℕ) → T (frame_live f k x) → T (frame_live f l y) → after (row_at k l x) y ≡ before (row_at k l x) y

-- so have all rows
abbrev pub Unmoved : Frame → (ℕ → ℕ → Bool) → (ℕ → ℕ → Bool) → Type 0
Unmoved f before after = (k l : ℕ) → Ordered f.count k l → Kept f before after k l

-- the rows of i and j have lost the forms that the table does not permit, and all others have the same as before
pub record RowsNarrowed (f : Frame) (i j : ℕ) (t : Table) (before after : ℕ → ℕ → Bool) : Type 0 where
  pub inside : (x y : ℕ) → T (frame_live f i x) → T (frame_live f j y) → after (row_at i j x) y ≡ (before (row_at i j x) y && t x y)
  pub outside : (k l : ℕ) → Ordered f.count k l → ((k ≡ i) × (l ≡ j) → ⊥) → Kept f before after k l
