-- The compact book: what it can hold, and the two numbers that it keeps for a row.
use Rattle.std.specs.Prelude.{◌≡◌, ℕ, ◌-◌, ◌<◌, ◌≤◌, Bool, ◌&&◌, ◌||◌, T, List, replicate, ◌==◌, nat_le, slice_index, slice_index_or, MatchOption, Option}
use Rattle.std.proofs.Common.{arith}
use Rattle.rules.specs.Limits.{Within, max_forms}
use Rattle.rules.specs.Tables.{Table, in_row}
use Rattle.books.specs.declared.frame.Frame.{Frame}
use Rattle.books.specs.declared.label_pair.LabelPair.{LabelPair}
use Rattle.books.specs.declared.compact_row.CompactRow.{CompactRow}
use Rattle.books.specs.declared.rows.Rows.{Rows}
use Rattle.books.specs.Views.{View, Forms}
use Rattle.books.specs.Changes.{Ordered}
use Rattle.books.specs.Frames.{book_view, frame_live, frame_cut, row_at}

-- the number that stands for no form
abbrev pub no_form : ℕ
no_form = 17

-- from its second form on a row has every live form; a form is the second or a later one where the row has one below it
abbrev pub Tailed : Forms → Forms → Type 0
Tailed M row = (p q b : ℕ) → T (row p) → T (row q) → p < q → q ≤ b → T (M b) → T (row b)

-- what the compact book can hold: a table with all its live rows so
abbrev pub Tails : Forms → Forms → Table → Type 0
Tails L M t = (a : ℕ) → T (L a) → Tailed M (t a)

-- the row of form a of label i, cut to the live forms of label j, can be held
abbrev pub RowHeld : Frame → ℕ → ℕ → List ℕ → ℕ → Type 0
RowHeld f i j rows a = T (frame_live f i a) → Tailed (frame_live f j) (frame_cut f i j rows a)

-- f is the first form of a row after another, or 17 where there is none
pub record Next (row : Forms) (from f : ℕ) : Type 0 where
  pub limit : f ≤ no_form
  pub there : f < no_form → (from < f) × T (row f)
  pub between : (b : ℕ) → from < b → b < f → T (row b) → ⊥

-- f and s are the first form of a row and the second, each 17 where there is none
pub record FirstTwo (row : Forms) (f s : ℕ) : Type 0 where
  pub first : Next row 0 f
  pub second : Next row f s

-- a row kept as f and s has the live form b
abbrev pub reads : ℕ → ℕ → Forms
reads f s b = b == f || nat_le s b

-- the two numbers of a row are its first form and its second
abbrev pub KeptIn : Forms → CompactRow → Type 0
KeptIn row r = FirstTwo row r.first r.second

-- a row of no forms
abbrev pub empty_row : CompactRow
empty_row = record { first = 17; second = 17; one = (omega arith, omega arith); two = (omega arith, omega arith) }

-- the rows of all tables, two numbers each
abbrev pub CompactRows : Type 0
CompactRows = Rows CompactRow

-- the row at a place
abbrev pub compact_row : CompactRows → ℕ → CompactRow
compact_row s n = slice_index_or s.rows n empty_row

-- the row at n has the live form b
abbrev pub pairs : CompactRows → ℕ → Forms
pairs s n = reads (compact_row s n).first (compact_row s n).second

-- the stored numbers are the first and the second form of label j that are permitted with form a of label i: so 17 and 17
-- where there is none, as for a form a that is not live
abbrev pub Exact : Frame → CompactRows → Type 0
Exact f s = (i j a : ℕ) → Ordered f.count i j → Within max_forms a
    → KeptIn ((book_view f (pairs s)).permitted i a j) (compact_row s (row_at i j a))

-- r keeps the row of form a as it is mended: of the live forms, those that the row was read to have and the given row has
-- too, and none where form a is not live
abbrev pub MendedRow : Frame → LabelPair → ℕ → CompactRow → ℕ → CompactRow → Type 0
MendedRow f labels a was given r =
    KeptIn (λ b. ((frame_live f labels.first a && frame_live f labels.second b) && reads was.first was.second b) && in_row given b) r

-- sixteen rows with every form: they cut nothing off
abbrev pub uncut : List ℕ
uncut = replicate 16 65535

-- labels p and q are i and j
abbrev pub is_pair : ℕ → ℕ → ℕ → ℕ → Bool
is_pair i j p q = p == i && q == j

-- what is told of the two numbers that are kept for form a of label i towards label j, or nothing where there is no such row
abbrev pub KeptFor : View → ℕ → ℕ → ℕ → Option (ℕ × ℕ) → Type 0
KeptFor v i a j result = MatchOption result
    (Ordered v.labels i j × Within max_forms a → ⊥)
    (λ two. Ordered v.labels i j × (Within max_forms a × ∥ FirstTwo (v.permitted i a j) two.0 two.1 ∥₁))

-- what mending does to the rows: where a table is mended, the row of each form keeps, of what was permitted before, the
-- first two forms that the given row has too; where it is not, the row stays
abbrev pub Mending : Frame → List ℕ → CompactRows → CompactRows → (ℕ → ℕ → Bool) → Type 0
Mending f given s t mended = (p q x : ℕ) → Ordered f.count p q → Within max_forms x
    → (T (mended p q) → KeptIn (λ b. (book_view f (pairs s)).permitted p x q b && in_row (slice_index given (x - 1)) b) (compact_row t (row_at p q x)))
    × ((T (mended p q) → ⊥) → compact_row t (row_at p q x) ≡ compact_row s (row_at p q x))
