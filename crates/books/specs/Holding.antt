-- The tables that a book can hold over the live forms of two labels, and the three laws that bind them. Assumes nothing.
use Rattle.std.specs.Prelude.{ℕ, ◌&&◌, T}
use Rattle.rules.specs.Votes.{Vote}
use Rattle.rules.specs.Tables.{Table}
use Rattle.rules.specs.Closing.{Closed}
use Rattle.books.specs.Views.{Forms}

-- holds L M t: the book can hold t between a label with the live forms L and one with the live forms M
abbrev pub Holds : Type 1
Holds = Forms → Forms → Table → Type 0

-- the pairs of a table that are of live forms
abbrev pub cut : Forms → Forms → Table → Table
cut L M t a b = t a b && (L a && M b)

-- the pairs that two tables have in common
abbrev pub common : Table → Table → Table
common s t a b = s a b && t a b

-- the forms that are left are among those before
abbrev pub Fewer : Forms → Forms → Type 0
Fewer L' L = (a : ℕ) → T (L' a) → T (L a)

-- the table gives each live form of either label a live partner
pub record Partnered (L M : Forms) (t : Table) : Type 0 where
  pub first : (a : ℕ) → T (L a) → (b : ℕ) × (T (M b) × T (t a b))
  pub second : (b : ℕ) → T (M b) → (a : ℕ) × (T (L a) × T (t a b))

-- a closed table that gives each live form a partner can be held, cut to the live forms
abbrev pub HoldsClosed : Vote → Holds → Type 0
HoldsClosed vote holds = (L M : Forms) (t : Table) → Closed vote t → Partnered L M t → holds L M (cut L M t)

-- where two tables can be held, so can what they have in common
abbrev pub HoldsCommon : Holds → Type 0
HoldsCommon holds = (L M : Forms) (s t : Table) → holds L M s → holds L M t → holds L M (common s t)

-- a table that can be held can still be held after strikes, cut to the forms that are left
abbrev pub HoldsFewer : Holds → Type 0
HoldsFewer holds = (L M L' M' : Forms) (t : Table) → Fewer L' L → Fewer M' M → holds L M t → holds L' M' (cut L' M' t)
