-- What a call does to a book s, which is then t, by its answer. Where it is refused, t is s, byte for byte.
use Rattle.std.specs.Prelude.{◌≡◌, ℕ, List, Ok, Err, Result}
use Rattle.rules.specs.declared.refusal.Refusal.{Refusal}
use Rattle.rules.specs.declared.refusal.Refusal.TheVariants.{OutsideLimits, NoLabel, NoForm, NoTable, NotHeld}
use Rattle.rules.specs.Limits.{Within}
use Rattle.rules.specs.Tables.{permits}
use Rattle.books.specs.Views.{View}
use Rattle.books.specs.Holding.{Holds}
use Rattle.books.specs.Changes.{Sizes, Opened, Struck, Ordered, FitsSizes, Holdable, Narrowed}

-- done, or the refusal
abbrev pub Answer : Type 0
Answer = Result (Unit {0}) Refusal

-- an opening with these sizes
pub data Opening {B : Type 0} (view : B → View) (s : B) (sizes : List ℕ) (t : B) : Answer → Type 0 where
  open_done : Sizes sizes → Opened sizes (view t) → Opening view s sizes t (Ok tt)
  open_outside : (Sizes sizes → ⊥) → t ≡ s → Opening view s sizes t (Err OutsideLimits)

-- a strike of form a of label i
pub data Striking {B : Type 0} (view : B → View) (s : B) (i a : ℕ) (t : B) : Answer → Type 0 where
  strike_done : Within (view s).labels i → Within ((view s).size i) a → Struck (view s) i a (view t) → Striking view s i a t (Ok tt)
  strike_no_label : (Within (view s).labels i → ⊥) → t ≡ s → Striking view s i a t (Err NoLabel)
  strike_no_form : Within (view s).labels i → (Within ((view s).size i) a → ⊥) → t ≡ s → Striking view s i a t (Err NoForm)

-- a narrowing of labels i and j to the rows
pub data Narrowing {B : Type 0} (view : B → View) (holds : Holds) (s : B) (i j : ℕ) (rows : List ℕ) (t : B) : Answer → Type 0 where
  narrow_done : Ordered (view s).labels i j → FitsSizes rows ((view s).size i) ((view s).size j) → Holdable holds (view s) i j rows
      → Narrowed (view s) i j (permits rows) (view t) → Narrowing view holds s i j rows t (Ok tt)
  narrow_no_label : (Ordered (view s).labels i j → ⊥) → t ≡ s → Narrowing view holds s i j rows t (Err NoLabel)
  narrow_no_table : Ordered (view s).labels i j → (FitsSizes rows ((view s).size i) ((view s).size j) → ⊥) → t ≡ s → Narrowing view holds s i j rows t (Err NoTable)
  narrow_not_held : Ordered (view s).labels i j → FitsSizes rows ((view s).size i) ((view s).size j) → (Holdable holds (view s) i j rows → ⊥)
      → t ≡ s → Narrowing view holds s i j rows t (Err NotHeld)
