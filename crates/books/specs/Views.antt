-- What a book says of its panel, and the limits that every book keeps. Assumes nothing.
use Rattle.std.specs.Prelude.{◌≡◌, ℕ, ◌≤◌, Bool, ◌&&◌, T, ◌==◌}
use Rattle.rules.specs.Limits.{max_labels, max_forms, Within}

-- a set of forms of one label
abbrev pub Forms : Type 0
Forms = ℕ → Bool

-- a set of forms that a label can have
abbrev pub OfLabel : Forms → Type 0
OfLabel P = (b : ℕ) → T (P b) → Within max_forms b

-- all that a book can be asked; labels and forms count from 1
pub record View : Type 0 where
  -- how many labels the panel has
  pub labels : ℕ
  -- how many forms a label has, live or struck; 0 where there is no such label
  pub size : ℕ → ℕ
  -- the forms of a label that are not struck
  pub live : ℕ → Forms
  -- permitted i a j b: form a of label i may stand with form b of label j
  pub permitted : ℕ → ℕ → ℕ → Forms

-- what holds of every book at every moment
pub record Orderly (v : View) : Type 0 where
  pub few : v.labels ≤ max_labels
  pub sized : (i : ℕ) → Within v.labels i → Within max_forms (v.size i)
  pub outside : (i : ℕ) → (Within v.labels i → ⊥) → v.size i ≡ 0
  pub living : (i a : ℕ) → T (v.live i a) → Within (v.size i) a
  pub both_live : (i a j b : ℕ) → T (v.permitted i a j b) → T (v.live i a) × T (v.live j b)
  pub either_order : (i a j b : ℕ) → v.permitted i a j b ≡ v.permitted j b i a
  -- on one label a live form stands with itself, and with no other
  pub on_one : (i a b : ℕ) → v.permitted i a i b ≡ (v.live i a && a == b)
