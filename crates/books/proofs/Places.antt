-- Where rows stand: inside the store, and those of different labels apart.
use Rattle.std.proofs.Common.{◌≡◌, ℕ, ◌+◌, ◌-◌, ◌*◌, ◌<◌, ◌≤◌, ◌⊎◌, sym, ap, ◌∙◌, inl, inr, ⊎_elim, mul_comm, add-mul, arith}
use Rattle.std.proofs.lemmas.Nat.{mul-le}
use Rattle.std.proofs.lemmas.Bool.{cases_order}
use Rattle.rules.specs.Limits.{max_labels, max_forms, Within}
use Rattle.books.specs.Changes.{Ordered}
use Rattle.books.specs.Frames.{table_at, row_at, all_rows}

pub table_room : (i j : ℕ) → Ordered max_labels i j → table_at i j + 16 ≤ all_rows
unfolding table_at
table_room i j o =
    let p : (j - 1) * (j - 2) ≤ 15 * 14 = mul-le (j - 1) (j - 2) 15 14 (omega (arith, o.1.1)) (omega (arith, o.1.1)) in
    omega (arith, o.0, o.1.0, o.1.1)

-- the tables of a second label stand before those of a later one
before : (i j k l : ℕ) → 1 ≤ i → i < j → j < l → table_at i j + 16 ≤ table_at k l
unfolding table_at
before i j k l hi hj hl =
    let m = j - 2 in
    let a : (m + 1) * m ≡ (j - 1) * (j - 2) = ap (λ y. y * m) (omega arith) in
    let b : (m + 2) * (m + 1) ≡ (m + 1) * m + 2 * (m + 1) = add-mul m 2 (m + 1) ∙ ap (λ x. x + 2 * (m + 1)) (mul_comm m (m + 1)) in
    let c : (m + 2) * (m + 1) ≤ (l - 1) * (l - 2) = mul-le (m + 2) (m + 1) (l - 1) (l - 2) (omega arith) (omega arith) in
    omega arith

table_apart : (i j k l : ℕ) → 1 ≤ i → i < j → 1 ≤ k → k < l → ((k ≡ i) × (l ≡ j) → ⊥) → (table_at k l + 16 ≤ table_at i j) ⊎ (table_at i j + 16 ≤ table_at k l)
unfolding table_at
table_apart i j k l hi hj hk hl ne =
    ⊎_elim
    (λ e. let s : (j - 1) * (j - 2) ≡ (l - 1) * (l - 2) = ap (λ y. (y - 1) * (y - 2)) e in
    ⊎_elim (λ f. absurd (ne (sym f, sym e))) (⊎_elim (λ h. inr (omega arith)) (λ h. inl (omega arith))) (cases_order i k))
    (⊎_elim (λ h. inr (before i j k l hi hj h)) (λ h. inl (before k l i j hk hl h)))
    (cases_order j l)

-- a row of other labels stands outside the sixteen rows of i and j
pub row_apart : (i j k l x : ℕ) → 1 ≤ i → i < j → 1 ≤ k → k < l → Within max_forms x → ((k ≡ i) × (l ≡ j) → ⊥)
    → (row_at k l x < table_at i j) ⊎ (table_at i j + 16 ≤ row_at k l x)
row_apart i j k l x hi hj hk hl w ne =
    ⊎_elim (λ low. inl (omega (arith, w.0, w.1))) (λ high. inr (omega arith)) (table_apart i j k l hi hj hk hl ne)
