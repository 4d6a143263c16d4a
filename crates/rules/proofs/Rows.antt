-- Which forms a row has and which pairs rows permit, read off the bits.
use Rattle.std.proofs.Common.{◌≡◌, ℕ, zero, suc, ◌+◌, ◌-◌, ◌*◌, ◌/◌, ◌%◌, ◌^◌, ◌<◌, ◌≤◌, false, T, eqb, leb, List, length, get_or, ◌∙◌, arith, pow_mono}
use native.Mathlib.Decide.{dec_lt}
use native.Mathlib.Nat.{div-eq_of_lt, two-pow-succ}
use Rattle.std.proofs.lemmas.Nat.{pow_pos, pow-add, leading_top, le-div, div_below}
use Rattle.std.proofs.lemmas.List.{get_or_past}
use Rattle.std.proofs.lemmas.Bool.{and_left, and_parts, le-leb, lt-leb, leb-true}
use Rattle.rules.specs.Limits.{Within, max_forms}
use Rattle.rules.specs.Tables.{in_row, permits, IsTable}
use Rattle.rules.proofs.Truth.{is_true, passes, fails}

pub in_row_zero : (row b : ℕ) → b ≡ 0 → in_row row b ≡ false
unfolding in_row
in_row_zero row b e = and_left _ _ (lt-leb 1 b (omega arith))

pub in_row_at : (row b : ℕ) → 1 ≤ b → in_row row b ≡ eqb (row / 2 ^ (b - 1) % 2) 1
unfolding in_row
in_row_at row b h = rw (le-leb 1 b h)

-- a number below 2 to the power c has no form past c
pub in_row_past : (row b c : ℕ) → row < 2 ^ c → c < b → in_row row b ≡ false
in_row_past row b c h l =
    let m : c ≤ b - 1 = omega arith in
    let s : row < 2 ^ (b - 1) = omega (arith, pow_mono {i = c} {j = b - 1} m) in
    in_row_at row b (omega arith) ∙ rw (div-eq_of_lt {n = row} {m = 2 ^ (b - 1)} s)

pub in_row_first : (row b : ℕ) → T (in_row row b) → 1 ≤ b
unfolding in_row
in_row_first row b h = leb-true 1 b (and_parts (leb 1 b) _ (is_true _ h)).0

pub in_row_within : (row b c : ℕ) → row < 2 ^ c → T (in_row row b) → Within c b
in_row_within row b c small h = (
  in_row_first row b h,
  elim (dec_lt c b) [ yes past ↦ absurd (fails _ (in_row_past row b c small past) h) | no near ↦ omega arith ],
)

below_power : (n : ℕ) → n < 2 ^ n
below_power zero = omega arith
below_power (suc n) = omega (arith, below_power n, two-pow-succ n, pow_pos n)

-- the highest form of a row that is not 0
top_form : (row : ℕ) → 0 < row → (j : ℕ) × (T (in_row row (j + 1)) × (row < 2 ^ (j + 1)))
top_form row pos =
    let e = leading_top row row pos (below_power row) in
    let j = e.0 in
    let back : j + 1 - 1 ≡ j = omega arith in
    let up : 2 ^ (j + 1) ≡ 2 ^ j * 2 = pow-add 2 j 1 in
    let low : 1 * 2 ^ j ≤ row = omega (arith, e.2) in
    let high : row < 2 * 2 ^ j = omega (arith, e.3, up) in
    let one : row / 2 ^ j ≡ 1 = omega (arith, le-div 1 row (2 ^ j) (pow_pos j) low, div_below row (2 ^ j) 2 (pow_pos j) high) in
    (j, (passes _ (in_row_at row (j + 1) (omega arith) ∙ rw (back, one)), omega (arith, up, high)))

-- a row with no form past c is below 2 to the power c
pub row_below : (row c : ℕ) → ((b : ℕ) → T (in_row row b) → b ≤ c) → row < 2 ^ c
row_below row c within = elim (dec_lt 0 row) [
  | yes pos ↦ let t = top_form row pos in
      omega (arith, t.1.1, pow_mono {i = t.0 + 1} {j = c} (within (t.0 + 1) t.1.0))
  | no none ↦ omega (arith, pow_pos c)
]

pub permits_zero : (rows : List ℕ) (a b : ℕ) → a ≡ 0 → permits rows a b ≡ false
unfolding permits
permits_zero rows a b e = and_left _ _ (lt-leb 1 a (omega arith))

pub permits_at : (rows : List ℕ) (a b : ℕ) → 1 ≤ a → permits rows a b ≡ in_row (get_or rows (a - 1) 0) b
unfolding permits
permits_at rows a b h = rw (le-leb 1 a h)

pub permits_past : (rows : List ℕ) (a b : ℕ) → length rows < a → permits rows a b ≡ false
permits_past rows a b h =
    permits_at rows a b (omega arith) ∙ rw (get_or_past rows (a - 1) 0 (omega arith))
    (elim (dec_lt 0 b) [ yes pos ↦ in_row_past 0 b 0 (pow_pos 0) pos | no none ↦ in_row_zero 0 b (omega arith) ])

-- a permitted pair, read off its row
pub permits_row : (rows : List ℕ) (a b : ℕ) → T (permits rows a b) → (1 ≤ a) × T (in_row (get_or rows (a - 1) 0) b)
unfolding permits
permits_row rows a b h =
    let p = and_parts (leb 1 a) (in_row (get_or rows (a - 1) 0) b) (is_true _ h) in
    (leb-true 1 a p.0, passes _ p.1)

-- forms of a permitted pair count from 1, the first up to the number of rows
pub permits_first : (rows : List ℕ) (a b : ℕ) → T (permits rows a b) → Within (length rows) a
permits_first rows a b h =
    let low = (permits_row rows a b h).0 in
    (low, elim (dec_lt (length rows) a) [ yes past ↦ absurd (fails _ (permits_past rows a b past) h) | no near ↦ omega arith ])

-- and the second up to c, where its row is below 2 to the power c
pub permits_second : (rows : List ℕ) (a b c : ℕ) → get_or rows (a - 1) 0 < 2 ^ c → T (permits rows a b) → Within c b
permits_second rows a b c small h = in_row_within _ b c small (permits_row rows a b h).1

-- and the other way round, from the place of the row
pub row_permits : (rows : List ℕ) (k b : ℕ) → T (in_row (get_or rows k 0) b) → T (permits rows (k + 1) b)
row_permits rows k b h =
    let back : k + 1 - 1 ≡ k = omega arith in
    passes _ (permits_at rows (k + 1) b (omega arith) ∙ rw back (is_true _ h))

-- the rows of a table are below 2 to the power of its size
pub table_row : (rows : List ℕ) (size k : ℕ) → IsTable rows size → get_or rows k 0 < 2 ^ size
table_row rows size k t = row_below (get_or rows k 0) size (λ b h. t.inside (k + 1) b (row_permits rows k b h))

-- a row whose bits from form c + 1 on are none is below 2 to the power c
pub row_small : (row c : ℕ) → row / 2 ^ c ≡ 0 → row < 2 ^ c
row_small row c e = elim (dec_lt row (2 ^ c)) [
  | yes small ↦ small
  | no large ↦ absurd (omega (arith, le-div 1 row (2 ^ c) (pow_pos c) (omega arith)))
]

-- each pair of a table is of forms that a label can have, so that loops over these miss none
pub table_bounded : (rows : List ℕ) (size : ℕ) → IsTable rows size → (a b : ℕ) → T (permits rows a b) → Within max_forms a × Within max_forms b
table_bounded rows size t a b h =
    let first = permits_first rows a b h in
    let second = in_row_first (get_or rows (a - 1) 0) b (permits_row rows a b h).1 in
    ((first.0, omega (arith, t.height.1, first.1)), (second, omega (arith, t.width.1, t.inside a b h)))
