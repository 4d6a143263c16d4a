use Rattle.std.proofs.Common.{rules, ℕ, ◌≡◌, ◌+◌, ◌-◌, ◌^◌, ◌<◌, ◌≤◌, ◌↔◌, max, List, [], ◌∷◌, length, map, get_or, arith, pow_mono}
use lib.Count.{count_leading_zeros}
use Rattle.std.specs.List.{All, fold}
use Rattle.std.proofs.iter.runs.Made.{chains}
use Rattle.std.proofs.lemmas.Nat.{leading_length, pow-add}
use Rattle.std.proofs.lemmas.List.Elements.{All-cons, All-head, All-tail, All-from_get_or}
use Rattle.rules.proofs.Rows.{row_below, row_permits, permits_first, permits_second}
use Rattle.tour.specs.Drawing.{Room}
use Rattle.tour.proofs.grid.last_column.Goals as goal

-- the last form of a row, or 0
abbrev last_form : ℕ → ℕ
last_form row = 16 - count_leading_zeros 16 row

-- a row has no form past n
abbrev Ends : ℕ → ℕ → Type 0
Ends n row = last_form row ≤ n

ends_below : (row n : ℕ) → row < 2 ^ 16 → Ends n row ↔ (row < 2 ^ n)
ends_below row n small = let m = leading_length 16 row small in
    grind (arith, m.1, m.2, m.3, pow-add 2 n 1, pow_mono {i = m.0} {j = n}, pow_mono {i = n + 1} {j = m.0})

-- the greatest of a and the last forms of rows is up to n exactly where each of them is
greatest_within : (a : ℕ) (rows : List ℕ) (n : ℕ) → (fold max a (map last_form rows) ≤ n) ↔ ((a ≤ n) × All (Ends n) rows)
greatest_within a [] n = grind arith
greatest_within a (row ∷ rows) n =
    grind (arith, greatest_within (max a (last_form row)) rows n, All-cons (Ends n) row rows, All-head (Ends n) row rows, All-tail (Ends n) row rows)

room_within : (rows : List ℕ) (size n : ℕ) → ((k : ℕ) → k < length rows → get_or rows k 0 < 2 ^ 16) → (fold max size (map last_form rows) ≤ n) ↔ Room rows size n
room_within rows size n small = let within = greatest_within size rows n in (
  λ h. let each = within.0 h in record {
    forms = each.0;
    pairs = λ a b t. let first = permits_first rows a b t in
        (permits_second rows a b n ((ends_below _ n (small (a - 1) (omega arith))).0 (each.1 (a - 1) 0 (omega arith))) t).1;
  },
  λ room. within.1 (room.forms, All-from_get_or (Ends n) rows 0 (λ k h. (ends_below _ n (small k h)).1 (row_below _ n (λ b t. room.pairs (k + 1) b (row_permits rows k b t))))),
)

pub returns : goal.returns
returns c =
    let rows = c.args.lent.rows.now in
    let last : c.fold.result ≡ fold max c.args.lent.size (map last_form rows) = search (rules, chains) in
    let room : (n : ℕ) → (c.fold.result ≤ n) ↔ Room rows c.args.lent.size n = λ n. rw last (room_within rows c.args.lent.size n (search rules)) in
    record { enough = (room c.fold.result).0 (omega arith); least = λ n. (room n).1 }
