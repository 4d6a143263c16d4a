-- The rows of the compact book after a narrowing that it can hold.
use Rattle.std.proofs.Common.{◌≡◌, ℕ, ◌-◌, ◌&&◌, T, eqb, List, get_or, sym, refl, ap, ◌∙◌, ⊎_elim}
use Rattle.std.proofs.lemmas.Bool.{and_parts, and_from, eq-eqb, eqb-true, cases_Bool}
use Rattle.rules.specs.Tables.{in_row, permits}
use Rattle.rules.proofs.Rows.{permits_at}
use Rattle.rules.proofs.Truth.{is_true, passes, fails}
use Rattle.books.specs.declared.frame.Frame.{Frame}
use Rattle.books.specs.Changes.{Ordered}
use Rattle.books.specs.Frames.{frame_live, frame_cut, row_at}
use Rattle.books.specs.Compact.{CompactRows, Tailed, Tails, reads, Exact, compact_row, pairs, is_pair, Mending}
use Rattle.books.specs.Bools.{and_flip}
use Rattle.books.specs.Labels.{live_form}
use Rattle.books.specs.Stores.{Kept}
use Rattle.books.proofs.FirstTwo.{tailed_as}
use Rattle.books.proofs.Mended.{kept_as, row_permitted, mended_exact, mended_cell}

module _ (f : Frame) (i j : ℕ) (rows : List ℕ) (s t : CompactRows) (mending : Mending f rows s t (is_pair i j))
    (held : Tails (frame_live f i) (frame_live f j) (frame_cut f i j rows)) where
  -- the given rows of i and j, cut to live forms, have every live form from their second on
  rows_tailed : (p q x : ℕ) → T (is_pair i j p q) → T (frame_live f p x) → Tailed (frame_live f q) (λ b. frame_live f q b && in_row (get_or rows (x - 1) 0) b)
  rows_tailed p q x done lx =
      let e = and_parts (eqb p i) (eqb q j) (is_true _ done) in
      let row = in_row (get_or rows (x - 1) 0) in
      let cut-row : (b : ℕ) → frame_cut f i j rows x b ≡ (frame_live f q b && row b) = λ b.
      ap (λ z. z && (frame_live f i x && frame_live f j b)) (permits_at rows x b (live_form f p x lx).0)
      ∙ ap (λ z. row b && (frame_live f z x && frame_live f j b)) (sym (eqb-true p i e.0))
      ∙ ap (λ z. row b && (z && frame_live f j b)) (is_true _ lx)
      ∙ ap (λ z. row b && frame_live f z b) (sym (eqb-true q j e.1))
      ∙ and_flip (row b) (frame_live f q b) in
      tailed_as (frame_live f j) (frame_live f q) (frame_cut f i j rows x) (λ b. frame_live f q b && row b)
      (λ b. ap (λ z. frame_live f z b) (sym (eqb-true q j e.1))) cut-row
      (held x (passes _ (ap (λ z. frame_live f z x) (sym (eqb-true p i e.0)) ∙ is_true _ lx)))

  pub exact_narrowed : Exact f s → Exact f t
  exact_narrowed exact p q x o w =
      ⊎_elim (λ here. mended_exact f rows s t (is_pair i j) mending p q x o w (passes _ here) (rows_tailed p q x (passes _ here)))
      (λ apart.
      let row = (mending p q x o w).1 (fails _ apart) in
      kept_as _ _ (compact_row s (row_at p q x)) (compact_row t (row_at p q x)) (λ b. sym (row_permitted f s t p q x b o.1.0 row)) row (exact p q x o w))
      (cases_Bool (is_pair i j p q))

  pub cells_here : Ordered f.count i j → (x y : ℕ) → T (frame_live f i x) → T (frame_live f j y) → pairs t (row_at i j x) y ≡ (pairs s (row_at i j x) y && permits rows x y)
  cells_here o x y lx ly =
      let done = passes _ (and_from (eqb i i) (eqb j j) (eq-eqb i i refl) (eq-eqb j j refl)) in
      mended_cell f rows s t (is_pair i j) mending i j x o (live_form f i x lx) done (rows_tailed i j x done) y lx ly
      ∙ ap (λ z. pairs s (row_at i j x) y && z) (sym (permits_at rows x y (live_form f i x lx).0))

  pub cells_elsewhere : (p q : ℕ) → Ordered f.count p q → ((p ≡ i) × (q ≡ j) → ⊥) → Kept f (pairs s) (pairs t) p q
  cells_elsewhere p q o ne x y lx ly =
      ap (λ r. reads r.first r.second y) ((mending p q x o (live_form f p x lx)).1
      (λ d. let e = and_parts (eqb p i) (eqb q j) (is_true _ d) in ne (eqb-true p i e.0, eqb-true q j e.1)))
