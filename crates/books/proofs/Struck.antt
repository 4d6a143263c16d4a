-- The rows of the compact book after a strike: mended where the label stands, the same elsewhere.
use Rattle.std.proofs.Common.{◌≡◌, ℕ, false, not, ◌&&◌, ◌||◌, eqb, sym, ap, ◌∙◌, ⊎_elim, arith}
use Rattle.std.proofs.lemmas.Bool.{or_parts, cases_Bool}
use Rattle.rules.proofs.Truth.{passes, fails}
use Rattle.books.specs.declared.frame.Frame.{Frame}
use Rattle.books.specs.Changes.{Ordered}
use Rattle.books.specs.Frames.{frame_live, linked, row_at, FrameStruck}
use Rattle.books.specs.Compact.{CompactRows, reads, Exact, compact_row, pairs, Mending, uncut}
use Rattle.books.specs.Bools.{and_true}
use Rattle.books.specs.Labels.{live_form}
use Rattle.books.specs.Stores.{Unmoved}
use Rattle.books.proofs.Mended.{kept_as, row_permitted, mended_exact, mended_cell}
use Rattle.books.proofs.Uncut.{all_tailed, all_there}

module _ (g : Frame) (i : ℕ) (s t : CompactRows) (mending : Mending g uncut s t (λ p q. eqb q i || eqb p i)) where
  -- the live forms of another label stayed
  same_live : (f : Frame) (a : ℕ) → FrameStruck f i a g → (k x : ℕ) → eqb k i ≡ false → frame_live g k x ≡ frame_live f k x
  same_live f a struck k x other = struck.live k x ∙ ap (λ z. frame_live f k x && not (z && eqb x a)) other ∙ and_true (frame_live f k x)

  pub exact_struck : (f : Frame) (a : ℕ) → FrameStruck f i a g → Exact f s → Exact g t
  exact_struck f a struck exact p q x o w =
      ⊎_elim (λ touched. mended_exact g uncut s t (λ k l. eqb l i || eqb k i) mending p q x o w (passes _ touched) (all_tailed g p q x))
      (λ apart.
      let e = or_parts (eqb q i) (eqb p i) apart in
      let row = (mending p q x o w).1 (fails _ apart) in
      let before : Ordered f.count p q = (o.0, (o.1.0, omega (arith, o.1.1, struck.labels))) in
      kept_as _ _ (compact_row s (row_at p q x)) (compact_row t (row_at p q x))
      (λ b. ap (λ z. (z && frame_live f q b) && linked (pairs s) p x q b) (sym (same_live f a struck p x e.1))
      ∙ ap (λ z. (frame_live g p x && z) && linked (pairs s) p x q b) (sym (same_live f a struck q b e.0))
      ∙ sym (row_permitted g s t p q x b o.1.0 row))
      row (exact p q x before w))
      (cases_Bool (eqb q i || eqb p i))

  pub cells_struck : Unmoved g (pairs s) (pairs t)
  cells_struck p q o x y lx ly =
      ⊎_elim
      (λ touched. mended_cell g uncut s t (λ k l. eqb l i || eqb k i) mending p q x o (live_form g p x lx) (passes _ touched) (all_tailed g p q x) y lx ly
      ∙ ap (λ z. pairs s (row_at p q x) y && z) (all_there x y (live_form g p x lx) (live_form g q y ly)) ∙ and_true (pairs s (row_at p q x) y))
      (λ apart. ap (λ r. reads r.first r.second y) ((mending p q x o (live_form g p x lx)).1 (fails _ apart)))
      (cases_Bool (eqb q i || eqb p i))
