-- What mending does to the rows of the compact book, table by table.
use Rattle.std.proofs.Common.{◌≡◌, ℕ, ◌-◌, ◌<◌, Bool, true, false, ◌&&◌, ◌||◌, T, List, get_or, sym, refl, ap, ◌∙◌, subst, ⊎_elim}
use Rattle.std.proofs.lemmas.Bool.{or_left, or_right, cases_Bool}
use Rattle.rules.specs.Limits.{Within, max_forms}
use Rattle.rules.specs.Tables.{in_row}
use Rattle.rules.proofs.Truth.{is_true, passes, fails}
use Rattle.books.specs.declared.frame.Frame.{Frame}
use Rattle.books.specs.declared.compact_row.CompactRow.{CompactRow}
use Rattle.books.specs.Views.{Forms}
use Rattle.books.specs.Changes.{Ordered}
use Rattle.books.specs.Frames.{frame_live, linked, row_at, book_view}
use Rattle.books.specs.Compact.{CompactRows, Tailed, reads, KeptIn, compact_row, pairs, Mending}
use Rattle.books.specs.Bools.{and_turn, left_from, under}
use Rattle.books.specs.Labels.{live_form}
use Rattle.books.specs.Linked.{linked_up}
use Rattle.books.proofs.FirstTwo.{first_two_as, reads_tailed, stands, tailed_as}

pub kept_as : (t u : Forms) (r r' : CompactRow) → ((b : ℕ) → t b ≡ u b) → r' ≡ r → KeptIn t r → KeptIn u r'
kept_as t u r r' e same h = subst (KeptIn u) (sym same) (first_two_as t u r.first r.second e h)

-- equal rows permit the same pairs
pub row_permitted : (f : Frame) (s t : CompactRows) (p q x b : ℕ) → p < q → compact_row t (row_at p q x) ≡ compact_row s (row_at p q x)
    → (book_view f (pairs t)).permitted p x q b ≡ (book_view f (pairs s)).permitted p x q b
row_permitted f s t p q x b h e =
    ap (λ l. (frame_live f p x && frame_live f q b) && l)
    (linked_up (pairs t) p x q b h ∙ ap (λ r. reads r.first r.second b) e ∙ sym (linked_up (pairs s) p x q b h))

module _ (f : Frame) (given : List ℕ) where
  pub mending_none : (s : CompactRows) → Mending f given s s (λ p q. false)
  mending_none s p q x o w = ((λ t. absurd t), (λ _. refl))

  pub mending_as : (s t : CompactRows) (d d' : ℕ → ℕ → Bool) → ((p q : ℕ) → Ordered f.count p q → d p q ≡ d' p q) → Mending f given s t d → Mending f given s t d'
  mending_as s t d d' e m p q x o w =
      let both = m p q x o w in
      ((λ h. both.0 (subst T (sym (e p q o)) h)), (λ h. both.1 (λ k. h (subst T (e p q o) k))))

  -- one mending after another, of different tables
  pub mending_join : (s m t : CompactRows) (d e : ℕ → ℕ → Bool) → ((p q : ℕ) → Ordered f.count p q → T (d p q) → T (e p q) → ⊥)
      → Mending f given s m d → Mending f given m t e → Mending f given s t (λ p q. d p q || e p q)
  mending_join s m t d e apart one two p q x o w =
      let before = one p q x o w in
      let after = two p q x o w in (
        (λ h. ⊎_elim
            (λ first. let td = passes _ first in
            kept_as _ _ (compact_row m (row_at p q x)) (compact_row t (row_at p q x)) (λ b. refl) (after.1 (apart p q o td)) (before.0 td))
            (λ out. let te : T (e p q) = subst (λ z. T (z || e p q)) out h in
            kept_as _ _ (compact_row t (row_at p q x)) (compact_row t (row_at p q x))
            (λ b. ap (λ z. z && in_row (get_or given (x - 1) 0) b) (row_permitted f s m p q x b o.1.0 (before.1 (fails _ out)))) refl (after.0 te))
            (cases_Bool (d p q))),
        (λ h. after.1 (λ k. h (passes _ (or_right (d p q) (e p q) (is_true _ k)))) ∙ before.1 (λ k. h (passes _ (or_left (d p q) (e p q) (is_true _ k))))),
      )

-- a mended table, where each given row has every live form from its second on
module _ (f : Frame) (given : List ℕ) (s t : CompactRows) (d : ℕ → ℕ → Bool) (mending : Mending f given s t d) (p q x : ℕ) (o : Ordered f.count p q) (w : Within max_forms x) (done : T (d p q))
    (tailed : T (frame_live f p x) → Tailed (frame_live f q) (λ b. frame_live f q b && in_row (get_or given (x - 1) 0) b)) where
  abbrev Row : Forms
  Row = in_row (get_or given (x - 1) 0)

  abbrev Was : Forms
  Was = pairs s (row_at p q x)

  row_of_live : frame_live f p x ≡ true → (b : ℕ) → (book_view f (pairs t)).permitted p x q b ≡ ((book_view f (pairs s)).permitted p x q b && Row b)
  row_of_live lives b =
      let M = frame_live f q in
      let kept = (mending p q x o w).0 done in
      let before : (y : ℕ) → ((book_view f (pairs s)).permitted p x q y && Row y) ≡ ((M y && Was y) && Row y) = λ y.
      ap (λ l. (((frame_live f p x) && M y) && l) && Row y) (linked_up (pairs s) p x q y o.1.0) ∙ ap (λ l. ((l && M y) && Was y) && Row y) lives in
      let is : KeptIn (λ y. (M y && Was y) && Row y) (compact_row t (row_at p q x)) = kept_as _ _ (compact_row t (row_at p q x)) (compact_row t (row_at p q x)) before refl kept in
      let held : Tailed M (λ y. (M y && Was y) && Row y) =
      tailed_as M M (λ y. (M y && Row y) && Was y) (λ y. (M y && Was y) && Row y) (λ y. refl) (λ y. and_turn (M y) (Was y) (Row y))
      (reads_tailed M (λ y. M y && Row y) (compact_row s (row_at p q x)).first (compact_row s (row_at p q x)).second (tailed (passes _ lives))) in
      ap (λ l. (l && M b) && linked (pairs t) p x q b) lives ∙ ap (λ l. M b && l) (linked_up (pairs t) p x q b o.1.0)
      ∙ stands M (λ y. (M y && Was y) && Row y) (live_form f q) (compact_row t (row_at p q x)).first (compact_row t (row_at p q x)).second is
      (λ y h. left_from (M y) (Was y) (left_from (M y && Was y) (Row y) h)) held b
      ∙ sym (before b)

  pub mended_row : (b : ℕ) → (book_view f (pairs t)).permitted p x q b ≡ ((book_view f (pairs s)).permitted p x q b && Row b)
  mended_row b = ⊎_elim (λ lives. row_of_live lives b)
      (λ out. ap (λ l. (l && frame_live f q b) && linked (pairs t) p x q b) out ∙ sym (ap (λ l. ((l && frame_live f q b) && linked (pairs s) p x q b) && Row b) out))
      (cases_Bool (frame_live f p x))

  -- the stored numbers are exact
  pub mended_exact : KeptIn ((book_view f (pairs t)).permitted p x q) (compact_row t (row_at p q x))
  mended_exact = kept_as _ _ (compact_row t (row_at p q x)) (compact_row t (row_at p q x)) (λ b. sym (mended_row b)) refl ((mending p q x o w).0 done)

  -- and read as the view says
  pub mended_cell : (y : ℕ) → T (frame_live f p x) → T (frame_live f q y) → pairs t (row_at p q x) y ≡ (pairs s (row_at p q x) y && Row y)
  mended_cell y lx ly =
      sym (linked_up (pairs t) p x q y o.1.0)
      ∙ under (frame_live f p x) (frame_live f q y) (linked (pairs t) p x q y) (linked (pairs s) p x q y) (Row y) lx ly (mended_row y)
      ∙ ap (λ l. l && Row y) (linked_up (pairs s) p x q y o.1.0)
