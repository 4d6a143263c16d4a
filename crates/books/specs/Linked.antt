-- The view of a book by its labels and rows: its limits, and what an opening, a strike and a narrowing make of it.
use Rattle.std.specs.Prelude.{◌≡◌, ℕ, ◌<◌, Bool, true, false, ◌&&◌, T, List, ◌==◌, refl}
use Rattle.std.proofs.Common.{sym, ap, subst, ◌∙◌, ⊎_elim, arith}
use Rattle.std.proofs.lemmas.Bool.{eqb-true, eq-eqb, ne_eqb, lt-ltb, le-ltb, cond-true, cond-false, cases_order}
use Rattle.std.proofs.lemmas.Bool.Decides.{nat_tests}
use Rattle.books.specs.declared.frame.Frame.{Frame}
use Rattle.books.specs.Views.{Orderly}
use Rattle.rules.specs.Tables.{Table}
use Rattle.books.specs.Changes.{Opened, Struck, Narrowed, Ordered}
use Rattle.books.specs.Frames.{frame_live, linked, row_at, book_view, FrameOpened, FrameStruck}
use Rattle.books.specs.Stores.{Whole, Kept, Unmoved, RowsNarrowed}
use Rattle.books.specs.Bools.{and_assoc, and_flip, both_from, both_in, gate, left_from, still}
use Rattle.books.specs.Labels.{size_out, size_range, live_size, live_label}

module _ (cell : ℕ → ℕ → Bool) where
  pub linked_one : (i a b : ℕ) → linked cell i a i b ≡ (a == b)
  unfolding linked
  linked_one i a b = cond-true _ _ _ (eq-eqb i i refl)

  pub linked_up : (i a j b : ℕ) → i < j → linked cell i a j b ≡ cell (row_at i j a) b
  unfolding linked
  linked_up i a j b h = cond-false _ _ _ (ne_eqb i j (λ e. omega arith)) ∙ cond-true _ _ _ (lt-ltb i j h)

  pub linked_down : (i a j b : ℕ) → j < i → linked cell i a j b ≡ cell (row_at j i b) a
  unfolding linked
  linked_down i a j b h = cond-false _ _ _ (ne_eqb i j (λ e. omega arith)) ∙ cond-false _ _ _ (le-ltb i j (omega arith))

pub eqb_flip : (a b : ℕ) → (a == b) ≡ (b == a)
eqb_flip a b = grind (arith, nat_tests)

linked_flip : (cell : ℕ → ℕ → Bool) (i a j b : ℕ) → linked cell i a j b ≡ linked cell j b i a
linked_flip cell i a j b =
    ⊎_elim (λ e. subst (λ x. linked cell i a x b ≡ linked cell x b i a) e (linked_one cell i a b ∙ eqb_flip a b ∙ sym (linked_one cell i b a)))
    (⊎_elim (λ h. linked_up cell i a j b h ∙ sym (linked_down cell j b i a h)) (λ h. linked_down cell i a j b h ∙ sym (linked_up cell j b i a h)))
    (cases_order i j)

cut_same : (x y e : Bool) → (e ≡ true → x ≡ y) → ((x && y) && e) ≡ (x && e)
cut_same true true e h = refl
cut_same true false true h = sym (h refl)
cut_same true false false h = refl
cut_same false y e h = refl

pub orderly : (f : Frame) (cell : ℕ → ℕ → Bool) → Orderly (book_view f cell)
orderly f cell = record {
  few = f.few;
  sized = size_range f;
  outside = size_out f;
  living = live_size f;
  both_live = λ i a j b. both_from (frame_live f i a) (frame_live f j b) (linked cell i a j b);
  either_order = λ i a j b. ap (λ t. t && linked cell i a j b) (and_flip (frame_live f i a) (frame_live f j b)) ∙ ap (λ t. (frame_live f j b && frame_live f i a) && t) (linked_flip cell i a j b);
  on_one = λ i a b. ap (λ t. (frame_live f i a && frame_live f i b) && t) (linked_one cell i a b) ∙ cut_same (frame_live f i a) (frame_live f i b) (a == b) (λ e. ap (frame_live f i) (eqb-true a b e));
}

-- rows before and after a change, that agree where both forms are live
module _ (f : Frame) (before after : ℕ → ℕ → Bool) where
  linked_same : (k x l y : ℕ) → (k < l → Kept f before after k l) → (l < k → Kept f before after l k) → T (frame_live f k x) → T (frame_live f l y) → linked after k x l y ≡ linked before k x l y
  linked_same k x l y up down lx ly =
      ⊎_elim (λ e. subst (λ z. linked after k x z y ≡ linked before k x z y) e (linked_one after k x y ∙ sym (linked_one before k x y)))
      (⊎_elim
      (λ h. linked_up after k x l y h ∙ up h x y lx ly ∙ sym (linked_up before k x l y h))
      (λ h. linked_down after k x l y h ∙ down h y x ly lx ∙ sym (linked_down before k x l y h)))
      (cases_order k l)

-- an opening: every row has every live form
pub opened : (sizes : List ℕ) (f : Frame) (cell : ℕ → ℕ → Bool) → FrameOpened sizes f
    → Whole f cell → Opened sizes (book_view f cell)
opened sizes f cell o full = record {
  labels = o.labels;
  size = o.size;
  live = o.live;
  permitted = λ i a j b ne la lb.
      let wi = live_label f i a la in
      let wj = live_label f j b lb in
      ⊎_elim (λ e. absurd (ne e)) (⊎_elim
      (λ h. both_in _ _ _ la lb (subst T (sym (linked_up cell i a j b h)) (full i j (wi.0, (h, wj.1)) a b la lb)))
      (λ h. both_in _ _ _ la lb (subst T (sym (linked_down cell i a j b h)) (full j i (wj.0, (h, wi.1)) b a lb la))))
      (cases_order i j);
}

-- a strike: rows keep the forms that are still live
pub struck : (f g : Frame) (i a : ℕ) (before after : ℕ → ℕ → Bool) → FrameStruck f i a g
    → Unmoved g before after → Struck (book_view f before) i a (book_view g after)
struck f g i a before after s kept = record {
  labels = s.labels;
  size = s.size;
  live = s.live;
  permitted = λ k x l y. still (frame_live f k x) (frame_live f l y) (frame_live g k x) (frame_live g l y) _ _
      (λ t. left_from _ _ (subst T (s.live k x) t)) (λ t. left_from _ _ (subst T (s.live l y) t))
      (λ lx ly. let wk = live_label g k x lx in let wl = live_label g l y ly in
      linked_same g before after k x l y (λ h. kept k l (wk.0, (h, wl.1))) (λ h. kept l k (wl.0, (h, wk.1))) lx ly);
}

-- a narrowing: the rows of i and j lose the forms that the table does not permit, all others stay
pub narrowed : (f : Frame) (i j : ℕ) (t : Table) (before after : ℕ → ℕ → Bool) → Ordered f.count i j
    → RowsNarrowed f i j t before after → Narrowed (book_view f before) i j t (book_view f after)
narrowed f i j t before after o n = record {
  labels = refl;
  size = λ k. refl;
  live = λ k x. refl;
  here = λ x y. gate (frame_live f i x) (frame_live f j y) _ _ (λ lx ly.
      linked_up after i x j y o.1.0 ∙ n.inside x y lx ly ∙ ap (λ c. c && t x y) (sym (linked_up before i x j y o.1.0)))
      ∙ sym (and_assoc (frame_live f i x && frame_live f j y) (linked before i x j y) (t x y));
  elsewhere = λ k x l y ne en. gate (frame_live f k x) (frame_live f l y) _ _ (λ lx ly.
      let wk = live_label f k x lx in
      let wl = live_label f l y ly in
      linked_same f before after k x l y (λ h. n.outside k l (wk.0, (h, wl.1)) ne) (λ h. n.outside l k (wl.0, (h, wk.1)) (λ p. en (p.1, p.0))) lx ly);
}
