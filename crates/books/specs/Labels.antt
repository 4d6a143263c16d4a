-- Sizes and live forms of a frame: inside its labels, outside, and after a strike.
use Rattle.std.specs.Prelude.{◌≡◌, ℕ, ◌-◌, ◌<◌, ◌≤◌, true, false, not, ◌&&◌, T, ◌⊎◌, length, ◌==◌, nat_le, slice_index_or, slice_set, refl}
use Rattle.std.proofs.Common.{sym, subst, ◌∙◌, inl, inr, ⊎_elim, arith, get_or-set_same, get_or-set_other}
use Rattle.std.proofs.Math.Path.{ap}
use Rattle.std.proofs.lemmas.Bool.{and_left, and_right, and_from, le-leb, lt-leb, eq-eqb, ne_eqb, cond-true, cond-false, cases_lt, cases_eq}
use Rattle.rules.specs.Limits.{Within, max_forms, max_labels}
use Rattle.rules.specs.Tables.{in_row}
use Rattle.rules.proofs.Truth.{passes, fails}
use Rattle.rules.proofs.Rows.{in_row_first}
use Rattle.books.specs.declared.frame.Frame.{Frame}
use Rattle.books.specs.declared.label.Label.{Label}
use Rattle.books.specs.Sizing.{no_label}
use Rattle.books.specs.Changes.{is_form}
use Rattle.books.specs.Frames.{within, label_at, frame_size, frame_live}
use Rattle.books.specs.Bools.{and_true}

-- either in the range or not
pub in_range : (n k : ℕ) → Within n k ⊎ (Within n k → ⊥)
in_range n k =
    ⊎_elim (λ low. inr (λ w. omega (arith, w.0)))
    (λ low. ⊎_elim (λ past. inr (λ w. omega (arith, w.1))) (λ near. inl (low, near)) (cases_lt n k))
    (cases_lt k 1)

within_yes : (n k : ℕ) → Within n k → within n k ≡ true
within_yes n k w = and_from (nat_le 1 k) (nat_le k n) (le-leb 1 k w.0) (le-leb k n w.1)

within_no : (n k : ℕ) → (Within n k → ⊥) → within n k ≡ false
within_no n k out =
    ⊎_elim (λ low. and_left _ _ (lt-leb 1 k low))
    (λ low. ⊎_elim (λ past. and_right (nat_le 1 k) _ (lt-leb k n past)) (λ near. absurd (out (low, near))) (cases_lt n k))
    (cases_lt k 1)

module _ (f : Frame) where
  pub size_in : (i : ℕ) → Within f.count i → frame_size f i ≡ (label_at f i).size
  unfolding frame_size
  size_in i w = cond-true _ _ _ (within_yes f.count i w)

  pub size_out : (i : ℕ) → (Within f.count i → ⊥) → frame_size f i ≡ 0
  unfolding frame_size
  size_out i out = cond-false _ _ _ (within_no f.count i out)

  pub live_in : (i a : ℕ) → Within f.count i → frame_live f i a ≡ in_row (label_at f i).live a
  unfolding frame_live
  live_in i a w = ap (λ t. t && in_row (label_at f i).live a) (within_yes f.count i w)

  pub live_out : (i a : ℕ) → (Within f.count i → ⊥) → frame_live f i a ≡ false
  unfolding frame_live
  live_out i a out = and_left _ _ (within_no f.count i out)

  -- a label with a form is one of the panel
  pub live_label : (i a : ℕ) → T (frame_live f i a) → Within f.count i
  live_label i a t = ⊎_elim (λ w. w) (λ out. absurd (fails _ (live_out i a out) t)) (in_range f.count i)

  pub size_range : (i : ℕ) → Within f.count i → Within max_forms (frame_size f i)
  size_range i w = let k : i - 1 < f.count = omega (arith, w.0, w.1) in subst (Within max_forms) (sym (size_in i w)) (f.sized (i - 1) k, (label_at f i).sized)

  pub live_size : (i a : ℕ) → T (frame_live f i a) → Within (frame_size f i) a
  live_size i a t =
      let w = live_label i a t in
      let bit : T (in_row (label_at f i).live a) = subst T (live_in i a w) t in
      (in_row_first _ a bit, omega (arith, size_in i w, (label_at f i).living a bit))

  -- a live form is one that a label can have
  pub live_form : (i a : ℕ) → T (frame_live f i a) → Within max_forms a
  live_form i a t =
      let s = live_size i a t in
      let r = size_range i (live_label i a t) in
      (s.0, omega (arith, s.1, r.1))

  -- and its label one that a panel can have
  pub live_slot : (i a : ℕ) → T (frame_live f i a) → Within max_labels i
  live_slot i a t = let w = live_label i a t in (w.0, omega (arith, w.1, f.few))

-- a frame whose labels have all their forms live
pub all_live : (f : Frame) → ((i : ℕ) → Within f.count i → (a : ℕ) → in_row (label_at f i).live a ≡ within (label_at f i).size a)
    → (i a : ℕ) → Within (frame_size f i) a → T (frame_live f i a)
all_live f whole i a s =
    ⊎_elim
    (λ w. passes _ (live_in f i a w ∙ whole i w a ∙ within_yes _ a (s.0, omega (arith, s.1, size_in f i w))))
    (λ out. absurd (omega (arith, s.0, s.1, size_out f i out)))
    (in_range f.count i)

-- a frame of which label i has lost form a
module _ (f g : Frame) (i a : ℕ) (label : Label) (same : g.count ≡ f.count) (there : Within f.count i)
    (changed : g.labels ≡ slice_set f.labels (i - 1) label)
    (lost : (x : ℕ) → in_row label.live x ≡ (in_row (label_at f i).live x && not (x == a))) where
  here : label_at g i ≡ label
  here = let room : i - 1 < length f.labels = omega (arith, there.0, there.1, f.few, f.sixteen) in ap (λ l. slice_index_or l (i - 1) no_label) changed ∙ get_or-set_same f.labels (i - 1) label no_label room

  other : (k : ℕ) → 1 ≤ k → (k ≡ i → ⊥) → label_at g k ≡ label_at f k
  other k low ne = ap (λ l. slice_index_or l (k - 1) no_label) changed
      ∙ get_or-set_other f.labels (i - 1) (k - 1) label no_label (λ e. ne (omega (arith, low, there.0)))

  still_within : (k : ℕ) → Within f.count k → Within g.count k
  still_within k w = (w.0, omega (arith, w.1, same))

  was_within : (k : ℕ) → (Within f.count k → ⊥) → Within g.count k → ⊥
  was_within k out v = out (v.0, omega (arith, v.1, same))

  pub size_struck : label.size ≡ (label_at f i).size → (k : ℕ) → frame_size g k ≡ frame_size f k
  size_struck size k = ⊎_elim
      (λ w. size_in g k (still_within k w)
      ∙ ⊎_elim (λ e. ap (λ z. (label_at g z).size) e ∙ ap (λ l. l.size) here ∙ size ∙ ap (λ z. (label_at f z).size) (sym e)) (λ ne. ap (λ l. l.size) (other k w.0 ne)) (cases_eq k i)
      ∙ sym (size_in f k w))
      (λ out. size_out g k (was_within k out) ∙ sym (size_out f k out))
      (in_range f.count k)

  pub live_struck : (k x : ℕ) → frame_live g k x ≡ (frame_live f k x && not (is_form i a k x))
  live_struck k x = ⊎_elim
      (λ w. live_in g k x (still_within k w)
      ∙ ⊎_elim
      (λ e. ap (λ z. in_row (label_at g z).live x) e ∙ ap (λ l. in_row l.live x) here ∙ lost x
      ∙ sym (ap (λ t. t && not (is_form i a k x)) (live_in f k x w) ∙ ap (λ z. in_row (label_at f z).live x && not (z == i && x == a)) e
      ∙ ap (λ t. in_row (label_at f i).live x && not (t && x == a)) (eq-eqb i i refl)))
      (λ ne. ap (λ l. in_row l.live x) (other k w.0 ne)
      ∙ sym (ap (λ t. t && not (is_form i a k x)) (live_in f k x w) ∙ ap (λ t. in_row (label_at f k).live x && not (t && x == a)) (ne_eqb k i ne)
      ∙ and_true _))
      (cases_eq k i))
      (λ out. live_out g k x (was_within k out) ∙ sym (and_left _ _ (live_out f k x out)))
      (in_range f.count k)
