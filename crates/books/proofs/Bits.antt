-- Which forms a row has after bits were joined, cleared or shifted.
use Rattle.std.proofs.Common.{◌≡◌, ℕ, ◌+◌, ◌-◌, ◌*◌, ◌/◌, ◌%◌, ◌^◌, ◌<◌, ◌≤◌, Bool, true, false, not, ◌&&◌, ◌||◌, T, eqb, leb, ◌⊎◌, sym, refl, ap, ◌∙◌, subst, inl, inr, ⊎_elim, add-mul, arith}
use lib.Bits.{bit_and, bit_or, bit_xor}
use Rattle.std.proofs.lemmas.Bool.{eq-eqb, ne_eqb, le-leb, lt-leb, and_left, and_right, cases_order, cases_lt}
use Rattle.std.proofs.lemmas.Nat.{pow_pos, pow-add, shl-shr, pow_below, one_shl, shr_high, and_shr, or_shr, xor_shr, and_mod, or_mod, xor_mod}
use Rattle.rules.specs.Limits.{Within}
use Rattle.rules.specs.Tables.{in_row}
use Rattle.rules.proofs.Rows.{in_row_zero, in_row_at, in_row_past, row_below}

-- a binary digit
digit : (n : ℕ) → (n % 2 ≡ 0) ⊎ (n % 2 ≡ 1)
digit n = ⊎_elim (λ h. inl (omega arith)) (λ h. inr (omega arith)) (cases_lt (n % 2) 1)

digits : (P : ℕ → ℕ → Type 0) → P 0 0 → P 0 1 → P 1 0 → P 1 1 → (p q : ℕ) → (p ≡ 0) ⊎ (p ≡ 1) → (q ≡ 0) ⊎ (q ≡ 1) → P p q
digits P w x y z p q (inl e) (inl f) = rw (e, f) w
digits P w x y z p q (inl e) (inr f) = rw (e, f) x
digits P w x y z p q (inr e) (inl f) = rw (e, f) y
digits P w x y z p q (inr e) (inr f) = rw (e, f) z

-- an operation on rows works on each digit: op on numbers, test on the digits
module _ (op : ℕ → ℕ → ℕ) (test : Bool → Bool → Bool) (none : test false false ≡ false)
    (shr : (m n k : ℕ) → op m n / 2 ^ k ≡ op (m / 2 ^ k) (n / 2 ^ k)) (low : (m n k : ℕ) → op m n % 2 ^ k ≡ op (m % 2 ^ k) (n % 2 ^ k))
    (each : (p q : ℕ) → (p ≡ 0) ⊎ (p ≡ 1) → (q ≡ 0) ⊎ (q ≡ 1) → eqb (op p q) 1 ≡ test (eqb p 1) (eqb q 1)) where
  in_row_by : (m n b : ℕ) → in_row (op m n) b ≡ test (in_row m b) (in_row n b)
  in_row_by m n b =
      ⊎_elim (λ h. let z : b ≡ 0 = omega arith in in_row_zero (op m n) b z ∙ rw (in_row_zero m b z, in_row_zero n b z) (sym none))
      (λ h. let k = b - 1 in
      in_row_at (op m n) b h ∙ ap (λ x. eqb (x % 2) 1) (shr m n k) ∙ ap (λ x. eqb x 1) (low (m / 2 ^ k) (n / 2 ^ k) 1)
      ∙ each (m / 2 ^ k % 2) (n / 2 ^ k % 2) (digit (m / 2 ^ k)) (digit (n / 2 ^ k)) ∙ rw (in_row_at m b h, in_row_at n b h) refl)
      (cases_lt b 1)

pub in_row_and : (m n b : ℕ) → in_row (bit_and m n) b ≡ (in_row m b && in_row n b)
in_row_and = in_row_by bit_and ◌&&◌ refl and_shr and_mod (digits (λ p q. eqb (bit_and p q) 1 ≡ (eqb p 1 && eqb q 1)) refl refl refl refl)

in_row_or : (m n b : ℕ) → in_row (bit_or m n) b ≡ (in_row m b || in_row n b)
in_row_or = in_row_by bit_or ◌||◌ refl or_shr or_mod (digits (λ p q. eqb (bit_or p q) 1 ≡ (eqb p 1 || eqb q 1)) refl refl refl refl)

pub in_row_without : (m n b : ℕ) → in_row (bit_xor m (bit_and m n)) b ≡ (in_row m b && not (in_row n b))
in_row_without = in_row_by (λ m n. bit_xor m (bit_and m n)) (λ x y. x && not y) refl
    (λ m n k. xor_shr m (bit_and m n) k ∙ ap (bit_xor (m / 2 ^ k)) (and_shr m n k))
    (λ m n k. xor_mod m (bit_and m n) k ∙ ap (bit_xor (m % 2 ^ k)) (and_mod m n k))
    (digits (λ p q. eqb (bit_xor p (bit_and p q)) 1 ≡ (eqb p 1 && not (eqb q 1))) refl refl refl refl)

-- 0 is the row of no forms
pub in_row_none : (b : ℕ) → in_row 0 b ≡ false
in_row_none b = ⊎_elim (λ h. in_row_zero 0 b (omega arith)) (λ h. in_row_past 0 b 0 (pow_pos 0) h) (cases_lt b 1)

-- and there is no other
pub row_none : (row : ℕ) → ((b : ℕ) → T (in_row row b) → ⊥) → row ≡ 0
row_none row none = let low = row_below row 0 (λ b t. absurd (none b t)) in omega arith

even_pow : (d : ℕ) → 1 ≤ d → 2 ^ d % 2 ≡ 0
even_pow d h =
    let e : 2 ^ (d - 1 + 1) ≡ 2 ^ (d - 1) * 2 = pow-add 2 (d - 1) 1 in
    let f : d - 1 + 1 ≡ d = omega arith in
    let k : 2 ^ d ≡ 2 ^ (d - 1) * 2 = ap (λ x. 2 ^ x) (sym f) ∙ e in
    omega arith

-- a power of two has one form
in_row_pow : (k b : ℕ) → in_row (2 ^ k) b ≡ eqb b (k + 1)
in_row_pow k b =
    ⊎_elim (λ e. subst (λ x. in_row (2 ^ k) x ≡ eqb x (k + 1)) (sym e) (
    let back : k + 1 - 1 ≡ k = omega arith in
    let q : 2 ^ k / 2 ^ k ≡ 1 = ap (λ x. x / 2 ^ k) (omega arith) ∙ shl-shr 1 k in
    in_row_at (2 ^ k) (k + 1) (omega arith) ∙ rw (back, q) (sym (eq-eqb (k + 1) (k + 1) refl))))
    (⊎_elim
    (λ h. ⊎_elim (λ z. in_row_zero (2 ^ k) b (omega arith) ∙ sym (ne_eqb b (k + 1) (λ e. omega arith)))
    (λ z.
    let j = b - 1 in
    let f : k - j + j ≡ k = omega arith in
    let q : 2 ^ k / 2 ^ j ≡ 2 ^ (k - j) = ap (λ x. x / 2 ^ j) (ap (λ x. 2 ^ x) (sym f) ∙ pow-add 2 (k - j) j) ∙ shl-shr (2 ^ (k - j)) j in
    in_row_at (2 ^ k) b z ∙ ap (λ x. eqb (x % 2) 1) q ∙ ap (λ x. eqb x 1) (even_pow (k - j) (omega arith)) ∙ sym (ne_eqb b (k + 1) (λ e. omega arith)))
    (cases_lt b 1))
    (λ h. in_row_past (2 ^ k) b (k + 1) (pow_below k (k + 1) (omega arith)) h ∙ sym (ne_eqb b (k + 1) (λ e. omega arith))))
    (cases_order b (k + 1))

-- one form more, as the code sets it
pub in_row_with : (row b x : ℕ) → Within 16 b → in_row (bit_or row ((1 * 2 ^ (b - 1)) % 65536)) x ≡ (in_row row x || eqb x b)
in_row_with row b x w =
    let up : b - 1 + 1 ≡ b = omega arith in
    in_row_or row ((1 * 2 ^ (b - 1)) % 65536) x
    ∙ ap (λ n. in_row row x || in_row n x) (one_shl (b - 1) 16 (omega arith))
    ∙ ap (λ t. in_row row x || t) (in_row_pow (b - 1) x ∙ ap (eqb x) up)

-- a number that is 1 less than a power of two has every form below
in_row_below : (n b : ℕ) → 1 ≤ b → b ≤ n → in_row (2 ^ n - 1) b ≡ true
in_row_below n b h l =
    let k = b - 1 in
    let d = 2 ^ (n - k) in
    let pd : 0 < d = pow_pos (n - k) in
    let pk : 0 < 2 ^ k = pow_pos k in
    let f : n - k + k ≡ n = omega arith in
    let whole : d * 2 ^ k ≡ 2 ^ n = sym (pow-add 2 (n - k) k) ∙ ap (λ x. 2 ^ x) f in
    let even : d % 2 ≡ 0 = even_pow (n - k) (omega arith) in
    let up : d - 1 + 1 ≡ d = omega arith in
    let parts : d * 2 ^ k ≡ (d - 1) * 2 ^ k + 1 * 2 ^ k = ap (λ x. x * 2 ^ k) (sym up) ∙ add-mul (d - 1) 1 (2 ^ k) in
    let m : 2 ^ n - 1 ≡ (d - 1) * 2 ^ k + (2 ^ k - 1) = omega arith in
    let q : (2 ^ n - 1) / 2 ^ k ≡ d - 1 = ap (λ x. x / 2 ^ k) m ∙ shr_high (d - 1) k (2 ^ k - 1) (omega arith) in
    let odd : (d - 1) % 2 ≡ 1 = omega arith in
    in_row_at (2 ^ n - 1) b h ∙ eq-eqb ((2 ^ n - 1) / 2 ^ k % 2) 1 (ap (λ x. x % 2) q ∙ odd)

-- so it has the first n forms and no others
pub in_row_first_forms : (n b : ℕ) → in_row (2 ^ n - 1) b ≡ (leb 1 b && leb b n)
in_row_first_forms n b =
    let pn : 0 < 2 ^ n = pow_pos n in
    ⊎_elim (λ z. in_row_zero (2 ^ n - 1) b (omega arith) ∙ sym (and_left _ _ (lt-leb 1 b z)))
    (λ z. ⊎_elim (λ past. in_row_past (2 ^ n - 1) b n (omega arith) past ∙ sym (and_right (leb 1 b) _ (lt-leb b n past)))
    (λ near. in_row_below n b z near ∙ sym (rw (le-leb 1 b z, le-leb b n near) refl))
    (cases_lt n b))
    (cases_lt b 1)

-- the same of sixteen set bits, shifted until n are left
pub in_row_up_to : (n b : ℕ) → Within 16 n → in_row (65535 / 2 ^ (16 - n)) b ≡ (leb 1 b && leb b n)
in_row_up_to n b w =
    let d = 16 - n in
    let pd : 0 < 2 ^ d = pow_pos d in
    let pn : 0 < 2 ^ n = pow_pos n in
    let f : n + d ≡ 16 = omega arith in
    let whole : 2 ^ n * 2 ^ d ≡ 65536 = sym (pow-add 2 n d) ∙ ap (λ x. 2 ^ x) f in
    let up : 2 ^ n - 1 + 1 ≡ 2 ^ n = omega arith in
    let parts : 2 ^ n * 2 ^ d ≡ (2 ^ n - 1) * 2 ^ d + 1 * 2 ^ d = ap (λ x. x * 2 ^ d) (sym up) ∙ add-mul (2 ^ n - 1) 1 (2 ^ d) in
    let m : 65535 ≡ (2 ^ n - 1) * 2 ^ d + (2 ^ d - 1) = omega arith in
    let is : 65535 / 2 ^ d ≡ 2 ^ n - 1 = ap (λ x. x / 2 ^ d) m ∙ shr_high (2 ^ n - 1) d (2 ^ d - 1) (omega arith) in
    ap (λ x. in_row x b) is ∙ in_row_first_forms n b

-- sixteen bits, all set
pub in_row_all : (b : ℕ) → Within 16 b → in_row 65535 b ≡ true
in_row_all b w = in_row_below 16 b w.0 w.1
