-- The laws of the compact book's store: the three of holding, and what it keeps without labels.
use Rattle.std.specs.Prelude.{◌≡◌, ℕ, ◌<◌, ◌&&◌, T}
use Rattle.std.proofs.Common.{subst, ⊎_elim, arith}
use Rattle.std.proofs.lemmas.Bool.{and_parts, and_from, cases_order}
use Rattle.std.proofs.lemmas.Bool.Decides.{nat_tests}
use Rattle.rules.specs.Votes.{greatest}
use Rattle.rules.specs.Tables.{Table}
use Rattle.rules.proofs.Truth.{is_true, passes}
use Rattle.books.specs.Views.{Forms}
use Rattle.books.specs.Holding.{HoldsClosed, HoldsCommon, HoldsFewer, cut}
use Rattle.books.specs.declared.frame.Frame.{Frame}
use Rattle.books.specs.Compact.{Tails, CompactRows, Exact}

top : (p q b : ℕ) → p < q → q < b → greatest p q b ≡ b
top p q b h k = grind (arith, nat_tests)

fixed : (a b : ℕ) → greatest a a b ≡ a
fixed a b = grind (arith, nat_tests)

-- the pairs of a cut table
pub cut_parts : (L M : Forms) (t : Table) (a b : ℕ) → T (cut L M t a b) → T (t a b) × (T (L a) × T (M b))
cut_parts L M t a b h =
    let p = and_parts (t a b) (L a && M b) (is_true _ h) in
    let q = and_parts (L a) (M b) p.1 in
    (passes _ p.0, (passes _ q.0, passes _ q.1))

pub cut_from : (L M : Forms) (t : Table) (a b : ℕ) → T (t a b) → T (L a) → T (M b) → T (cut L M t a b)
cut_from L M t a b h l m = passes _ (and_from (t a b) (L a && M b) (is_true _ h) (and_from (L a) (M b) (is_true _ l) (is_true _ m)))

-- the vote of (a, p), (a, q) and the pair of b is (a, b)
pub tails_closed : HoldsClosed greatest Tails
tails_closed L M t closed partner a la p q b tp tq h k mb =
    let x = cut_parts L M t a p tp in
    let y = cut_parts L M t a q tq in
    ⊎_elim (λ e. subst (λ z. T (cut L M t a z)) e tq)
    (⊎_elim (λ l.
    let other = partner.second b mb in
    let v : T (t (greatest a a other.0) (greatest p q b)) = closed a p x.0 a q y.0 other.0 b other.1.1 in
    cut_from L M t a b (subst (λ z. T (t z b)) (fixed a other.0) (subst (λ z. T (t (greatest a a other.0) z)) (top p q b h l) v)) la mb)
    (λ l. absurd (omega arith)))
    (cases_order q b)

pub tails_common : HoldsCommon Tails
tails_common L M s t hs ht a la p q b tp tq h k mb =
    let x = and_parts (s a p) (t a p) (is_true _ tp) in
    let y = and_parts (s a q) (t a q) (is_true _ tq) in
    passes _ (and_from (s a b) (t a b) (is_true _ (hs a la p q b (passes _ x.0) (passes _ y.0) h k mb)) (is_true _ (ht a la p q b (passes _ x.1) (passes _ y.1) h k mb)))

pub tails_fewer : HoldsFewer Tails
tails_fewer L M L' M' t sl sm ht a la p q b tp tq h k mb =
    let x = cut_parts L' M' t a p tp in
    let y = cut_parts L' M' t a q tq in
    cut_from L' M' t a b (ht a (sl a la) p q b x.0 y.0 h k (sm b mb)) la mb

-- there are no two labels whose rows would be kept
pub exact_none : (f : Frame) (s : CompactRows) → f.count ≡ 0 → Exact f s
exact_none f s none i j a o w = absurd (omega (arith, o.0, o.1.0, o.1.1, none))
