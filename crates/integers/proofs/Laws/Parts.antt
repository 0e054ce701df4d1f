-- Laws: an integer as a difference of naturals. z is up z - dn z, and one of the two is 0.
-- `omega` reads naturals only. Handed the ruleset `zs` it reads and proves what is said of integers as facts of their parts. Of a
-- compound term it knows nothing by itself: list one fact for each, `sum x y` for x +ℤ y, `dif` for -ℤ, `prod` for *ℤ, `neg` for neg_ℤ,
-- `abs` for nat_abs, as in `omega (arith, zs, sum x y, prod a b)`.
use Rattle.std.specs.Prelude.{ℤ, pos, negsuc, neg_ℤ, nat_abs, ◌+ℤ◌, ◌-ℤ◌, ◌*ℤ◌, ◌≤ℤ◌, ◌<ℤ◌, T, ltb, leb, Bool, true, false, not, cond, ◌↔◌, ◌≡◌, refl, ℕ, zero, suc, ◌+◌, ◌-◌, ◌*◌, ◌^◌, ◌≤◌, ◌<◌}
use Rattle.std.proofs.Math.IntN.{sub_ℕ}
use Rattle.std.specs.Int.Signed.{lt_z, le_z, non_neg}
use Rattle.std.proofs.Math.Dec.{leb-suc-suc}
use Rattle.std.proofs.Common.{ltb→lt, nltb→le, lt→ltb, leb→le, le→leb, ltb-true, ltb-false, leb-true, leb-false, lt-ltb, le-ltb, le-leb, sym, ap, ◌∙◌, subst, arith, add-zero, zero-add, mul-zero, zero-mul, SFits}
use Rattle.std.proofs.lemmas.Bool.{lt-leb}
use Rattle.std.specs.Int.{w64}
use Rattle.integers.specs.Parts.{positive_part, negative_part, ∣◌∣}

-- one of the parts is 0. It costs `omega` a split, so it is listed only where an order is known and a bound on a part is wanted
pub tight : (z : ℤ) → positive_part z ≡ positive_part z - negative_part z
tight (pos n) = omega arith
tight (negsuc n) = omega arith

-- ---- compound terms
-- z is p - n, and its parts are at most p and n
pub record Is (z : ℤ) (p n : ℕ) : Type 0 where
  pub eq : positive_part z + n ≡ negative_part z + p
  pub hi : positive_part z ≤ p
  pub lo : negative_part z ≤ n

sub_is : (a b : ℕ) → Is (sub_ℕ a b) a b
sub_is a b = go (ltb a b) (ltb→lt a b) (nltb→le a b)
  where
    go : (t : Bool) → (T t → a < b) → (T (not t) → b ≤ a) → Is (cond t (negsuc (b - suc a)) (pos (a - b))) a b
    go true f g = omega (arith, f tt)
    go false f g = omega (arith, g tt)

pub sum : (x y : ℤ) → Is (x +ℤ y) (positive_part x + positive_part y) (negative_part x + negative_part y)
sum (pos a) (pos b) = omega arith
sum (pos a) (negsuc b) = omega (arith, sub_is a (suc b))
sum (negsuc a) (pos b) = omega (arith, sub_is b (suc a))
sum (negsuc a) (negsuc b) = omega arith

pub neg : (x : ℤ) → (positive_part (neg_ℤ x) ≡ negative_part x) × (negative_part (neg_ℤ x) ≡ positive_part x)
neg (pos zero) = (refl, refl)
neg (pos (suc n)) = (refl, refl)
neg (negsuc n) = (refl, refl)

pub dif : (x y : ℤ) → Is (x -ℤ y) (positive_part x + negative_part y) (negative_part x + positive_part y)
dif x y = omega (arith, sum x (neg_ℤ y), neg y)

pub prod : (x y : ℤ) → (positive_part (x *ℤ y) ≡ positive_part x * positive_part y + negative_part x * negative_part y) × (negative_part (x *ℤ y) ≡ positive_part x * negative_part y + negative_part x * positive_part y)
prod (pos a) (pos b) = omega (arith, mul-zero a, zero-mul b)
prod (pos a) (negsuc b) = omega (arith, neg (pos (a * suc b)))
prod (negsuc a) (pos b) = omega (arith, neg (pos (suc a * b)))
prod (negsuc a) (negsuc b) = omega arith

pub abs : (z : ℤ) → nat_abs z ≡ ∣ z ∣
abs (pos n) = omega arith
abs (negsuc n) = omega arith

-- a product whose factors are compound: `mult (sum x y) (self z)` for (x +ℤ y) *ℤ z, `mult (times x y) (dif z w)` for x *ℤ y *ℤ (z -ℤ w)
pub self : (x : ℤ) → Is x (positive_part x) (negative_part x)
self x = omega arith

pub times : (x y : ℤ) → Is (x *ℤ y) (positive_part x * positive_part y + negative_part x * negative_part y) (positive_part x * negative_part y + negative_part x * positive_part y)
times x y = omega (arith, prod x y)

pub mult : {x y : ℤ} {p n p' n' : ℕ} → Is x p n → Is y p' n' → positive_part (x *ℤ y) + (p * n' + n * p') ≡ negative_part (x *ℤ y) + (p * p' + n * n')
mult {x} {y} {p} {n} {p'} {n'} i j =
    let e = ap (λ (k : ℕ). k * p') i.eq in let e' = ap (λ (k : ℕ). k * n') i.eq in
    let d = ap (λ (k : ℕ). positive_part x * k) j.eq in let d' = ap (λ (k : ℕ). negative_part x * k) j.eq in omega (arith, prod x y)

-- ---- the tests of order, as tests of naturals
le_z_parts : (a b : ℤ) → le_z a b ≡ leb (positive_part a + negative_part b) (positive_part b + negative_part a)
le_z_parts (pos a) (pos b) = rw (add-zero a, add-zero b)
le_z_parts (pos a) (negsuc b) = sym (lt-leb (a + suc b) 0 (omega arith))
le_z_parts (negsuc a) (pos b) = sym (le-leb 0 (b + suc a) (omega arith))
le_z_parts (negsuc a) (negsuc b) = rw (zero-add (suc b), zero-add (suc a)) (sym (leb-suc-suc b a))

lt_z_parts : (a b : ℤ) → lt_z a b ≡ ltb (positive_part a + negative_part b) (positive_part b + negative_part a)
lt_z_parts (pos a) (pos b) = rw (add-zero a, add-zero b)
lt_z_parts (pos a) (negsuc b) = sym (le-ltb (a + suc b) 0 (omega arith))
lt_z_parts (negsuc a) (pos b) = sym (lt-ltb 0 (b + suc a) (omega arith))
lt_z_parts (negsuc a) (negsuc b) = rw (zero-add (suc b), zero-add (suc a)) (sym (leb-suc-suc (suc b) a))

-- ---- the rules: `-h` reads what is known, `-g` turns what is to be shown. Where an argument is explicit, no later one shows it to antt
pub le_h : {a b : ℤ} → a ≤ℤ b → positive_part a + negative_part b ≤ positive_part b + negative_part a
le_h {a} {b} h = leb→le _ _ (subst T (le_z_parts a b) h.le)

pub le_g : {a b : ℤ} → positive_part a + negative_part b ≤ positive_part b + negative_part a → a ≤ℤ b
le_g {a} {b} h = record { le = subst T (sym (le_z_parts a b)) (le→leb _ _ h) }

pub lt_h : {a b : ℤ} → a <ℤ b → positive_part a + negative_part b < positive_part b + negative_part a
lt_h {a} {b} h = ltb→lt _ _ (subst T (lt_z_parts a b) h.lt)

pub lt_g : {a b : ℤ} → positive_part a + negative_part b < positive_part b + negative_part a → a <ℤ b
lt_g {a} {b} h = record { lt = subst T (sym (lt_z_parts a b)) (lt→ltb _ _ h) }

pub eq_h : {a b : ℤ} → a ≡ b → positive_part a + negative_part b ≡ positive_part b + negative_part a
eq_h {a} {b} h = subst (λ (x : ℤ). positive_part a + negative_part x ≡ positive_part x + negative_part a) h refl

pub eq_g : {a b : ℤ} → positive_part a + negative_part b ≡ positive_part b + negative_part a → a ≡ b
eq_g {a = pos a} {b = pos b} h = ap pos (omega arith)
eq_g {a = pos a} {b = negsuc b} h = absurd (omega arith)
eq_g {a = negsuc a} {b = pos b} h = absurd (omega arith)
eq_g {a = negsuc a} {b = negsuc b} h = ap negsuc (omega arith)

pub le_z_true_h : (a b : ℤ) → le_z a b ≡ true → positive_part a + negative_part b ≤ positive_part b + negative_part a
le_z_true_h a b e = leb-true _ _ (sym (le_z_parts a b) ∙ e)

pub le_z_true_g : (a b : ℤ) → positive_part a + negative_part b ≤ positive_part b + negative_part a → le_z a b ≡ true
le_z_true_g a b h = le_z_parts a b ∙ le-leb _ _ h

pub le_z_false_h : (a b : ℤ) → le_z a b ≡ false → positive_part b + negative_part a < positive_part a + negative_part b
le_z_false_h a b e = leb-false _ _ (sym (le_z_parts a b) ∙ e)

pub le_z_false_g : (a b : ℤ) → positive_part b + negative_part a < positive_part a + negative_part b → le_z a b ≡ false
le_z_false_g a b h = le_z_parts a b ∙ lt-leb _ _ h

pub lt_z_true_h : (a b : ℤ) → lt_z a b ≡ true → positive_part a + negative_part b < positive_part b + negative_part a
lt_z_true_h a b e = ltb-true _ _ (sym (lt_z_parts a b) ∙ e)

pub lt_z_true_g : (a b : ℤ) → positive_part a + negative_part b < positive_part b + negative_part a → lt_z a b ≡ true
lt_z_true_g a b h = lt_z_parts a b ∙ lt-ltb _ _ h

pub lt_z_false_h : (a b : ℤ) → lt_z a b ≡ false → positive_part b + negative_part a ≤ positive_part a + negative_part b
lt_z_false_h a b e = ltb-false _ _ (sym (lt_z_parts a b) ∙ e)

pub lt_z_false_g : (a b : ℤ) → positive_part b + negative_part a ≤ positive_part a + negative_part b → lt_z a b ≡ false
lt_z_false_g a b h = lt_z_parts a b ∙ le-ltb _ _ h

pub non_neg_h : (z : ℤ) → T (non_neg z) → negative_part z ≡ 0
non_neg_h (pos n) t = refl
non_neg_h (negsuc n) t = absurd t

pub non_neg_g : (z : ℤ) → negative_part z ≡ 0 → T (non_neg z)
non_neg_g (pos n) e = tt
non_neg_g (negsuc n) e = absurd (omega arith)

-- in the range of a signed 64-bit integer, exactly
pub sfits_parts : (z : ℤ) → SFits w64 z ↔ ((positive_part z < 2 ^ 63) × (negative_part z ≤ 2 ^ 63))
sfits_parts (pos n) = (λ f. omega (arith, f.sfits), λ h. record { sfits = h.0 })
sfits_parts (negsuc n) = (λ f. omega (arith, f.sfits), λ h. record { sfits = h.1 })

-- the rules for it are of the size, so that they cost no split: they leave the least integer out
pub sfits_h : {z : ℤ} → SFits w64 z → ∣ z ∣ ≤ 2 ^ 63
sfits_h {z} f = omega (arith, (sfits_parts z).0 f, tight z)

pub sfits_g : {z : ℤ} → ∣ z ∣ < 2 ^ 63 → SFits w64 z
sfits_g {z} h = (sfits_parts z).1 (omega arith)

pub ruleset zs = (
  le_h,
  le_g,
  lt_h,
  lt_g,
  eq_h,
  eq_g,
  le_z_true_h,
  le_z_true_g,
  le_z_false_h,
  le_z_false_g,
  lt_z_true_h,
  lt_z_true_g,
  lt_z_false_h,
  lt_z_false_g,
  non_neg_h,
  non_neg_g,
  sfits_h,
  sfits_g,
)
