-- Laws: division that rounds towards minus infinity, and division of naturals that rounds up, each with the law that determines it.
use Rattle.std.specs.Prelude.{ℤ, pos, negsuc, ◌+ℤ◌, ◌*ℤ◌, ◌≤ℤ◌, ◌<ℤ◌, ◌≡◌, refl, ℕ, ◌+◌, ◌-◌, ◌*◌, ◌/◌, ◌≤◌, ◌<◌}
use Rattle.std.specs.Int.Signed.{mag_shr, ≤ℤ_refl}
use Rattle.std.proofs.Common.{arith, mul-le-mul_right, le_antisymm, SFits}
use Rattle.std.proofs.Math.Nat.{mul-div-le, lt-mul-div-succ, lt_of_mul-lt-mul_left, div-le_of_le-mul}
use Rattle.std.proofs.lemmas.Grind.{div_ceil_times}
use Rattle.std.specs.Int.{w64, int_div_euclid, div_ceil}
use mir.ValLaws.{sfits_le}
use Rattle.integers.specs.Parts.{positive_part, negative_part, ∣◌∣}
use Rattle.integers.proofs.Laws.Parts.{sum, prod, mult, self, zs}
use Rattle.integers.proofs.Laws.Order.{≤ℤ-antisym}
use Rattle.integers.specs.Division.{floor_div, ceil_div, Ceil}

-- ---- rounded down

-- k r ≤ v < k (r + 1), by parts: the fact by which `omega` reads r = floor_div v k
pub record Floor (v : ℤ) (k : ℕ) (r : ℤ) : Type 0 where
  pub below : k * positive_part r + negative_part v ≤ positive_part v + k * negative_part r
  pub above : positive_part v + k * negative_part r < k * positive_part r + k + negative_part v

-- the library's quotient whose remainder is not negative
pub floor_euclid : (v : ℤ) (k : ℕ) → int_div_euclid v (pos k) ≡ floor_div v k
floor_euclid (pos a) k = refl
floor_euclid (negsuc a) k = refl

pub floor : (v : ℤ) (k : ℕ) → 0 < k → Floor v k (floor_div v k)
floor (pos a) k h = omega (arith, mul-div-le a k, lt-mul-div-succ a h)
floor (negsuc a) k h = omega (arith, mul-div-le a k, lt-mul-div-succ a h)

-- the law as one reads it
pub floor_law : (v : ℤ) (k : ℕ) → 0 < k → ((pos k *ℤ floor_div v k) ≤ℤ v) × (v <ℤ (pos k *ℤ (floor_div v k +ℤ pos 1)))
floor_law v k h =
    let r = floor_div v k in let f = floor v k h in
    (omega (arith, zs, prod (pos k) r), omega (arith, zs, mult (self (pos k)) (sum r (pos 1))))

-- a dividend that is not smaller has a quotient that is not smaller
floor_le : (v w r s : ℤ) (k : ℕ) → Floor v k r → Floor w k s → v ≤ℤ w → r ≤ℤ s
floor_le v w r s k f g h =
    let e : k * (positive_part r + negative_part s) < k * (positive_part s + negative_part r + 1) = omega (arith, zs) in
    omega (arith, zs, lt_of_mul-lt-mul_left k e)

-- the law determines the quotient
pub floor_unique : (v r : ℤ) (k : ℕ) → 0 < k → (pos k *ℤ r) ≤ℤ v → v <ℤ (pos k *ℤ (r +ℤ pos 1)) → r ≡ floor_div v k
floor_unique v r k h a b =
    let f = floor v k h in
    let g : Floor v k r = omega (arith, zs, prod (pos k) r, mult (self (pos k)) (sum r (pos 1))) in
    ≤ℤ-antisym (floor_le v v r (floor_div v k) k g f (≤ℤ_refl v)) (floor_le v v (floor_div v k) r k f g (≤ℤ_refl v))

pub floor_mono : (v w : ℤ) (k : ℕ) → 0 < k → v ≤ℤ w → floor_div v k ≤ℤ floor_div w k
floor_mono v w k p h = floor_le v w (floor_div v k) (floor_div w k) k (floor v k p) (floor w k p) h

pub floor_size : (v : ℤ) (k b : ℕ) → ∣ v ∣ ≤ k * b → ∣ floor_div v k ∣ ≤ b
floor_size (pos a) k b h = let e : a / k ≤ b = div-le_of_le-mul k (omega arith) in omega arith
floor_size (negsuc a) k b h = let e : k * (a / k) < k * b = omega (arith, mul-div-le a k) in omega (arith, lt_of_mul-lt-mul_left k e)

pub floor_fits : (v : ℤ) (k : ℕ) → SFits w64 v → SFits w64 (floor_div v k)
floor_fits v k f = sfits_le (mag_shr v k) f

-- ---- rounded up

-- a quotient by b with b - 1 more than a above the line
quotient : (a b n : ℕ) → 0 < b → a + b ≡ n + 1 → Ceil a b (n / b)
quotient a b n p e = omega (arith, mul-div-le n b, lt-mul-div-succ n p)

pub ceil : (a b : ℕ) → 0 < b → Ceil a b (ceil_div a b)
unfolding ceil_div
ceil a b p = quotient a b _ p (omega arith)

-- the least number that is enough
pub ceil_least : {a b t : ℕ} (u : ℕ) → Ceil a b t → a ≤ b * u → t ≤ u
ceil_least {a} {b} {t} u c h = let e : b * t < b * (u + 1) = omega arith in omega (arith, lt_of_mul-lt-mul_left b e)

-- the law determines it
pub ceil_unique : {a b t : ℕ} → 0 < b → Ceil a b t → t ≡ ceil_div a b
ceil_unique {a} {b} {t} p c = let d = ceil a b p in le_antisymm (ceil_least (ceil_div a b) c d.enough) (ceil_least t d c.enough)

pub ceil_zero : (b : ℕ) → 0 < b → ceil_div 0 b ≡ 0
ceil_zero b p = omega (arith, ceil_least 0 (ceil 0 b p) (omega arith))

pub ceil_one : (a b : ℕ) → 0 < b → 1 ≤ a → 1 ≤ ceil_div a b
ceil_one a b p h = let e : b * 0 < b * ceil_div a b = omega (arith, ceil a b p) in lt_of_mul-lt-mul_left b e

pub ceil_most : (a b : ℕ) → 0 < b → ceil_div a b ≤ a
ceil_most a b p = ceil_least a (ceil a b p) (omega (arith, mul-le-mul_right a p))

-- by sums of which none is above a
pub ceil_less-one : (a b : ℕ) → 0 < b → 1 ≤ a → (a - 1) / b + 1 ≡ ceil_div a b
ceil_less-one a b p h = ceil_unique p (omega (arith, mul-div-le (a - 1) b, lt-mul-div-succ (a - 1) p))

-- the library's quotient
pub div_ceil_is : (a b : ℕ) → 0 < b → div_ceil a b ≡ ceil_div a b
div_ceil_is a b p =
    let bounds = div_ceil_times a b p in ceil_unique p (record { enough = omega (arith, bounds); less = omega (arith, bounds) })
