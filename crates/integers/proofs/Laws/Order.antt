-- Laws: the order and the ring of the integers, as far as the library leaves them out. `lib.Signed` has ≤ℤ-refl, <ℤ-≤ℤ-trans, <ℤ-irrefl and
-- clashℤ; `lib.IntN` has +ℤ-assoc, +ℤ-comm, *ℤ-comm, the units, the inverses and the cancellations.
use Rattle.std.specs.Prelude.{ℤ, pos, ◌+ℤ◌, ◌-ℤ◌, ◌*ℤ◌, ◌≤ℤ◌, ◌<ℤ◌, Bool, true, false, not, ◌↔◌, ◌⊎◌, ◌≡◌, refl, ℕ, ◌+◌, ◌*◌, ◌≤◌, ◌<◌}
use Rattle.std.specs.Int.Signed.{lt_z, le_z}
use Rattle.std.proofs.Common.{inl, inr, arith, mul-le-mul, mul-le-mul_left}
use Rattle.std.proofs.Math.Nat.{mul-lt-mul_of_pos_left}
use Rattle.integers.specs.Parts.{∣◌∣}
use Rattle.integers.proofs.Laws.Parts.{sum, dif, prod, mult, times, self, le_h, lt_h, zs}

-- ---- the order
pub ≤ℤ-trans : {x y z : ℤ} → x ≤ℤ y → y ≤ℤ z → x ≤ℤ z
≤ℤ-trans h k = omega (arith, zs)

pub ≤ℤ-<ℤ-trans : {x y z : ℤ} → x ≤ℤ y → y <ℤ z → x <ℤ z
≤ℤ-<ℤ-trans h k = omega (arith, zs)

pub <ℤ-≤ℤ : {x y : ℤ} → x <ℤ y → x ≤ℤ y
<ℤ-≤ℤ h = omega (arith, zs)

pub ≤ℤ-antisym : {x y : ℤ} → x ≤ℤ y → y ≤ℤ x → x ≡ y
≤ℤ-antisym h k = omega (arith, zs)

-- ---- the tests decide it
pub le_z_true : (x y : ℤ) → (le_z x y ≡ true) ↔ (x ≤ℤ y)
le_z_true x y = omega (arith, zs)

pub le_z_false : (x y : ℤ) → (le_z x y ≡ false) ↔ (y <ℤ x)
le_z_false x y = omega (arith, zs)

pub lt_z_true : (x y : ℤ) → (lt_z x y ≡ true) ↔ (x <ℤ y)
lt_z_true x y = omega (arith, zs)

pub lt_z_false : (x y : ℤ) → (lt_z x y ≡ false) ↔ (y ≤ℤ x)
lt_z_false x y = omega (arith, zs)

-- each test is the other's complement, with the sides exchanged
pub lt_z_not_le_z : (x y : ℤ) → lt_z x y ≡ not (le_z y x)
lt_z_not_le_z x y = go (le_z y x) refl
  where
    go : (t : Bool) → le_z y x ≡ t → lt_z x y ≡ not t
    go true e = omega (arith, zs)
    go false e = omega (arith, zs)

pub ≤ℤ-or-<ℤ : (x y : ℤ) → (x ≤ℤ y) ⊎ (y <ℤ x)
≤ℤ-or-<ℤ x y = go (le_z x y) refl
  where
    go : (t : Bool) → le_z x y ≡ t → (x ≤ℤ y) ⊎ (y <ℤ x)
    go true e = inl (omega (arith, zs))
    go false e = inr (omega (arith, zs))

-- ---- sums and products keep it
pub +ℤ-mono : (x y z w : ℤ) → x ≤ℤ y → z ≤ℤ w → (x +ℤ z) ≤ℤ (y +ℤ w)
+ℤ-mono x y z w h k = omega (arith, zs, sum x z, sum y w)

pub -ℤ-mono : (x y z w : ℤ) → x ≤ℤ y → z ≤ℤ w → (x -ℤ w) ≤ℤ (y -ℤ z)
-ℤ-mono x y z w h k = omega (arith, zs, dif x w, dif y z)

pub *ℤ-mono : (k : ℕ) (x y : ℤ) → x ≤ℤ y → (pos k *ℤ x) ≤ℤ (pos k *ℤ y)
*ℤ-mono k x y h = omega (arith, zs, prod (pos k) x, prod (pos k) y, mul-le-mul_left k (le_h h))

pub *ℤ-mono-< : (k : ℕ) (x y : ℤ) → 0 < k → x <ℤ y → (pos k *ℤ x) <ℤ (pos k *ℤ y)
*ℤ-mono-< k x y p h = omega (arith, zs, prod (pos k) x, prod (pos k) y, mul-lt-mul_of_pos_left (lt_h h) p)

-- ---- the ring
pub *ℤ-assoc : (x y z : ℤ) → (x *ℤ y) *ℤ z ≡ x *ℤ (y *ℤ z)
*ℤ-assoc x y z = omega (arith, zs, mult (times x y) (self z), mult (self x) (times y z))

pub *ℤ-+ℤ : (x y z : ℤ) → x *ℤ (y +ℤ z) ≡ x *ℤ y +ℤ x *ℤ z
*ℤ-+ℤ x y z = omega (arith, zs, mult (self x) (sum y z), prod x y, prod x z, sum (x *ℤ y) (x *ℤ z))

pub *ℤ--ℤ : (x y z : ℤ) → x *ℤ (y -ℤ z) ≡ x *ℤ y -ℤ x *ℤ z
*ℤ--ℤ x y z = omega (arith, zs, mult (self x) (dif y z), prod x y, prod x z, dif (x *ℤ y) (x *ℤ z))

-- ---- sizes, from the operands' sizes
pub size_add : (x y : ℤ) (a b : ℕ) → ∣ x ∣ ≤ a → ∣ y ∣ ≤ b → ∣ x +ℤ y ∣ ≤ a + b
size_add x y a b h k = omega (arith, sum x y)

pub size_sub : (x y : ℤ) (a b : ℕ) → ∣ x ∣ ≤ a → ∣ y ∣ ≤ b → ∣ x -ℤ y ∣ ≤ a + b
size_sub x y a b h k = omega (arith, dif x y)

pub size_mul : (x y : ℤ) (a b : ℕ) → ∣ x ∣ ≤ a → ∣ y ∣ ≤ b → ∣ x *ℤ y ∣ ≤ a * b
size_mul x y a b h k = omega (arith, prod x y, mul-le-mul h k)
