-- Laws: signed 64-bit locals. A local holds an integer's bits, so a need shows an operand as the bits read back, `rd z`, which is z where z fits.
use Rattle.std.specs.Prelude.{ℤ, pos, negsuc, nat_abs, ◌+ℤ◌, ◌-ℤ◌, ◌*ℤ◌, T, ltb, Bool, true, false, not, ◌≡◌, ℕ, suc, ◌+◌, ◌-◌, ◌*◌, ◌^◌, ◌≤◌, ◌<◌}
use Rattle.std.specs.Int.Signed.{non_neg}
use Rattle.std.proofs.Common.{ltb→lt, nltb→le, sym, ap, ◌∙◌, arith, to_z-of_z}
use Rattle.std.specs.Int.{w64}
use mir.Val.{SFits, Fits, to_z, of_z, sel}
use Rattle.std.proofs.Math.Facts.{Fits-nat_abs}
use Rattle.integers.specs.Parts.{positive_part, negative_part, ∣◌∣}
use Rattle.integers.proofs.Laws.Parts.{non_neg_g, zs}
use Rattle.integers.proofs.Laws.Order.{size_add, size_sub, size_mul}

-- ---- reading a local
abbrev pub rd : ℤ → ℤ
rd z = to_z w64 (of_z w64 z)

-- for `omega`, beside a term of which only `rd z` is seen
pub read : {z : ℤ} → SFits w64 z → (positive_part (rd z) ≡ positive_part z) × (negative_part (rd z) ≡ negative_part z)
read f = (ap positive_part (to_z-of_z f), ap negative_part (to_z-of_z f))

-- both operands at once, for `simp`: by `to_z-of_z` alone it stays at x + s * t, where one operand is a local and the other is compound
rd_both : (op : ℤ → ℤ → ℤ) {x y : ℤ} → SFits w64 x → SFits w64 y → op (rd x) (rd y) ≡ op x y
rd_both op {x} {y} f g = ap (λ (z : ℤ). op z (rd y)) (to_z-of_z f) ∙ ap (op x) (to_z-of_z g)

pub rd_add : {x y : ℤ} → SFits w64 x → SFits w64 y → rd x +ℤ rd y ≡ x +ℤ y
rd_add = rd_both ◌+ℤ◌

pub rd_sub : {x y : ℤ} → SFits w64 x → SFits w64 y → rd x -ℤ rd y ≡ x -ℤ y
rd_sub = rd_both ◌-ℤ◌

pub rd_mul : {x y : ℤ} → SFits w64 x → SFits w64 y → rd x *ℤ rd y ≡ x *ℤ y
rd_mul = rd_both ◌*ℤ◌

pub ruleset reads = (rd_add, rd_sub, rd_mul)

-- whatever the bits are, what is read fits: for a loop's variable, or one that the arms of a branch assign
pub any : (n : ℕ) → SFits w64 (to_z w64 n)
any n = go (ltb n (2 ^ 63)) (ltb→lt n (2 ^ 63)) (nltb→le n (2 ^ 63))
  where
    go : (t : Bool) → (T t → n < 2 ^ 63) → (T (not t) → 2 ^ 63 ≤ n) → SFits w64 (sel t (pos n) (negsuc (2 ^ 64 - suc n)))
    go true f g = record { sfits = f tt }
    go false f g = record { sfits = omega (arith, g tt) }

-- what a cast to a u64 asks of an integer that is not negative
pub as_u64 : (z : ℤ) → negative_part z ≡ 0 → SFits w64 z → T (non_neg z) × Fits w64 (nat_abs z)
as_u64 z h f = (non_neg_g z h, Fits-nat_abs tt f)

-- `==` on signed integers compares their bits
pub same_bits : {x y : ℤ} → SFits w64 x → SFits w64 y → of_z w64 x ≡ of_z w64 y → x ≡ y
same_bits f g e = sym (to_z-of_z f) ∙ ap (to_z w64) e ∙ to_z-of_z g

-- ---- what fits, from sizes: `search (needs, sized)` closes an operation's need where bounds on the operands' sizes are in reach
pub fits_size : (x : ℤ) (a : ℕ) → ∣ x ∣ ≤ a → T (ltb a (2 ^ 63)) → SFits w64 x
fits_size x a h t = omega (arith, zs, ltb→lt a (2 ^ 63) t)

pub fits_add : (x y : ℤ) (a b : ℕ) → ∣ x ∣ ≤ a → ∣ y ∣ ≤ b → T (ltb (a + b) (2 ^ 63)) → SFits w64 (x +ℤ y)
fits_add x y a b h k t = fits_size (x +ℤ y) (a + b) (size_add x y a b h k) t

pub fits_sub : (x y : ℤ) (a b : ℕ) → ∣ x ∣ ≤ a → ∣ y ∣ ≤ b → T (ltb (a + b) (2 ^ 63)) → SFits w64 (x -ℤ y)
fits_sub x y a b h k t = fits_size (x -ℤ y) (a + b) (size_sub x y a b h k) t

pub fits_mul : (x y : ℤ) (a b : ℕ) → ∣ x ∣ ≤ a → ∣ y ∣ ≤ b → T (ltb (a * b) (2 ^ 63)) → SFits w64 (x *ℤ y)
fits_mul x y a b h k t = fits_size (x *ℤ y) (a * b) (size_mul x y a b h k) t

pub ruleset sized = (fits_add, fits_sub, fits_mul, fits_size)
