-- Model of the code: what the section writers ask, that each number fits a word. `fitting` of `planwriter`, Laws/SectionWriting, shows it for every
-- plan that keeps the rules.
use Rattle.std.specs.Prelude.{List, ℕ, ◌^◌, ◌<◌, ℤ}
use Rattle.std.specs.Int.Signed.{mag}
use Rattle.plan.specs.Lists.{nat_at, int_at}

-- the first `count` numbers of an array fit a word, unsigned and signed
pub record Unsigned32 (count : ℕ) (xs : List ℕ) : Type 0 where
  pub small : (i : ℕ) → i < count → nat_at xs i < 2 ^ 32

pub record Signed32 (count : ℕ) (zs : List ℤ) : Type 0 where
  pub small : (i : ℕ) → i < count → mag (int_at zs i) < 2 ^ 31
