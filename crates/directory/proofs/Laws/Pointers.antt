-- Laws: a pointer no bytes further on is itself.
use Rattle.std.specs.Prelude.{◌≡◌, ℕ, ◌+◌}
use Rattle.std.proofs.Common.{ap, arith}
use Rattle.directory.specs.Pointers.{further}

pub further-none : (pointer : ℕ × ℕ) → pointer ≡ further pointer 0
further-none pointer = let e : pointer.1 ≡ 0 + pointer.1 = omega arith in ap (λ (n : ℕ). (pointer.0, n)) e
