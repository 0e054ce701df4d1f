-- Binding definition: where a part lies in memory. A pointer is a block and an offset in it.
use Rattle.std.specs.Prelude.{ℕ, ◌+◌}

-- a pointer some bytes further on
abbrev pub further : ℕ × ℕ → ℕ → ℕ × ℕ
further pointer bytes = (pointer.0, bytes + pointer.1)
