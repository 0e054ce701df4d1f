-- Model of the code: the events of the changed sources in a buffer. What they are by document 01: Laws/EventBytes.
use Rattle.std.specs.Prelude.{◌≡◌, true, cond, List, [], ◌++◌, ℕ, ◌+◌, ◌≤◌, ℤ, length, take, drop}
use Rattle.integers.specs.Parts.{∣◌∣}
use Rattle.bitset.specs.Mask.{has}
use Rattle.plan.specs.Numbers.{M}
use Rattle.plan.specs.Lists.{int_at, joined}
use Rattle.machine.specs.Instant.{bytes_of_event}

-- one for each source in the mask, by ascending source number
unfoldable pub events_in : (t changed : ℕ) → List ℤ → List ℕ
events_in t changed values = joined (λ i. cond (has changed i) (bytes_of_event t i (int_at values i)) []) 64

-- bytes in the place of those from byte `at` on
unfoldable pub put_at : List ℕ → ℕ → List ℕ → List ℕ
put_at buffer at bytes = take at buffer ++ (bytes ++ drop (at + length bytes) buffer)

pub record EventsReady (t changed : ℕ) (values : List ℤ) (at size : ℕ) : Type 0 where
  pub room : at + length (events_in t changed values) ≤ size
  pub sized : (i : ℕ) → has changed i ≡ true → ∣ int_at values i ∣ ≤ M
