-- For worked examples, which the checker computes: a table of cases, each a value that the definitions compute and the value that it is to be.
use Rattle.std.specs.Prelude.{◌≡◌, List, [], ◌∷◌}

pub data Case : Type 1 where
  case : (A : Type 0) → A → A → Case

-- a case is right if its two values are equal
abbrev pub Right : Case → Type 0
Right (case A computed expected) = computed ≡ expected

-- every case of a table is right
infixr 20 ◌&◌
pub data AllRight : List Case → Type 1 where
  end : AllRight []
  ◌&◌ : {c : Case} {cs : List Case} → Right c → AllRight cs → AllRight (c ∷ cs)
