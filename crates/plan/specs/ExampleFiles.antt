-- For worked examples, which the checker computes: "A cup in full" as its bytes and as its plan, and files made of a horizon and the words of five
-- sections.
use Rattle.std.specs.Prelude.{List, [], ◌∷◌, ◌++◌, ℕ, ◌+◌, ◌*◌, pos, negsuc, length, replicate}
use Rattle.words.specs.Word.{flat}
use Rattle.plan.specs.declared.Plan.{Plan}

-- the pairs of sections that start at an offset
abbrev pub pairs_from : ℕ → List (List ℕ) → List ℕ
pairs_from at [] = []
pairs_from at (s ∷ ss) = at ∷ 4 * length s ∷ pairs_from (at + 4 * length s) ss

abbrev pub one_behind_the_other : List (List ℕ) → List ℕ
one_behind_the_other [] = []
one_behind_the_other (s ∷ ss) = s ++ one_behind_the_other ss

-- the file of a horizon and the words of five sections
abbrev pub file_of : (horizon : ℕ) (integrators inputs nodes links commands : List ℕ) → List ℕ
file_of horizon integrators inputs nodes links commands =
    let parts = integrators ∷ inputs ∷ nodes ∷ links ∷ commands ∷ [] in
    flat (horizon ∷ (pairs_from 44 parts ++ one_behind_the_other parts))

-- "Horizon 10; integrators (0, quantum 10), (0, quantum 1,000); one input, 3; links (0, source 2, 65,536), (1, source 0, 65,536);
-- command tick 6, input 0, −3. Pairs: (44,16) (60,4) (64,0) (64,24) (88,12)."
abbrev pub cup_file : List ℕ
cup_file =
    10 ∷ 0 ∷ 0 ∷ 0 ∷ 44 ∷ 0 ∷ 0 ∷ 0 ∷ 16 ∷ 0 ∷ 0 ∷ 0 ∷ 60 ∷ 0 ∷ 0 ∷ 0 ∷ 4 ∷ 0 ∷ 0 ∷ 0 ∷ 64 ∷ 0 ∷ 0 ∷ 0 ∷ 0 ∷ 0 ∷ 0 ∷ 0 ∷ 64 ∷ 0 ∷ 0 ∷ 0
    ∷ 24 ∷ 0 ∷ 0 ∷ 0 ∷ 88 ∷ 0 ∷ 0 ∷ 0 ∷ 12 ∷ 0 ∷ 0 ∷ 0
    ∷ 0 ∷ 0 ∷ 0 ∷ 0 ∷ 10 ∷ 0 ∷ 0 ∷ 0 ∷ 0 ∷ 0 ∷ 0 ∷ 0 ∷ 232 ∷ 3 ∷ 0 ∷ 0
    ∷ 3 ∷ 0 ∷ 0 ∷ 0
    ∷ 0 ∷ 0 ∷ 0 ∷ 0 ∷ 2 ∷ 0 ∷ 0 ∷ 0 ∷ 0 ∷ 0 ∷ 1 ∷ 0 ∷ 1 ∷ 0 ∷ 0 ∷ 0 ∷ 0 ∷ 0 ∷ 0 ∷ 0 ∷ 0 ∷ 0 ∷ 1 ∷ 0
    ∷ 6 ∷ 0 ∷ 0 ∷ 0 ∷ 0 ∷ 0 ∷ 0 ∷ 0 ∷ 253 ∷ 255 ∷ 255 ∷ 255 ∷ []

abbrev pub cup_plan : Plan
cup_plan = record {
  horizon = 10;
  counts = record { n = 2; m = 1; k = 0; links = 2; commands = 1 };
  integrators = record { starts = replicate 32 (pos 0); quanta = pos 10 ∷ pos 1000 ∷ replicate 30 (pos 0) };
  inputs = record { firsts = pos 3 ∷ replicate 7 (pos 0) };
  nodes = record { kinds = replicate 16 0; a = replicate 16 0; b = replicate 16 0; lows = replicate 16 (pos 0); highs = replicate 16 (pos 0) };
  links = record { targets = 0 ∷ 1 ∷ replicate 254 0; sources = 2 ∷ 0 ∷ replicate 254 0; coefficients = pos 65536 ∷ pos 65536 ∷ replicate 254 (pos 0) };
  commands = record { ticks = 6 ∷ replicate 63 0; inputs = replicate 64 0; values = negsuc 2 ∷ replicate 63 (pos 0) };
}
